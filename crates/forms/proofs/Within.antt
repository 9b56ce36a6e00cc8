-- What an argument takes lies within the text. Assumes nothing.
use mathlib.Core.Path.{◌≡◌, sym, subst}
use mathlib.Core.Bool.{Bool, true, false, cond}
use mathlib.Core.List.{List}
use Prim.Native.Nat.{ℕ, zero, suc, ◌+◌, ◌-◌, ◌*◌, ◌≤◌, ◌<◌}
use Prim.Native.Char.{code}
use native.Mathlib.Omega.{arith}
use lib.Dec.{eqb, ltb}
use lib.ListN.{length, get_or, take, drop}
use borrow.Author.Tests.{eqb-true, ltb-true}
use Rattle.meaning.specs.Sheet.{registers}
use Rattle.meaning.specs.Reading.{Got, got, bad, map_got, and_then, closed, digits, number, needless, literal, register_with, register, Head, is_reg, is1, is2, is_none, head, start, Algebra, on_head, form_with, arg_with, arg}
use Rattle.laws.proofs.Integers.{cond_case}
use Rattle.literals.proofs.Within.{byte_lt, Within, literal_within, part_le, register_part}

pub start_le : (s : List ℕ) → start s ≤ 5
unfolding start
start_le s = cond_case (λ n. n ≤ 5) (eqb (get_or s 3 0) (code " ")) 4 5 (λ e. omega arith) (λ e. omega arith)

then_within : {A B : Type 0} (L : ℕ) (g : Got A) (k : A → ℕ → Got B) → ((a : A) (n : ℕ) → Within L (k a n)) → Within L (and_then g k)
then_within L (got a n) k h = h a n
then_within L bad k h = tt

map_within : {A B : Type 0} (f : A → B) (L : ℕ) (g : Got A) → Within L g → Within L (map_got f g)
map_within f L (got z n) h = h
map_within f L bad h = tt

module _ {A : Type 0} (alg : Algebra A) where
  closed_within : (s : List ℕ) (i : ℕ) (a : A) → Within (length s) (closed s i a)
  unfolding closed
  closed_within s i a =
      cond_case (Within (length s)) (eqb (get_or s i 0) (code ")")) (got a (i + 1)) bad
      (λ e. let h : get_or s i 0 ≡ code ")" = eqb-true (get_or s i 0) (code ")") e in let l = byte_lt s i (omega arith) in omega arith)
      (λ _. tt)

  head_within : (f : List ℕ → Got A) (s : List ℕ) (k : ℕ) (h : Head) → Within (length s) (on_head alg f s k h)
  head_within f s k is_reg = then_within (length s) (register (drop k s)) _ (λ r n. closed_within s (k + n) (alg.on_reg r))
  head_within f s k (is1 o) = then_within (length s) (f (drop k s)) _ (λ a n. closed_within s (k + n) (alg.on1 o a))
  head_within f s k (is2 o) =
      then_within (length s) (f (drop k s)) _
      (λ a n. cond_case (Within (length s)) (eqb (get_or s (k + n) 0) (code " ")) _ _
      (λ _. then_within (length s) (f (drop (k + n + 1) s)) _ (λ b m. closed_within s (k + n + 1 + m) (alg.on2 o a b)))
      (λ _. tt))
  head_within f s k is_none = tt

  arg_with_within : (f : List ℕ → Got A) (s : List ℕ) → Within (length s) (f s) → Within (length s) (arg_with alg f s)
  arg_with_within f s h =
      cond_case (Within (length s)) (eqb (get_or s 0 0) (code "(")) _ _ (λ _. h) (λ _. map_within alg.on_lit (length s) (literal s) (literal_within s))

  pub arg_within : (d : ℕ) (s : List ℕ) → Within (length s) (arg alg d s)
  unfolding arg
  arg_within zero s = arg_with_within (λ t. bad) s tt
  arg_within (suc d) s =
      arg_with_within (form_with alg (λ t. arg alg d t)) s (head_within (λ t. arg alg d t) s (start s) (head s))

  -- in the terms of a caller that hands on the part from k on
  pub part_within : (s : List ℕ) (d k : ℕ) {t : List ℕ} {n : ℕ} {a : A} → t ≡ drop k s → got a n ≡ arg alg d t → n ≤ length s - k
  part_within s d k {t} {n} {a} et ea = part_le s k et (subst (Within (length t)) (sym ea) (arg_within d t))

-- ---- room in a word for where a part of a form ends: a slice has under 2^63 bytes, and a form's word takes at most 5

module _ (s : List ℕ) (g : length s * 1 < 9223372036854775808) {k : ℕ} (ek : k ≡ start s) where
  pub register_room : {t : List ℕ} {r n : ℕ} → t ≡ drop k s → got r n ≡ register t → k + n ≤ 9223372036854775812
  register_room et e = omega (arith, start_le s, register_part s k et (sym e))

  pub first_room : {A : Type 0} (alg : Algebra A) (d : ℕ) {t : List ℕ} {n : ℕ} {a : A} → t ≡ drop k s → got a n ≡ arg alg d t → k + n ≤ 9223372036854775812
  first_room alg d et ea = omega (arith, start_le s, part_within alg s d k et ea)

-- the space before the second argument lies in the text
module _ (s : List ℕ) (g : length s * 1 < 9223372036854775808) (j : ℕ) (h : 0 < get_or s j 0) where
  pub second_room : {A : Type 0} (alg : Algebra A) (d : ℕ) {t : List ℕ} {n : ℕ} {a : A} → t ≡ drop (j + 1) s → got a n ≡ arg alg d t → j + 1 + n ≤ 9223372036854775807
  second_room alg d et ea = omega (arith, byte_lt s j h, part_within alg s d (j + 1) et ea)

-- a register that was read is one that there is
pub register_small : (s : List ℕ) {r n : ℕ} → got r n ≡ register s → r < registers
unfolding register_with
register_small s {r} {n} e = go (eqb (digits s) 0) (needless s (digits s)) (number 0 (take (digits s) s)) (digits s) e
  where
    go : (a b : Bool) (v i : ℕ) → got r n ≡ cond a bad (cond b bad (cond (ltb v registers) (got v i) bad)) → r < registers
    go true b v i h = absurd (let z' : ◌≡◌ {A = ℕ} 0 1 = cc in omega arith)
    go false true v i h = absurd (let z' : ◌≡◌ {A = ℕ} 0 1 = cc in omega arith)
    go false false v i h =
        cond_case (λ g. got r n ≡ g → r < registers) (ltb v registers) (got v i) bad
        (λ t p. let l = ltb-true v registers t in let q : r ≡ v = cc in omega arith)
        (λ t p. absurd (let z' : ◌≡◌ {A = ℕ} 0 1 = cc in omega arith)) h
