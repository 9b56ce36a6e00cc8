-- What a literal or a register takes lies within the text. Assumes nothing.
use mathlib.Core.Path.{◌≡◌, refl, subst}
use mathlib.Core.Bool.{Bool, true, false, cond}
use mathlib.Core.List.{List, [], ◌∷◌}
use Prim.Native.Nat.{ℕ, zero, suc, ◌+◌, ◌*◌, ◌-◌, ◌≤◌, ◌<◌}
use Prim.Native.Char.{code}
use native.Mathlib.Omega.{arith}
use lib.Dec.{eqb, ltb}
use lib.IntN.{ℤ}
use lib.ListN.{length, get_or, take, drop, length-drop}
use lib.Seq.{take_all}
use borrow.Author.Tests.{eqb-true}
use Rattle.meaning.specs.Sheet.{registers}
use Rattle.meaning.specs.Reading.{Got, got, bad, is_digit, digits, number, needless, scale, signed, decimals, unsigned, literal, register_with, register}
use Rattle.laws.proofs.Integers.{cond_case}

-- a byte that is not 0 lies before the end
pub byte_lt : (s : List ℕ) (i : ℕ) → 0 < get_or s i 0 → i < length s
byte_lt [] i h = omega arith
byte_lt (x ∷ xs) zero h = omega arith
byte_lt (x ∷ xs) (suc i) h = let r = byte_lt xs i h in omega arith

abbrev pub Within : {A : Type 0} → ℕ → Got A → Type 0
Within L (got a n) = n ≤ L
Within L bad = Unit {0}

within_le : {A : Type 0} {L M : ℕ} (g : Got A) → L ≤ M → Within L g → Within M g
within_le (got a n) l h = omega arith
within_le bad l h = tt

pub digits_le : (s : List ℕ) → digits s ≤ length s
unfolding digits
digits_le [] = omega arith
digits_le (x ∷ xs) = let r = digits_le xs in cond_case (λ n. n ≤ suc (length xs)) (is_digit x) (digits xs + 1) 0 (λ _. omega arith) (λ _. omega arith)

unsigned_by : (a b c d e : Bool) (x y : ℤ) {L n m : ℕ} → n ≤ L → (c ≡ true → m ≤ L) → Within L (cond a bad (cond b bad (cond c (cond d bad (cond e bad (got x m))) (got y n))))
unsigned_by true b c d e x y h k = tt
unsigned_by false true c d e x y h k = tt
unsigned_by false false true true e x y h k = tt
unsigned_by false false true false true x y h k = tt
unsigned_by false false true false false x y h k = k refl
unsigned_by false false false d e x y h k = h

unsigned_within : (negated : Bool) (o : ℕ) (s : List ℕ) → Within (o + length s) (unsigned negated o s (digits s))
unfolding unsigned decimals
unsigned_within negated o s =
    let i : ℕ = digits s in
    let d : ℕ = digits (drop (i + 1) s) in
    unsigned_by (eqb i 0) (needless s i) (eqb (get_or s i 0) (code ".")) (eqb d 0) (ltb 3 d)
    (signed negated (number (number 0 (take i s)) (take d (drop (i + 1) s)) * scale d)) (signed negated (number 0 (take i s) * scale 0)) {L = o + length s} {n = o + i} {m = o + i + 1 + d}
    (omega (arith, digits_le s))
    (λ e.
    let h : get_or s i 0 ≡ code "." = eqb-true (get_or s i 0) (code ".") e in
    let l = byte_lt s i (omega arith) in
    omega (arith, digits_le (drop (i + 1) s), length-drop (i + 1) s))

pub literal_within : (s : List ℕ) → Within (length s) (literal s)
unfolding literal
literal_within s =
    cond_case (Within (length s)) (eqb (get_or s 0 0) (code "-")) (unsigned true 1 (drop 1 s) (digits (drop 1 s))) (unsigned false 0 s (digits s))
    (λ e.
    let h : get_or s 0 0 ≡ code "-" = eqb-true (get_or s 0 0) (code "-") e in
    let l = byte_lt s 0 (omega arith) in
    within_le (unsigned true 1 (drop 1 s) (digits (drop 1 s))) (omega (arith, length-drop 1 s)) (unsigned_within true 1 (drop 1 s)))
    (λ e. within_le (unsigned false 0 s (digits s)) (omega arith) (unsigned_within false 0 s))

register_by : (a b c : Bool) (x L n : ℕ) → n ≤ L → Within L (cond a bad (cond b bad (cond c (got x n) bad)))
register_by true b c x L n h = tt
register_by false true c x L n h = tt
register_by false false true x L n h = h
register_by false false false x L n h = tt

register_within : (s : List ℕ) → Within (length s) (register s)
unfolding register_with
register_within s =
    register_by (eqb (digits s) 0) (needless s (digits s)) (ltb (number 0 (take (digits s) s)) registers) (number 0 (take (digits s) s)) (length s) (digits s) (digits_le s)

-- what `&text[k..]` holds
pub rest_is : (s : List ℕ) (k : ℕ) → take (length s - k) (drop k s) ≡ drop k s
rest_is s k = take_all (length s - k) (drop k s) (omega (arith, length-drop k s))

-- in the terms of a caller that reads a register or a literal from k on
module _ (s : List ℕ) (k : ℕ) {t : List ℕ} {n : ℕ} (et : t ≡ drop k s) where
  pub part_le : n ≤ length t → n ≤ length s - k
  part_le h = let l : length t ≤ length s - k = rw et (omega (arith, length-drop k s)) in omega arith

  pub register_part : {r : ℕ} → register t ≡ got r n → n ≤ length s - k
  register_part e = part_le (subst (Within (length t)) e (register_within t))

  pub literal_part : {z : ℤ} → literal t ≡ got z n → n ≤ length s - k
  literal_part e = part_le (subst (Within (length t)) e (literal_within t))

-- the byte at j lies in the text, and a literal is read behind it: where it ends is in a word, since a slice has under 2^63 bytes
pub second_room : (s : List ℕ) → length s * 1 < 9223372036854775808 → (j : ℕ) → 0 < get_or s j 0 → {t : List ℕ} {n : ℕ} {z : ℤ} → t ≡ drop (j + 1) s → literal t ≡ got z n
    → j + 1 + n ≤ 9223372036854775807
second_room s g j h et e = omega (arith, byte_lt s j h, literal_part s (j + 1) et e)
