-- To read a form and then fold it is to fold while reading (`fuse_arg`), and a relation that literals, registers and operations keep holds between what two
-- algebras make of one text (`rel_arg`). Both go by the brackets left. Assumes nothing.
use mathlib.Core.Path.{◌≡◌, refl, ap, ◌∙◌, subst}
use mathlib.Core.List.{List}
use mathlib.Core.Bool.{Bool, true, false, cond, ◌||◌}
use Prim.Native.Nat.{ℕ, zero, suc, ◌+◌, ◌<◌}
use Prim.Native.Char.{code}
use native.Mathlib.Omega.{arith}
use lib.IntN.{ℤ}
use lib.ListN.{get_or, take, drop}
use lib.Dec.{eqb, ltb}
use borrow.Author.Tests.{ltb-true}
use Rattle.meaning.specs.Number.{Op1, Op2}
use Rattle.meaning.specs.Sheet.{registers, beyond, far_form}
use Rattle.meaning.specs.Reading.{Got, got, bad, map_got, and_then, closed, digits, number, needless, literal, register_with, register, Head, is_reg, is1, is2, is_none, head, start, Algebra, second, on_head, form_with, arg_with, arg, tree}

-- ---- registers that are read are there

pub not_got {ℓ} : {A : Type 0} {X : Type ℓ} {a : A} {n : ℕ} → bad ≡ got a n → X
not_got e = let z : ◌≡◌ {A = ℕ} 0 1 = cc in absurd (let x : ⊥ = omega arith in x)

pub got_same : {A : Type 0} {a b : A} {n m : ℕ} → got a n ≡ got b m → a ≡ b
got_same e = cc

pub register_below : (s : List ℕ) {r n : ℕ} → register s ≡ got r n → r < registers
unfolding register_with
register_below s {r} {n} e = go (eqb (digits s) 0) (needless s (digits s)) (ltb (number 0 (take (digits s) s)) registers) refl e
  where
    go : (a b c : Bool) → ltb (number 0 (take (digits s) s)) registers ≡ c → cond a bad (cond b bad (cond c (got (number 0 (take (digits s) s)) (digits s)) bad)) ≡ got r n → r < registers
    go true b c p e = not_got e
    go false true c p e = not_got e
    go false false true p e = subst (λ (r : ℕ). r < registers) (got_same e) (ltb-true (number 0 (take (digits s) s)) registers p)
    go false false false p e = not_got e

-- ---- a map

pub map_cond : {A B : Type 0} (f : A → B) (t : Bool) (g h : Got A) (g' h' : Got B) → map_got f g ≡ g' → map_got f h ≡ h' → map_got f (cond t g h) ≡ cond t g' h'
map_cond f true g h g' h' e e' = e
map_cond f false g h g' h' e e' = e'

map_then : {A B C D : Type 0} (f : A → B) (f' : C → D) (g : Got A) (k : A → ℕ → Got C) (k' : B → ℕ → Got D) → ((a : A) (n : ℕ) → map_got f' (k a n) ≡ k' (f a) n)
    → map_got f' (and_then g k) ≡ and_then (map_got f g) k'
map_then f f' (got a n) k k' h = h a n
map_then f f' bad k k' h = refl

pub map_any : {A C D : Type 0} (f : C → D) (g : Got A) (k : A → ℕ → Got C) (k' : A → ℕ → Got D) → ((a : A) (n : ℕ) → map_got f (k a n) ≡ k' a n) → map_got f (and_then g k) ≡ and_then g k'
map_any f (got a n) k k' h = h a n
map_any f bad k k' h = refl

pub map_closed : {A B : Type 0} (f : A → B) (s : List ℕ) (i : ℕ) (a : A) (b : B) → f a ≡ b → map_got f (closed s i a) ≡ closed s i b
unfolding closed
map_closed {B} f s i a b e = map_cond f (eqb (get_or s i 0) (code ")")) (got a (i + 1)) bad (got b (i + 1)) bad (ap (λ (x : B). got x (i + 1)) e) refl

module _ {A B : Type 0} (f : A → B) (α : Algebra A) (β : Algebra B)
    (on_lit : (z : ℤ) → f (α.on_lit z) ≡ β.on_lit z) (on_reg : (r : ℕ) → f (α.on_reg r) ≡ β.on_reg r)
    (on_one : (o : Op1) (a : A) → f (α.on1 o a) ≡ β.on1 o (f a)) (on_two : (o : Op2) (a b : A) → f (α.on2 o a b) ≡ β.on2 o (f a) (f b)) where
  fuse_literal : (g : Got ℤ) → map_got f (map_got α.on_lit g) ≡ map_got β.on_lit g
  fuse_literal (got z n) = ap (λ (x : B). got x n) (on_lit z)
  fuse_literal bad = refl

  module _ (p : List ℕ → Got A) (q : List ℕ → Got B) (e : (t : List ℕ) → map_got f (p t) ≡ q t) where
    fuse_second : (s : List ℕ) (o : Op2) (i : ℕ) (a : A) → map_got f (second α p s o i a) ≡ second β q s o i (f a)
    fuse_second s o i a =
        map_cond f (eqb (get_or s i 0) (code " "))
        (and_then (p (drop (i + 1) s)) (λ b m. closed s (i + 1 + m) (α.on2 o a b))) bad
        (and_then (q (drop (i + 1) s)) (λ b m. closed s (i + 1 + m) (β.on2 o (f a) b))) bad
        (map_then f f (p (drop (i + 1) s)) (λ b m. closed s (i + 1 + m) (α.on2 o a b)) (λ b m. closed s (i + 1 + m) (β.on2 o (f a) b))
        (λ b m. map_closed f s (i + 1 + m) (α.on2 o a b) (β.on2 o (f a) (f b)) (on_two o a b))
        ∙ ap (λ (g : Got B). and_then g (λ b m. closed s (i + 1 + m) (β.on2 o (f a) b))) (e (drop (i + 1) s)))
        refl

    fuse_head : (s : List ℕ) (k : ℕ) (h : Head) → map_got f (on_head α p s k h) ≡ on_head β q s k h
    fuse_head s k is_reg =
        map_any f (register (drop k s)) (λ r n. closed s (k + n) (α.on_reg r)) (λ r n. closed s (k + n) (β.on_reg r))
        (λ r n. map_closed f s (k + n) (α.on_reg r) (β.on_reg r) (on_reg r))
    fuse_head s k (is1 o) =
        map_then f f (p (drop k s)) (λ a n. closed s (k + n) (α.on1 o a)) (λ b n. closed s (k + n) (β.on1 o b))
        (λ a n. map_closed f s (k + n) (α.on1 o a) (β.on1 o (f a)) (on_one o a))
        ∙ ap (λ (g : Got B). and_then g (λ b n. closed s (k + n) (β.on1 o b))) (e (drop k s))
    fuse_head s k (is2 o) =
        map_then f f (p (drop k s)) (λ a n. second α p s o (k + n) a) (λ b n. second β q s o (k + n) b) (λ a n. fuse_second s o (k + n) a)
        ∙ ap (λ (g : Got B). and_then g (λ b n. second β q s o (k + n) b)) (e (drop k s))
    fuse_head s k is_none = refl

    fuse_arg_with : (s : List ℕ) → map_got f (arg_with α p s) ≡ arg_with β q s
    fuse_arg_with s =
        map_cond f (eqb (get_or s 0 0) (code "(")) (p s) (map_got α.on_lit (literal s)) (q s) (map_got β.on_lit (literal s)) (e s) (fuse_literal (literal s))

  pub fuse_arg : (d : ℕ) (s : List ℕ) → map_got f (arg α d s) ≡ arg β d s
  unfolding arg
  fuse_arg zero s = fuse_arg_with (λ t. bad) (λ t. bad) (λ t. refl) s
  fuse_arg (suc d) s =
      fuse_arg_with (form_with α (λ t. arg α d t)) (form_with β (λ t. arg β d t))
      (λ t. fuse_head (λ u. arg α d u) (λ u. arg β d u) (λ u. fuse_arg d u) t (start t) (head t)) s

-- ---- a relation

-- both read, with related values over as many bytes, or neither
abbrev pub Related : {A B : Type 0} → (A → B → Type 0) → Got A → Got B → Type 0
Related R (got a n) (got b m) = R a b × (n ≡ m)
Related R (got a n) bad = ⊥
Related R bad (got b m) = ⊥
Related R bad bad = Unit {0}

rel_cond : {A B : Type 0} (R : A → B → Type 0) (t : Bool) (g h : Got A) (g' h' : Got B) → Related R g g' → Related R h h' → Related R (cond t g h) (cond t g' h')
rel_cond R true g h g' h' e e' = e
rel_cond R false g h g' h' e e' = e'

pub rel_then : {A B C D : Type 0} (R : A → B → Type 0) (R' : C → D → Type 0) (g : Got A) (g' : Got B) (k : A → ℕ → Got C) (k' : B → ℕ → Got D)
    → Related R g g' → ((a : A) (b : B) (n : ℕ) → R a b → Related R' (k a n) (k' b n)) → Related R' (and_then g k) (and_then g' k')
rel_then R R' (got a n) (got b m) k k' e h = subst (λ (x : ℕ). Related R' (k a n) (k' b x)) e.1 (h a b n e.0)
rel_then R R' (got a n) bad k k' e h = absurd e
rel_then R R' bad (got b m) k k' e h = absurd e
rel_then R R' bad bad k k' e h = tt

pub rel_closed : {A B : Type 0} (R : A → B → Type 0) (s : List ℕ) (i : ℕ) (a : A) (b : B) → R a b → Related R (closed s i a) (closed s i b)
unfolding closed
rel_closed R s i a b e = rel_cond R (eqb (get_or s i 0) (code ")")) (got a (i + 1)) bad (got b (i + 1)) bad (e, refl) tt

-- the same register on both sides, and it is there
pub rel_register : {A B : Type 0} (R : A → B → Type 0) (t : List ℕ) (k : ℕ → ℕ → Got A) (k' : ℕ → ℕ → Got B)
    → ((r n : ℕ) → r < registers → Related R (k r n) (k' r n)) → Related R (and_then (register t) k) (and_then (register t) k')
rel_register R t k k' h = go (register t) refl
  where
    go : (g : Got ℕ) → register t ≡ g → Related R (and_then g k) (and_then g k')
    go (got r n) e = h r n (register_below t e)
    go bad e = tt

module _ {A B : Type 0} (R : A → B → Type 0) (α : Algebra A) (β : Algebra B)
    (on_lit : (z : ℤ) → R (α.on_lit z) (β.on_lit z)) (on_reg : (r : ℕ) → r < registers → R (α.on_reg r) (β.on_reg r))
    (on_one : (o : Op1) (a : A) (b : B) → R a b → R (α.on1 o a) (β.on1 o b))
    (on_two : (o : Op2) (a a' : A) (b b' : B) → R a b → R a' b' → R (α.on2 o a a') (β.on2 o b b')) where
  rel_literal : (g : Got ℤ) → Related R (map_got α.on_lit g) (map_got β.on_lit g)
  rel_literal (got z n) = (on_lit z, refl)
  rel_literal bad = tt

  module _ (p : List ℕ → Got A) (q : List ℕ → Got B) (e : (t : List ℕ) → Related R (p t) (q t)) where
    rel_second : (s : List ℕ) (o : Op2) (i : ℕ) (a : A) (b : B) → R a b → Related R (second α p s o i a) (second β q s o i b)
    rel_second s o i a b r =
        rel_cond R (eqb (get_or s i 0) (code " "))
        (and_then (p (drop (i + 1) s)) (λ a' m. closed s (i + 1 + m) (α.on2 o a a'))) bad
        (and_then (q (drop (i + 1) s)) (λ b' m. closed s (i + 1 + m) (β.on2 o b b'))) bad
        (rel_then R R (p (drop (i + 1) s)) (q (drop (i + 1) s)) (λ a' m. closed s (i + 1 + m) (α.on2 o a a')) (λ b' m. closed s (i + 1 + m) (β.on2 o b b')) (e (drop (i + 1) s))
        (λ a' b' m r'. rel_closed R s (i + 1 + m) (α.on2 o a a') (β.on2 o b b') (on_two o a a' b b' r r')))
        tt

    rel_head : (s : List ℕ) (k : ℕ) (h : Head) → Related R (on_head α p s k h) (on_head β q s k h)
    rel_head s k is_reg =
        rel_register R (drop k s) (λ r n. closed s (k + n) (α.on_reg r)) (λ r n. closed s (k + n) (β.on_reg r))
        (λ r n h. rel_closed R s (k + n) (α.on_reg r) (β.on_reg r) (on_reg r h))
    rel_head s k (is1 o) =
        rel_then R R (p (drop k s)) (q (drop k s)) (λ a n. closed s (k + n) (α.on1 o a)) (λ b n. closed s (k + n) (β.on1 o b)) (e (drop k s))
        (λ a b n r. rel_closed R s (k + n) (α.on1 o a) (β.on1 o b) (on_one o a b r))
    rel_head s k (is2 o) =
        rel_then R R (p (drop k s)) (q (drop k s)) (λ a n. second α p s o (k + n) a) (λ b n. second β q s o (k + n) b) (e (drop k s))
        (λ a b n r. rel_second s o (k + n) a b r)
    rel_head s k is_none = tt

    rel_arg_with : (s : List ℕ) → Related R (arg_with α p s) (arg_with β q s)
    rel_arg_with s = rel_cond R (eqb (get_or s 0 0) (code "(")) (p s) (map_got α.on_lit (literal s)) (q s) (map_got β.on_lit (literal s)) (e s) (rel_literal (literal s))

  pub rel_arg : (d : ℕ) (s : List ℕ) → Related R (arg α d s) (arg β d s)
  unfolding arg
  rel_arg zero s = rel_arg_with (λ t. bad) (λ t. bad) (λ t. tt) s
  rel_arg (suc d) s =
      rel_arg_with (form_with α (λ t. arg α d t)) (form_with β (λ t. arg β d t))
      (λ t. rel_head (λ u. arg α d u) (λ u. arg β d u) (λ u. rel_arg d u) t (start t) (head t)) s

-- ---- whether a literal is beyond MIN..MAX, as a fold of a form

abbrev pub far_algebra : Algebra Bool
far_algebra = record { on_lit = beyond; on_reg = λ r. false; on1 = λ o a. a; on2 = λ o a b. a || b }

pub far_arg : (d : ℕ) (s : List ℕ) → map_got far_form (arg tree d s) ≡ arg far_algebra d s
unfolding far_form
far_arg = fuse_arg far_form tree far_algebra (λ z. refl) (λ r. refl) (λ o a. refl) (λ o a b. refl)
