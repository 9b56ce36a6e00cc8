-- Comparisons of all pairs of two normal sets: only the first starts and the last ends decide. Assumes nothing.
use mathlib.Core.Path.{◌≡◌, refl, sym, ap, subst, ◌∙◌}
use Prim.Native.Nat.{ℕ, ◌-◌, ◌<◌}
use native.Mathlib.Omega.{arith}
use lib.ListN.{length, get_or}
use mathlib.Core.Bool.{Bool, true, false, not, cond, ◌||◌}
use mathlib.Core.Logic.{⊎_elim}
use mathlib.Core.List.{List, [], ◌∷◌, ◌++◌}
use lib.IntN.{ℤ, pos}
use lib.Signed.{◌≤ℤ◌, le_z, lt_z, ≤ℤ_refl}
use Rattle.meaning.specs.Number.{smaller, larger}
use Rattle.meaning.specs.Interval.{Interval, span, each, meet_pair}
use Rattle.meaning.specs.NumberIntervals.{Set, apart, Normal, some_of, some_pair, filled, share, each_pair, insert, rebuild, intersect, intervals, flat, constant, same_number, ne_bools}
use Rattle.laws.proofs.Integers.{zarith, never, same_test, or_left, or_right, or_cases, suc_parts, cond_case}
use Rattle.laws.proofs.Members.{Each}
use Rattle.laws.proofs.Flat.{normal_even}
use Rattle.sets.specs.Sets.{SetEnds}
use Rattle.bools.proofs.Ends.{top, Bounds, bounds}

-- ---- some interval of a list

pub some_elim : {Q : Type 0} (p : ℤ → ℤ → Bool) (l : Set) → Each (λ s e. p s e ≡ true → Q) l → some_of p l ≡ true → Q
unfolding some_of
some_elim p [] h e = never (sym e)
some_elim {Q} p (i ∷ l) h e = ⊎_elim (λ t. h.0 t) (λ t. some_elim p l h.1 t) (or_cases (p i.lo i.hi) (some_of p l) e)

pub some_first : (p : ℤ → ℤ → Bool) (i : Interval) (l : Set) → p i.lo i.hi ≡ true → some_of p (i ∷ l) ≡ true
unfolding some_of
some_first p i l e = or_left (some_of p l) e

pub some_top : (q : ℤ → Bool) (i : Interval) (l : Set) → q (top i l) ≡ true → some_of (λ s e. q e) (i ∷ l) ≡ true
unfolding some_of top
some_top q i [] e = or_left (some_of (λ s e. q e) []) e
some_top q i (j ∷ l) e = or_right (q i.hi) (some_top q j l e)

-- ---- some pair, from the right set's side

some_none : (l : Set) → some_of (λ s e. false) l ≡ false
unfolding some_of
some_none [] = refl
some_none (i ∷ l) = some_none l

some_or : (p q : ℤ → ℤ → Bool) (l : Set) → some_of (λ s e. p s e || q s e) l ≡ (some_of p l || some_of q l)
unfolding some_of
some_or p q [] = refl
some_or p q (i ∷ l) = ap (λ (b : Bool). (p i.lo i.hi || q i.lo i.hi) || b) (some_or p q l) ∙ or_pairs (p i.lo i.hi) (q i.lo i.hi) (some_of p l) (some_of q l)
  where
    or_pairs : (a b c d : Bool) → ((a || b) || (c || d)) ≡ ((a || c) || (b || d))
    or_pairs true b c d = refl
    or_pairs false true true d = refl
    or_pairs false true false d = refl
    or_pairs false false true d = refl
    or_pairs false false false d = refl

pub some_swap : (p : ℤ → ℤ → ℤ → ℤ → Bool) (a b : Set) → some_pair p a b ≡ some_pair (λ t f s e. p s e t f) b a
unfolding some_of
some_swap p [] b = sym (some_none b)
some_swap p (i ∷ a) b = ap (λ (x : Bool). some_of (p i.lo i.hi) b || x) (some_swap p a b) ∙ sym (some_or (p i.lo i.hi) (λ t f. some_of (λ s e. p s e t f) a) b)

-- ---- the first start is the least, the last end the greatest

low_all : (x : ℤ) (i : Interval) (l : Set) → x ≤ℤ i.lo → Normal (i ∷ l) → Each (λ s e. x ≤ℤ s) (i ∷ l)
low_all x i [] h n = (h, tt)
low_all x i (j ∷ l) h n = (h, low_all x j l (omega (zarith, n.0.ordered, n.1, suc_parts i.hi)) n.2)

top_high : (i : Interval) (l : Set) → Normal (i ∷ l) → i.hi ≤ℤ top i l
unfolding top
top_high i [] n = ≤ℤ_refl i.hi
top_high i (j ∷ l) n = let h = top_high j l n.2 in omega (zarith, n.1, n.2.0.ordered, suc_parts i.hi, h)

high_all : (i : Interval) (l : Set) → Normal (i ∷ l) → Each (λ s e. e ≤ℤ top i l) (i ∷ l)
unfolding top
high_all i [] n = (≤ℤ_refl i.hi, tt)
high_all i (j ∷ l) n = (top_high i (j ∷ l) n, high_all j l n.2)

each_map : (P Q : ℤ → ℤ → Type 0) (l : Set) → ((s e : ℤ) → P s e → Q s e) → Each P l → Each Q l
each_map P Q [] f h = tt
each_map P Q (i ∷ l) f h = (f i.lo i.hi h.0, each_map P Q l f h.1)

-- ---- a test that a smaller left and a larger right number keep

module _ (R : ℤ → ℤ → Bool) (keeps : (x y u v : ℤ) → u ≤ℤ x → y ≤ℤ v → R x y ≡ true → R u v ≡ true) (i j : Interval) (a b : Set) (n : Normal (i ∷ a)) (k : Normal (j ∷ b)) where
  -- some left start and some right end
  pub start_end : some_pair (λ s e t f. R s f) (i ∷ a) (j ∷ b) ≡ R i.lo (top j b)
  start_end =
      same_test (some_pair (λ s e t f. R s f) (i ∷ a) (j ∷ b)) (R i.lo (top j b))
      (some_elim (λ s e. some_of (λ t f. R s f) (j ∷ b)) (i ∷ a)
      (each_map (λ s e. i.lo ≤ℤ s) (λ s e. some_of (λ t f. R s f) (j ∷ b) ≡ true → R i.lo (top j b) ≡ true) (i ∷ a)
      (λ s e h. some_elim (λ t f. R s f) (j ∷ b)
      (each_map (λ t f. f ≤ℤ top j b) (λ t f. R s f ≡ true → R i.lo (top j b) ≡ true) (j ∷ b) (λ t f g r. keeps s f i.lo (top j b) h g r) (high_all j b k)))
      (low_all i.lo i a (≤ℤ_refl i.lo) n)))
      (λ r. some_first (λ s e. some_of (λ t f. R s f) (j ∷ b)) i a (some_top (R i.lo) j b r))

  -- some right start and some left end
  pub end_start : some_pair (λ s e t f. R t e) (i ∷ a) (j ∷ b) ≡ R j.lo (top i a)
  end_start =
      same_test (some_pair (λ s e t f. R t e) (i ∷ a) (j ∷ b)) (R j.lo (top i a))
      (some_elim (λ s e. some_of (λ t f. R t e) (j ∷ b)) (i ∷ a)
      (each_map (λ s e. e ≤ℤ top i a) (λ s e. some_of (λ t f. R t e) (j ∷ b) ≡ true → R j.lo (top i a) ≡ true) (i ∷ a)
      (λ s e h. some_elim (λ t f. R t e) (j ∷ b)
      (each_map (λ t f. j.lo ≤ℤ t) (λ t f. R t e ≡ true → R j.lo (top i a) ≡ true) (j ∷ b) (λ t f g r. keeps t e j.lo (top i a) g h r) (low_all j.lo j b (≤ℤ_refl j.lo) k)))
      (high_all i a n)))
      (λ r. some_top (λ e. some_of (λ t f. R t e) (j ∷ b)) i a (some_first (λ t f. R t (top i a)) j b r))

pub le_keeps : (x y u v : ℤ) → u ≤ℤ x → y ≤ℤ v → le_z x y ≡ true → le_z u v ≡ true
le_keeps x y u v h k e = omega zarith

pub lt_keeps : (x y u v : ℤ) → u ≤ℤ x → y ≤ℤ v → lt_z x y ≡ true → lt_z u v ≡ true
lt_keeps x y u v h k e = omega zarith

none_left : (p : ℤ → ℤ → ℤ → ℤ → Bool) (b : Set) → some_pair p [] b ≡ false
unfolding some_of
none_left p b = refl

none_right : (p : ℤ → ℤ → ℤ → ℤ → Bool) (a : Set) → some_pair p a [] ≡ false
unfolding some_of
none_right p [] = refl
none_right p (i ∷ a) = none_right p a

-- ---- two sets share a number just when their intersection has an interval

filled_append : (a b : Set) → filled (a ++ b) ≡ (filled a || filled b)
filled_append [] b = refl
filled_append (i ∷ a) b = refl

filled_each : (g : ℤ → ℤ → List Interval) (p : ℤ → ℤ → Bool) (l : Set) → ((s e : ℤ) → filled (g s e) ≡ p s e) → filled (each g l) ≡ some_of p l
unfolding each some_of
filled_each g p [] h = refl
filled_each g p (i ∷ l) h = filled_append (g i.lo i.hi) (each g l) ∙ (λ x. h i.lo i.hi x || filled_each g p l h x)

filled_meet : (s e t f : ℤ) → filled (meet_pair s e t f) ≡ le_z (larger s t) (smaller e f)
unfolding meet_pair
filled_meet s e t f = cond_case (λ l. filled l ≡ le_z (larger s t) (smaller e f)) (le_z (larger s t) (smaller e f)) (span (larger s t) (smaller e f)) [] (λ h. sym h) (λ h. sym h)

filled_insert : (a b : ℤ) (s : Set) → filled (insert a b s) ≡ true
unfolding insert
filled_insert a b [] = refl
filled_insert a b (i ∷ s) =
    cond_case (λ l. filled l ≡ true) (apart i.hi a) (i ∷ insert a b s) (cond (apart b i.lo) (record { lo = a; hi = b } ∷ i ∷ s) (insert (smaller a i.lo) (larger b i.hi) s))
    (λ _. refl)
    (λ _. cond_case (λ l. filled l ≡ true) (apart b i.lo) (record { lo = a; hi = b } ∷ i ∷ s) (insert (smaller a i.lo) (larger b i.hi) s) (λ _. refl) (λ _. filled_insert (smaller a i.lo) (larger b i.hi) s))

filled_rebuild : (l : List Interval) → filled (rebuild l) ≡ filled l
unfolding rebuild
filled_rebuild [] = refl
filled_rebuild (i ∷ l) = filled_insert i.lo i.hi (rebuild l)

pub filled_meets : (a b : Set) → filled (intersect a b) ≡ share a b
unfolding intersect
filled_meets a b =
    filled_rebuild (each_pair meet_pair a b) ∙ filled_each (λ s e. each (meet_pair s e) b) (λ s e. some_of (λ t f. le_z (larger s t) (smaller e f)) b) a (λ s e. filled_each
    (meet_pair s e) (λ t f. le_z (larger s t) (smaller e f)) b (λ t f. filled_meet s e t f))

-- ---- what le, lt and ne may be, by the ends that decide

short_none : (l : List ℤ) → length l < 2 → intervals l ≡ []
unfolding intervals
short_none [] h = refl
short_none (s ∷ []) h = refl
short_none (s ∷ e ∷ r) h = absurd (omega arith)

-- a set without an interval has no pair
module _ (p : ℤ → ℤ → ℤ → ℤ → Bool) (l m : List ℤ) where
  pub empty_left : length l < 2 → false ≡ some_pair p (intervals l) (intervals m)
  empty_left h = sym (ap (λ (a : Set). some_pair p a (intervals m)) (short_none l h) ∙ none_left p (intervals m))

  pub empty_right : length m < 2 → false ≡ some_pair p (intervals l) (intervals m)
  empty_right h = sym (ap (some_pair p (intervals l)) (short_none m h) ∙ none_right p (intervals l))

module _ (l m : List ℤ) (a : SetEnds l) (b : SetEnds m) (p : 1 < length l) (q : 1 < length m) where
  lefts : Bounds l
  lefts = bounds l (normal_even l a.test) p

  rights : Bounds m
  rights = bounds m (normal_even m b.test) q

  left_is : Normal (lefts.head ∷ lefts.tail)
  left_is = subst Normal lefts.is a.is

  right_is : Normal (rights.head ∷ rights.tail)
  right_is = subst Normal rights.is b.is

  module _ (R : ℤ → ℤ → Bool) (keeps : (x y u v : ℤ) → u ≤ℤ x → y ≤ℤ v → R x y ≡ true → R u v ≡ true) where
    pub by_start_end : some_pair (λ s e t f. R s f) (intervals l) (intervals m) ≡ R (get_or l 0 (pos 0)) (get_or m (length m - 1) (pos 0))
    by_start_end =
        (λ i. some_pair (λ s e t f. R s f) (lefts.is i) (rights.is i))
        ∙ start_end R keeps lefts.head rights.head lefts.tail rights.tail left_is right_is
        ∙ (λ i. R (sym lefts.first i) (sym rights.last i))

    pub by_end_start : some_pair (λ s e t f. R t e) (intervals l) (intervals m) ≡ R (get_or m 0 (pos 0)) (get_or l (length l - 1) (pos 0))
    by_end_start =
        (λ i. some_pair (λ s e t f. R t e) (lefts.is i) (rights.is i))
        ∙ end_start R keeps lefts.head rights.head lefts.tail rights.tail left_is right_is
        ∙ (λ i. R (sym rights.first i) (sym lefts.last i))

-- ---- ne, by how many numbers the intersection has

flat_none : (s : Set) → length (flat s) ≡ 0 → filled s ≡ false
unfolding flat
flat_none [] h = refl
flat_none (i ∷ s) h = absurd (omega arith)

flat_some : (s : Set) → (length (flat s) ≡ 0 → ⊥) → filled s ≡ true
unfolding flat
flat_some [] h = absurd (h refl)
flat_some (i ∷ s) h = refl

module _ (a b : Set) (n : ℕ) (e : n ≡ length (flat (intersect a b))) where
  pub ne_apart : n ≡ 0 → record { bfalse = false; btrue = true } ≡ ne_bools a b
  unfolding ne_bools
  ne_apart h =
      let t : share a b ≡ false = sym (filled_meets a b) ∙ flat_none (intersect a b) (sym e ∙ h) in
      let u : (not (share a b) || not (same_number (constant a) (constant b))) ≡ true = or_left (not (same_number (constant a) (constant b))) (ap not t) in
      λ i. record { bfalse = sym t i; btrue = sym u i }

  pub ne_shared : (n ≡ 0 → ⊥) → (one : Bool) → one ≡ same_number (constant a) (constant b) → record { bfalse = true; btrue = not one } ≡ ne_bools a b
  unfolding ne_bools
  ne_shared h one s =
      let t : share a b ≡ true = sym (filled_meets a b) ∙ flat_some (intersect a b) (λ z. h (e ∙ z)) in
      let u : (not (share a b) || not (same_number (constant a) (constant b))) ≡ not one = ap (λ (x : Bool). not x || not (same_number (constant a) (constant b))) t ∙ ap not (sym s) in
      λ i. record { bfalse = sym t i; btrue = sym u i }
