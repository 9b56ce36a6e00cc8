-- Comparisons and bools on whole sets: the point result of members is among what the answer may be. Also union, intersect and the zero in a divisor. Assumes nothing.
use lib.IntN.{ℤ, pos}
use lib.Signed.{le_z, lt_z, ◌≤ℤ◌, ≤ℤ_refl}
use mathlib.Core.Path.{◌≡◌, refl, sym, ◌∙◌, subst}
use mathlib.Core.Bool.{Bool, true, false, not, cond, ◌&&◌, ◌||◌}
use mathlib.Core.Logic.{◌⊎◌, inl, inr, ⊎_elim}
use mathlib.Core.List.{[], ◌∷◌, ◌++◌}
use Rattle.std.specs.Prelude.{Option, None, Some}
use Rattle.meaning.specs.Number.{ONE, Between, eq_z, smaller, larger, truth, of_bool}
use Rattle.meaning.specs.Bools.{BoolInterval, not_bools, and_bools, or_bools}
use Rattle.meaning.specs.Interval.{span, only, Proper, each, meet_pair, cut_to}
use Rattle.meaning.specs.NumberIntervals.{Set, ◌∈◌, here, there, contains, Normal, zero_only, filled, as_bools, of_bools, some_of, some_pair, le_bools, lt_bools, share, constant, same_number, ne_bools, union, intersect, each_pair, zero_found}
use Rattle.laws.proofs.Integers.{zarith, never, clash, cond_case, and_yes, and_both, and_cases, or_left, or_right, or_cases, or_none, not_true, not_false, eq_z_is, smaller_case, larger_case, smaller_le, larger_ge}
use Rattle.laws.proofs.Members.{AllProper, not_in_none, between, in_span, in_only, in_left, in_right, in_either, in_contains, contains_in, all_append, all_each, normal_proper, in_pairs, all_pairs, each_origin}
use Rattle.laws.proofs.Join.{in_rebuild, rebuild_in, rebuild_normal}

-- ---- back from bools: 0 and 1000

pub bools_normal : (m : BoolInterval) → Normal (of_bools m)
unfolding of_bools
bools_normal m = go m.bfalse m.btrue
  where
    zero_proper : Proper (pos 0) (pos 0)
    zero_proper = record { low = omega zarith; ordered = omega zarith; high = omega zarith }

    one_proper : Proper ONE ONE
    one_proper = record { low = omega zarith; ordered = omega zarith; high = omega zarith }

    go : (f t : Bool) → Normal (cond f (only (pos 0)) [] ++ cond t (only ONE) [])
    go true true = (zero_proper, omega zarith, (one_proper, tt, tt))
    go true false = (zero_proper, tt, tt)
    go false true = (one_proper, tt, tt)
    go false false = tt

pub in_bools : (t : Bool) (m : BoolInterval) → (t ≡ true → m.btrue ≡ true) → (t ≡ false → m.bfalse ≡ true) → of_bool t ∈ of_bools m
unfolding of_bools
in_bools true m f g =
    in_right (cond m.bfalse (only (pos 0)) []) (subst (λ (t : Bool). ONE ∈ cond t (only ONE) []) (sym (f refl)) (in_only ONE))
in_bools false m f g =
    in_left (cond m.btrue (only ONE) []) (subst (λ (t : Bool). pos 0 ∈ cond t (only (pos 0)) []) (sym (g refl)) (in_only (pos 0)))

-- ---- comparisons

-- a test that every interval with the member passes
some_of_lem : (p : ℤ → ℤ → Bool) {x : ℤ} {a : Set} → x ∈ a → ((s e : ℤ) → Between s x e → p s e ≡ true) → some_of p a ≡ true
unfolding some_of
some_of_lem p (here {i} {s} b) k = or_left (some_of p s) (k i.lo i.hi b)
some_of_lem p (there {i} {s} m) k = or_right (p i.lo i.hi) (some_of_lem p m k)

some_pair_lem : (p : ℤ → ℤ → ℤ → ℤ → Bool) {x y : ℤ} {a b : Set} → x ∈ a → y ∈ b → ((s e t f : ℤ) → Between s x e → Between t y f → p s e t f ≡ true) → some_pair p a b ≡ true
some_pair_lem p {b} mx my k = some_of_lem (λ s e. some_of (p s e) b) mx (λ s e bx. some_of_lem (p s e) my (λ t f by. k s e t f bx by))

module _ {x y : ℤ} {a b : Set} (mx : x ∈ a) (my : y ∈ b) where
  pub le_holds : of_bool (le_z x y) ∈ of_bools (le_bools a b)
  unfolding le_bools
  le_holds =
      in_bools (le_z x y) (le_bools a b)
      (λ h. some_pair_lem (λ s e t f. le_z s f) mx my (λ s e t f bx by. omega zarith))
      (λ h. some_pair_lem (λ s e t f. lt_z t e) mx my (λ s e t f bx by. omega zarith))

  pub lt_holds : of_bool (lt_z x y) ∈ of_bools (lt_bools a b)
  unfolding lt_bools
  lt_holds =
      in_bools (lt_z x y) (lt_bools a b)
      (λ h. some_pair_lem (λ s e t f. lt_z s f) mx my (λ s e t f bx by. omega zarith))
      (λ h. some_pair_lem (λ s e t f. le_z t e) mx my (λ s e t f bx by. omega zarith))

-- the number of a set of just one is its only member
constant_is : {x : ℤ} (a : Set) (c : ℤ) → x ∈ a → constant a ≡ Some c → x ≡ c
constant_is [] c m e = not_in_none m
constant_is {x} (i ∷ []) c m e =
    let b = in_span m in
    cond_case (λ (o : Option ℤ). o ≡ Some c → x ≡ c) (eq_z i.lo i.hi) (Some i.lo) None
    (λ t k. let q : i.lo ≡ c = cc in let r : x ≡ i.lo = omega zarith in r ∙ q)
    (λ t k. let q : x ≡ c = cc in q)
    e
constant_is {x} (i ∷ j ∷ s) c m e = let q : x ≡ c = cc in q

same_number_lem : {x y : ℤ} (m n : Option ℤ) → ((c : ℤ) → m ≡ Some c → x ≡ c) → ((c : ℤ) → n ≡ Some c → y ≡ c) → same_number m n ≡ true → x ≡ y
same_number_lem None n f g e = never (sym e)
same_number_lem (Some c) None f g e = never (sym e)
same_number_lem (Some c) (Some d) f g e = f c refl ∙ eq_z_is e ∙ sym (g d refl)

-- a number of two intervals is between the larger start and the smaller end
common : {s e t f z : ℤ} → Between s z e → Between t z f → (larger s t ≤ℤ z) × (z ≤ℤ smaller e f)
common {s} {e} {t} {f} {z} b c =
    (larger_case (λ l. l ≤ℤ z) s t (λ _. c.above) (λ _. b.above), smaller_case (λ g. z ≤ℤ g) e f (λ _. b.below) (λ _. c.below))

module _ {x y : ℤ} {a b : Set} (mx : x ∈ a) (my : y ∈ b) where
  -- the same number in both
  pub share_yes : eq_z x y ≡ true → share a b ≡ true
  share_yes h =
      some_pair_lem (λ s e t f. le_z (larger s t) (smaller e f)) mx my
      (λ s e t f bx by. let c = common bx (subst (λ (z : ℤ). Between t z f) (sym (eq_z_is h)) by) in omega (zarith, c.0, c.1))

  pub ne_holds : of_bool (not (eq_z x y)) ∈ of_bools (ne_bools a b)
  unfolding ne_bools
  ne_holds =
      in_bools (not (eq_z x y)) (ne_bools a b)
      (λ h. or_right (not (share a b)) (differ (not_true (eq_z x y) h) (same_number (constant a) (constant b)) refl))
      (λ h. share_yes (not_false (eq_z x y) h))
    where
      differ : eq_z x y ≡ false → (t : Bool) → same_number (constant a) (constant b) ≡ t → not t ≡ true
      differ h false e = refl
      differ h true e = let q : x ≡ y = same_number_lem (constant a) (constant b) (λ c k. constant_is a c mx k) (λ c k. constant_is b c my k) e in absurd (omega zarith)

-- ---- and, or, not

pub filled_in : {x : ℤ} (a : Set) → x ∈ a → filled a ≡ true
filled_in [] m = not_in_none m
filled_in (i ∷ s) m = refl

zero_only_lem : {x : ℤ} (a : Set) → x ∈ a → zero_only a ≡ true → eq_z x (pos 0) ≡ true
zero_only_lem [] m e = never (sym e)
zero_only_lem {x} (i ∷ []) m e = let b = in_span m in let h = and_both (eq_z i.lo (pos 0)) (eq_z i.hi (pos 0)) e in omega (zarith, h.0, h.1)
zero_only_lem (i ∷ j ∷ s) m e = never (sym e)

may_be_true : {x : ℤ} (a : Set) → x ∈ a → truth x ≡ true → (as_bools a).btrue ≡ true
unfolding as_bools
may_be_true {x} a m h = and_yes (filled_in a m) (go (zero_only a) refl)
  where
    go : (t : Bool) → zero_only a ≡ t → not t ≡ true
    go false e = refl
    go true e = clash (zero_only_lem a m e) (not_true (eq_z x (pos 0)) h)

may_be_false : {x : ℤ} (a : Set) → x ∈ a → truth x ≡ false → (as_bools a).bfalse ≡ true
unfolding as_bools
may_be_false {x} a m h = subst (λ (z : ℤ). contains z a ≡ true) (eq_z_is (not_false (eq_z x (pos 0)) h)) (in_contains m)

pub not_holds : {x : ℤ} {a : Set} → x ∈ a → of_bool (not (truth x)) ∈ of_bools (not_bools (as_bools a))
not_holds {x} {a} m =
    in_bools (not (truth x)) (not_bools (as_bools a)) (λ h. may_be_false a m (not_true (truth x) h)) (λ h. may_be_true a m (not_false (truth x) h))

module _ {x y : ℤ} {a b : Set} (mx : x ∈ a) (my : y ∈ b) where
  pub and_holds : of_bool (truth x && truth y) ∈ of_bools (and_bools (as_bools a) (as_bools b))
  and_holds =
      in_bools (truth x && truth y) (and_bools (as_bools a) (as_bools b))
      (λ h. let k = and_both (truth x) (truth y) h in and_yes (may_be_true a mx k.0) (may_be_true b my k.1))
      (λ h. ⊎_elim (λ k. or_left (as_bools b).bfalse (may_be_false a mx k)) (λ k. or_right (as_bools a).bfalse (may_be_false b my k)) (and_cases (truth x) (truth y) h))

  pub or_holds : of_bool (truth x || truth y) ∈ of_bools (or_bools (as_bools a) (as_bools b))
  or_holds =
      in_bools (truth x || truth y) (or_bools (as_bools a) (as_bools b))
      (λ h. ⊎_elim (λ k. or_left (as_bools b).btrue (may_be_true a mx k)) (λ k. or_right (as_bools a).btrue (may_be_true b my k)) (or_cases (truth x) (truth y) h))
      (λ h. let k = or_none (truth x) (truth y) h in and_yes (may_be_false a mx k.0) (may_be_false b my k.1))

-- ---- union: just the members of either set

module _ (a b : Set) (na : Normal a) (nb : Normal b) where
  both_proper : AllProper (a ++ b)
  both_proper = all_append Proper a b (normal_proper a na) (normal_proper b nb)

  pub union_normal : Normal (union a b)
  unfolding union
  union_normal = rebuild_normal (a ++ b) both_proper

  pub union_holds : {z : ℤ} → (z ∈ a) ⊎ (z ∈ b) → z ∈ union a b
  unfolding union
  union_holds (inl m) = in_rebuild (in_left b m)
  union_holds (inr m) = in_rebuild (in_right a m)

  pub union_only : {z : ℤ} → z ∈ union a b → (z ∈ a) ⊎ (z ∈ b)
  unfolding union
  union_only m = in_either a (rebuild_in (a ++ b) both_proper m)

-- ---- intersect: just the members of both

module _ {s e t f : ℤ} where
  meet_holds : {z : ℤ} → Between s z e → Between t z f → z ∈ meet_pair s e t f
  unfolding meet_pair
  meet_holds {z} b c =
      let h = common b c in
      cond_case (λ l. z ∈ l) (le_z (larger s t) (smaller e f)) (span (larger s t) (smaller e f)) []
      (λ _. here (between h.0 h.1))
      (λ u. absurd (omega (zarith, h.0, h.1)))

  meet_only : {z : ℤ} → z ∈ meet_pair s e t f → Between s z e × Between t z f
  unfolding meet_pair
  meet_only {z} m =
      let h = larger_ge s t in
      let k = smaller_le e f in
      cond_case (λ l. z ∈ l → Between s z e × Between t z f) (le_z (larger s t) (smaller e f)) (span (larger s t) (smaller e f)) []
      (λ u n. let b = in_span n in (between (omega zarith) (omega zarith), between (omega zarith) (omega zarith)))
      (λ u n. not_in_none n)
      m

  meet_proper : Proper s e → Proper t f → AllProper (meet_pair s e t f)
  unfolding meet_pair
  meet_proper p q =
      let h = larger_ge s t in
      let k = smaller_le e f in
      cond_case AllProper (le_z (larger s t) (smaller e f)) (span (larger s t) (smaller e f)) []
      (λ u. (record { low = omega (zarith, p.low); ordered = omega zarith; high = omega (zarith, p.high) }, tt))
      (λ u. tt)

-- ---- cut to [a,b], which may lie past MIN and MAX: just the members from a to b

module _ (a b : ℤ) where
  pub cut_holds : (z : ℤ) (s : Set) → z ∈ s → Between a z b → z ∈ cut_to a b s
  unfolding each
  cut_holds z (i ∷ s) (here p) q = in_left (cut_to a b s) (meet_holds p q)
  cut_holds z (i ∷ s) (there m) q = in_right (meet_pair i.lo i.hi a b) (cut_holds z s m q)
  cut_holds z [] m q = not_in_none m

  pub cut_only : (z : ℤ) (s : Set) → z ∈ cut_to a b s → (z ∈ s) × Between a z b
  unfolding each
  cut_only z [] m = not_in_none m
  cut_only z (i ∷ s) m =
      elim (in_either (meet_pair i.lo i.hi a b) m) [
        | inl k ↦ (let c = meet_only k in (here c.0, c.1))
        | inr k ↦ (let c = cut_only z s k in (there c.0, c.1))
      ]

  pub cut_proper : Proper a b → (s : Set) → AllProper s → AllProper (cut_to a b s)
  cut_proper p s h = all_each Proper Proper (λ t e. meet_pair t e a b) s h (λ t e q. meet_proper q p)

module _ (a b : Set) (na : Normal a) (nb : Normal b) where
  meets_proper : AllProper (each_pair meet_pair a b)
  meets_proper = all_pairs Proper meet_pair a b (normal_proper a na) (normal_proper b nb) (λ s e t f p q. meet_proper p q)

  pub intersect_normal : Normal (intersect a b)
  unfolding intersect
  intersect_normal = rebuild_normal (each_pair meet_pair a b) meets_proper

  pub intersect_holds : {z : ℤ} → z ∈ a → z ∈ b → z ∈ intersect a b
  unfolding intersect
  intersect_holds ma mb =
      in_rebuild (in_pairs meet_pair a b (normal_proper a na) (normal_proper b nb) ma mb (λ s e t f p q bx by. meet_holds bx by))

  pub intersect_only : {z : ℤ} → z ∈ intersect a b → (z ∈ a) × (z ∈ b)
  unfolding intersect
  intersect_only {z} m =
      let o = each_origin Proper (λ s e. each (meet_pair s e) b) a (normal_proper a na) (rebuild_in (each_pair meet_pair a b) meets_proper m) in
      let r = each_origin Proper (meet_pair o.from o.to) b (normal_proper b nb) o.result in
      let c = meet_only r.result in
      (o.members z c.0, r.members z c.1)

-- ---- a zero found in a divisor with a nonempty left set

pub zero_found_lem : {x : ℤ} (a b : Set) → x ∈ a → pos 0 ∈ b → zero_found a b ≡ true
zero_found_lem a b mx mz = and_yes (filled_in a mx) (in_contains mz)

pub zero_found_only : (a b : Set) → Normal a → zero_found a b ≡ true → ((x : ℤ) × (x ∈ a)) × (pos 0 ∈ b)
zero_found_only [] b n e = never (sym e)
zero_found_only (i ∷ s) b n e = ((i.lo, here (between (≤ℤ_refl i.lo) n.0.ordered)), contains_in (pos 0) b e)
