-- rem of a pair: every remainder of members is in one of the intervals, whose ends are from MIN to MAX, and the falling number is high enough, so that each rule's "by" is the
-- whole rule list again (`rem_rules`): a self-call loses one of the five tests that a rule asks. Assumes nothing.
use lib.IntN.{ℤ, pos, negsuc, nat_abs, ◌-ℤ◌}
use lib.Signed.{lt_z, rem_z, ◌≤ℤ◌, ◌<ℤ◌, ≤ℤ_refl}
use mathlib.Core.Path.{◌≡◌, sym, ap, ◌∙◌, subst}
use mathlib.Core.Bool.{false, cond}
use mathlib.Core.Logic.{inl, inr}
use mathlib.Core.List.{◌++◌}
use Prim.Native.Nat.{ℕ, zero, suc, ◌%◌, ◌<◌}
use native.Mathlib.Nat.{zero-mod, mod-lt}
use native.Mathlib.Omega.{arith}
use Rattle.meaning.specs.Number.{MIN, MAX, Between, within}
use Rattle.meaning.specs.Interval.{span, only, Proper, without, PairOp, cut_left, cut_right, greatest_magnitude, against, rem_step, rem_with, rem_pair}
use Rattle.meaning.specs.NumberIntervals.{◌∈◌, here}
use Rattle.laws.proofs.Integers.{up, down, zarith, clash, cond_case, and_both, equal_or_not, by_order, is_within, from_within, one_part, sub_parts, up_rem, down_rem, ≤ℤ_trans}
use Rattle.laws.proofs.Members.{between, in_only, in_left, in_right, in_each, all_append, all_each, AllProper}
use Rattle.laws.proofs.Parts.{Part, parts, part_proper, in_without, OneSign, one_sign}
use Rattle.laws.proofs.RemainderRules.{step_case, rank, rank_le, falls_zero_right, falls_one_right, falls_min_right, falls_zero_left, falls_min_left, step_same, magnitudes, magnitude_fits, f_holds, f_proper}

-- ---- single results

rem_zero : (y : ℤ) → rem_z (pos 0) y ≡ pos 0
rem_zero y = ap pos (zero-mod (nat_abs y))

is_zero : {z : ℤ} → z ≡ pos 0 → z ∈ only (pos 0)
is_zero e = subst (λ (z : ℤ). z ∈ only (pos 0)) (sym e) (in_only (pos 0))

-- by MIN
by_min : {s e x : ℤ} → Proper s e → within s (pos 0) e ≡ false → Between s x e → rem_z x MIN ∈ against s e
unfolding against
by_min {s} {e} {x} o n b =
    cond_case (λ l. rem_z x MIN ∈ l) (within s MIN e) (cond (lt_z MIN e) (span MIN (pos 0)) (only (pos 0))) (span s e)
    (λ m. cond_case (λ l. rem_z x MIN ∈ l) (lt_z MIN e) (span MIN (pos 0)) (only (pos 0))
    (λ q. below (one_sign n) (from_within s MIN e m).above)
    (λ q. here (between (omega (zarith, u, d, q, low, b.below, one_part x)) (omega (zarith, u, d, q, low, b.below, one_part x)))))
    (λ m. let l : MIN <ℤ s = above m in here (between (omega (zarith, u, d, low, high, b.above, b.below, one_part x)) (omega (zarith, u, d, low, high, b.above, b.below, one_part x))))
  where
    u : up (rem_z x MIN) ≡ up x % nat_abs MIN
    u = up_rem x MIN

    d : down (rem_z x MIN) ≡ down x % nat_abs MIN
    d = down_rem x MIN

    low : MIN ≤ℤ x
    low = ≤ℤ_trans o.low b.above

    high : x ≤ℤ MAX
    high = ≤ℤ_trans b.below o.high

    below : OneSign s e → s ≤ℤ MIN → rem_z x MIN ∈ span MIN (pos 0)
    below (inl g) i = absurd (omega zarith)
    below (inr g) i = here (between {lo = MIN} {hi = pos 0} (omega (zarith, u, d, low, b.below, one_part x)) (omega (zarith, u, d, low, b.below, one_part x)))

    above : within s MIN e ≡ false → MIN <ℤ s
    above m = by_order MIN s (λ l. l) (λ l. clash (is_within {s = s} {z = MIN} {e = e} l (≤ℤ_trans o.low o.ordered)) m)

-- MIN by a divisor that is not MIN
of_min : {t f y : ℤ} → OneSign t f → Between t y f → rem_z MIN y ∈ span (pos 1 -ℤ pos (greatest_magnitude t f)) (pos 0)
of_min {t} {f} {y} g b =
    let m = magnitudes g b in
    let u = up_rem MIN y in
    let d = down_rem MIN y in
    let l = mod-lt (down MIN) {m = nat_abs y} (omega (arith, m.from, m.some)) in
    let w = sub_parts (pos 1) (pos (greatest_magnitude t f)) in
    let z = zero-mod (nat_abs y) in
    here (between {lo = pos 1 -ℤ pos (greatest_magnitude t f)} {hi = pos 0} (omega (zarith, m.to)) (omega zarith))

-- ---- members

module _ (g : PairOp) (c : ℤ) {z : ℤ} where
  in_cut_right : (s e : ℤ) {t f y : ℤ} → Between t y f → (y ≡ c → ⊥) → ((u v : ℤ) → Part c t f u v → Between u y v → z ∈ g s e u v) → z ∈ cut_right g c s e t f
  in_cut_right s e {t} {f} {y} b n w = in_each (Part c t f) (g s e) (without c t f) (parts c (≤ℤ_trans b.above b.below)) (in_without n b) w

  in_cut_left : (t f : ℤ) {s e x : ℤ} → Between s x e → (x ≡ c → ⊥) → ((u v : ℤ) → Part c s e u v → Between u x v → z ∈ g u v t f) → z ∈ cut_left g c s e t f
  in_cut_left t f {s} {e} {x} b n w = in_each (Part c s e) (λ u v. g u v t f) (without c s e) (parts c (≤ℤ_trans b.above b.below)) (in_without n b) w

-- a step holds a remainder if the operation g does on all pairs of lower rank
module _ (g : PairOp) {s e t f x y : ℤ} (o : Proper s e) (q : Proper t f) (h : Between s x e) (k : Between t y f) (n : y ≡ pos 0 → ⊥)
    (r : (a b c d : ℤ) → Proper a b → Proper c d → rank a b c d < rank s e t f → Between a x b → Between c y d → rem_z x y ∈ g a b c d) where
  step_holds : rem_z x y ∈ rem_step g s e t f
  step_holds =
      step_case g s e t f (λ l. rem_z x y ∈ l)
      (λ a. in_cut_right g (pos 0) s e k n (λ u v p b. r _ _ _ _ o (part_proper q p) (falls_zero_right s e a p) h b))
      (λ a b. let m = and_both (within s MIN e) (within t (negsuc 0) f) b in
      equal_or_not x MIN
      (λ i. in_right (cut_left g MIN s e t f) (equal_or_not y (negsuc 0)
      (λ j. in_right (cut_right g (negsuc 0) s e t f) (is_zero (λ l. rem_z (i l) (j l))))
      (λ j. in_left (only (pos 0)) (in_cut_right g (negsuc 0) s e k j (λ u v p c. r _ _ _ _ o (part_proper q p) (falls_one_right s e m.1 p) h c)))))
      (λ i. in_left (cut_right g (negsuc 0) s e t f ++ only (pos 0)) (in_cut_left g MIN t f h i (λ u v p c. r _ _ _ _ (part_proper o p) q (falls_min_left t f m.0 p) c k))))
      (λ a b c. equal_or_not x (pos 0)
      (λ i. in_right (cut_left g (pos 0) s e t f) (is_zero (ap (λ (z : ℤ). rem_z z y) i ∙ rem_zero y)))
      (λ i. in_left (only (pos 0)) (in_cut_left g (pos 0) t f h i (λ u v p d. r _ _ _ _ (part_proper o p) q (falls_zero_left t f c p) d k))))
      (λ a c d. equal_or_not y MIN
      (λ i. in_right (cut_right g MIN s e t f) (subst (λ (z : ℤ). rem_z x z ∈ against s e) (sym i) (by_min o c h)))
      (λ i. in_left (against s e) (in_cut_right g MIN s e k i (λ u v p b. r _ _ _ _ o (part_proper q p) (falls_min_right s e d p) h b))))
      (λ a c d m. equal_or_not x MIN
      (λ i. in_right (cut_left g MIN s e t f) (subst (λ (z : ℤ). rem_z z y ∈ span (pos 1 -ℤ pos (greatest_magnitude t f)) (pos 0)) (sym i) (of_min (one_sign a) k)))
      (λ i. in_left (span (pos 1 -ℤ pos (greatest_magnitude t f)) (pos 0)) (in_cut_left g MIN t f h i (λ u v p b. r _ _ _ _ (part_proper o p) q (falls_min_left t f m p) b k))))
      (λ a c d m. f_holds (one_sign c) (one_sign a) h k)

with_holds : (n : ℕ) {s e t f x y : ℤ} → rank s e t f < n → Proper s e → Proper t f → Between s x e → Between t y f → (y ≡ pos 0 → ⊥) → rem_z x y ∈ rem_with n s e t f
unfolding rem_with
with_holds zero l o q h k m = absurd (omega arith)
with_holds (suc n) l o q h k m = step_holds (rem_with n) o q h k m (λ a b c d o' q' l' h' k'. with_holds n (omega arith) o' q' h' k' m)

-- every remainder of members is in one of the intervals
pub rem_holds : {s e t f x y : ℤ} → Proper s e → Proper t f → Between s x e → Between t y f → (y ≡ pos 0 → ⊥) → rem_z x y ∈ rem_pair s e t f
unfolding rem_pair
rem_holds {s} {e} {t} {f} o q h k m = with_holds 6 (omega (arith, rank_le s e t f)) o q h k m

-- ---- the falling number is high enough

stable : (n : ℕ) {s e t f : ℤ} → rank s e t f < n → Proper s e → Proper t f → rem_with n s e t f ≡ rem_with (suc n) s e t f
unfolding rem_with
stable zero l o q = absurd (omega arith)
stable (suc n) l o q = step_same (rem_with n) (rem_with (suc n)) o q (λ a b c d o' q' l'. stable n (omega arith) o' q')

-- the rules as they stand: each "by" is the whole rule list again
pub rem_rules : {s e t f : ℤ} → Proper s e → Proper t f → rem_pair s e t f ≡ rem_step rem_pair s e t f
unfolding rem_pair rem_with
rem_rules {s} {e} {t} {f} o q = stable 6 (omega (arith, rank_le s e t f)) o q

-- ---- ends

zero_proper : AllProper (only (pos 0))
zero_proper = (record { low = omega zarith; ordered = omega zarith; high = omega zarith }, tt)

against_proper : {s e : ℤ} → Proper s e → AllProper (against s e)
unfolding against
against_proper {s} {e} o =
    cond_case AllProper (within s MIN e) (cond (lt_z MIN e) (span MIN (pos 0)) (only (pos 0))) (span s e)
    (λ _. cond_case AllProper (lt_z MIN e) (span MIN (pos 0)) (only (pos 0)) (λ _. (record { low = omega zarith; ordered = omega zarith; high = omega zarith }, tt)) (λ _. zero_proper))
    (λ _. (o, tt))

module _ (g : PairOp) (w : (a b c d : ℤ) → Proper a b → Proper c d → AllProper (g a b c d)) {s e t f : ℤ} (o : Proper s e) (q : Proper t f) where
  left_proper : (c : ℤ) → AllProper (cut_left g c s e t f)
  left_proper c = all_each (Part c s e) Proper (λ u v. g u v t f) (without c s e) (parts c o.ordered) (λ u v p. w _ _ _ _ (part_proper o p) q)

  right_proper : (c : ℤ) → AllProper (cut_right g c s e t f)
  right_proper c = all_each (Part c t f) Proper (g s e) (without c t f) (parts c q.ordered) (λ u v p. w _ _ _ _ o (part_proper q p))

  e_proper : OneSign t f → AllProper (span (pos 1 -ℤ pos (greatest_magnitude t f)) (pos 0))
  e_proper g =
      let m = magnitudes g (between (≤ℤ_refl t) q.ordered) in
      let w = sub_parts (pos 1) (pos (greatest_magnitude t f)) in
      let k = magnitude_fits q in
      (record { low = omega zarith; ordered = omega (zarith, m.some, m.from, m.to); high = omega zarith }, tt)

  step_proper : AllProper (rem_step g s e t f)
  step_proper =
      step_case g s e t f AllProper
      (λ a. right_proper (pos 0))
      (λ a b. all_append Proper (cut_left g MIN s e t f) (cut_right g (negsuc 0) s e t f ++ only (pos 0)) (left_proper MIN)
      (all_append Proper (cut_right g (negsuc 0) s e t f) (only (pos 0)) (right_proper (negsuc 0)) zero_proper))
      (λ a b c. all_append Proper (cut_left g (pos 0) s e t f) (only (pos 0)) (left_proper (pos 0)) zero_proper)
      (λ a c d. all_append Proper (cut_right g MIN s e t f) (against s e) (right_proper MIN) (against_proper o))
      (λ a c d m. all_append Proper (cut_left g MIN s e t f) (span (pos 1 -ℤ pos (greatest_magnitude t f)) (pos 0)) (left_proper MIN) (e_proper (one_sign a)))
      (λ a c d m. f_proper s e (one_sign a) q)

with_proper : (n : ℕ) {s e t f : ℤ} → Proper s e → Proper t f → AllProper (rem_with n s e t f)
unfolding rem_with
with_proper zero o q = tt
with_proper (suc n) o q = step_proper (rem_with n) (λ a b c d o' q'. with_proper n o' q') o q

pub rem_proper : {s e t f : ℤ} → Proper s e → Proper t f → AllProper (rem_pair s e t f)
unfolding rem_pair
rem_proper o q = with_proper 6 o q
