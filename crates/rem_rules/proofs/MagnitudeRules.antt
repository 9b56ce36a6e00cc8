-- Rules (d), (e) and (f) of rem by the tests that the code makes. Assumes nothing.
use borrow.Author.Tests.{le-leb, lt-leb, eq-eqb, ne_eqb}
use lib.IntN.{ℤ, pos, neg_ℤ, ◌-ℤ◌}
use lib.ListN.{length}
use lib.Signed.{lt_z, ≤ℤ_refl}
use mathlib.Core.Logic.{◌≢◌}
use mathlib.Core.Path.{◌≡◌, refl, sym, ap, ◌∙◌}
use mathlib.Core.Bool.{Bool, true, false, cond}
use mathlib.Core.List.{List, [], ◌++◌, append-nil}
use Prim.Native.Nat.{ℕ, ◌-◌, ◌*◌, ◌/◌, ◌%◌, ◌^◌, ◌≤◌, ◌<◌}
use native.Mathlib.Omega.{arith}
use mir.Syntax.{w64}
use mir.Val.{SFits}
use mir.Facts.{to_z-of_z}
use Rattle.meaning.specs.Number.{MIN, within}
use Rattle.meaning.specs.Interval.{Interval, span, only, against, least_magnitude, greatest_magnitude, signed_span, rem_magnitudes, rule_f}
use Rattle.meaning.specs.NumberIntervals.{flat}
use Rattle.laws.proofs.Integers.{zarith, cond_case, one_part, abs_parts, sub_parts, up_neg, down_neg}
use Rattle.laws.proofs.Machine.{rd, num}
use Rattle.laws.proofs.Members.{between}
use Rattle.laws.proofs.Parts.{one_sign}
use Rattle.laws.proofs.RemainderRules.{magnitudes, magnitudes_case}
use Rattle.interval.specs.declared.divisor.Divisor.{Divisor}
use Rattle.rem_rules.specs.declared.Magnitudes.{Magnitudes}
use Rattle.slices.proofs.Behind.{length_flat_append}

-- ---- L against {MIN}

module _ (s e : ℤ) where
  -- MIN is in [s,e] just where s is MIN
  pub least_in : SFits w64 e → s ≡ MIN → within s MIN e ≡ true
  unfolding within
  least_in f h = grind (zarith, num f, h)

  pub least_out : SFits w64 s → s ≢ MIN → within s MIN e ≡ false
  unfolding within
  least_out f h = grind (zarith, num f, h)

  pub against_more : within s MIN e ≡ true → lt_z MIN e ≡ true → span MIN (pos 0) ≡ against s e
  unfolding against
  against_more h k = rw (h, k)

  pub against_least : within s MIN e ≡ true → lt_z MIN e ≡ false → only (pos 0) ≡ against s e
  unfolding against
  against_least h k = rw (h, k)

  pub against_self : within s MIN e ≡ false → span s e ≡ against s e
  unfolding against
  against_self h = rw h

  pub against_two : length (flat (against s e)) ≡ 2
  unfolding flat against
  against_two =
      cond_case (λ l. length (flat l) ≡ 2) (within s MIN e) (cond (lt_z MIN e) (span MIN (pos 0)) (only (pos 0))) (span s e)
      (λ _. cond_case (λ l. length (flat l) ≡ 2) (lt_z MIN e) (span MIN (pos 0)) (only (pos 0)) (λ _. refl) (λ _. refl))
      (λ _. refl)

-- ---- magnitudes

-- the magnitudes of two ends, as the machine reads these
abbrev Read : ℤ → ℤ → ℕ → ℕ → Type 0
Read s e l g = (l ≡ least_magnitude (rd s) (rd e)) × (g ≡ greatest_magnitude (rd s) (rd e))

read_are : {s e : ℤ} {l g : ℕ} → SFits w64 s → SFits w64 e → Read s e l g → (l ≡ least_magnitude s e) × (g ≡ greatest_magnitude s e)
read_are f h r = (r.0 ∙ (λ i. least_magnitude (to_z-of_z f i) (to_z-of_z h i)), r.1 ∙ (λ i. greatest_magnitude (to_z-of_z f i) (to_z-of_z h i)))

pub under_is : (d : ℕ) → 0 < d → neg_ℤ (pos (d - 1)) ≡ pos 1 -ℤ pos d
under_is d h = omega (zarith, up_neg (pos (d - 1)), down_neg (pos (d - 1)), sub_parts (pos 1) (pos d))

-- those of a divisor's ends
module _ (d : Divisor) (T : SFits w64 d.numbers.lo) (F : SFits w64 d.numbers.hi) {l g : ℕ} (r : Read d.numbers.lo d.numbers.hi l g) where
  are : (l ≡ least_magnitude d.numbers.lo d.numbers.hi) × (g ≡ greatest_magnitude d.numbers.lo d.numbers.hi)
  are = read_are T F r

  some : (0 < least_magnitude d.numbers.lo d.numbers.hi) × (least_magnitude d.numbers.lo d.numbers.hi ≤ greatest_magnitude d.numbers.lo d.numbers.hi)
  some = let m = magnitudes (one_sign d.no_zero) (between (≤ℤ_refl d.numbers.lo) d.numbers.ordered) in omega (arith, m.some)

  top : greatest_magnitude d.numbers.lo d.numbers.hi ≤ 2 ^ 63
  top = let t = d.numbers.lo in let f = d.numbers.hi in omega (arith, num T, num F, abs_parts t, abs_parts f, one_part t, one_part f)

  pub least_some : 0 < l
  least_some = omega (arith, are.0, some)

  pub greatest_some : 0 < g
  greatest_some = omega (arith, are.1, some)

  pub greatest_fits : g - 1 < 2 ^ 63
  greatest_fits = omega (arith, greatest_some, are.1, top)

  -- 1 − d
  pub under_read : neg_ℤ (pos (g - 1)) ≡ pos 1 -ℤ pos (greatest_magnitude d.numbers.lo d.numbers.hi)
  under_read = under_is g greatest_some ∙ ap (λ (n : ℕ). pos 1 -ℤ pos n) are.1

  -- rule (f) on the magnitudes that were read
  pub rule_f_read : {s e : ℤ} {a b : ℕ} → SFits w64 s → SFits w64 e → Read s e a b → rem_magnitudes (lt_z (rd s) (pos 0)) a b l g ≡ rule_f s e d.numbers.lo d.numbers.hi
  unfolding rule_f
  rule_f_read f h k i = rem_magnitudes (lt_z (to_z-of_z f i) (pos 0)) ((read_are f h k).0 i) ((read_are f h k).1 i) (are.0 i) (are.1 i)

-- ---- (f)

abbrev Remainders : Bool → Magnitudes → Magnitudes → List Interval → Type 0
Remainders negated x y l = l ≡ rem_magnitudes negated x.least x.greatest y.least y.greatest

module _ (negated : Bool) (x y : Magnitudes) where
  pub magnitudes_all : y.greatest ≤ x.greatest - x.least → Remainders negated x y (signed_span negated 0 (y.greatest - 1))
  unfolding rem_magnitudes
  magnitudes_all h = rw (le-leb y.greatest (x.greatest - x.least) h)

  module _ (few : x.greatest - x.least < y.greatest) where
    pub magnitudes_wide : y.least < y.greatest → Remainders negated x y (signed_span negated 0 (y.greatest - 1))
    unfolding rem_magnitudes
    magnitudes_wide h = rw (lt-leb y.greatest (x.greatest - x.least) few, ne_eqb y.least y.greatest (λ e. absurd (omega arith)))

    module _ (single : y.greatest ≤ y.least) where
      one : y.least ≡ y.greatest
      one = omega (arith, y.ordered)

      pub magnitudes_past : x.greatest / y.least * y.least < x.least → Remainders negated x y (signed_span negated (x.least % y.least) (x.greatest % y.least))
      unfolding rem_magnitudes
      magnitudes_past h = rw (lt-leb y.greatest (x.greatest - x.least) few, eq-eqb y.least y.greatest one, lt-leb x.least (x.greatest / y.least * y.least) h)

      pub magnitudes_at : x.least ≡ x.greatest / y.least * y.least → Remainders negated x y (signed_span negated 0 (x.greatest % y.least))
      unfolding rem_magnitudes
      magnitudes_at h =
          rw (lt-leb y.greatest (x.greatest - x.least) few, eq-eqb y.least y.greatest one, le-leb x.least (x.greatest / y.least * y.least) (omega arith), eq-eqb x.least (x.greatest / y.least * y.least) h)
          (sym (append-nil (signed_span negated 0 (x.greatest % y.least))))

      pub magnitudes_over : x.least < x.greatest / y.least * y.least
          → Remainders negated x y (signed_span negated 0 (x.greatest % y.least) ++ signed_span negated (x.least % y.least) (y.least - 1))
      unfolding rem_magnitudes
      magnitudes_over h =
          rw (
            lt-leb y.greatest (x.greatest - x.least) few,
            eq-eqb y.least y.greatest one,
            le-leb x.least (x.greatest / y.least * y.least) (omega arith),
            ne_eqb x.least (x.greatest / y.least * y.least) (λ e. absurd (omega arith)),
          )

-- ---- room

pub signed_two : (negated : Bool) (l h : ℕ) → length (flat (signed_span negated l h)) ≡ 2
unfolding flat
signed_two true l h = refl
signed_two false l h = refl

first_two : (negated : Bool) (l h : ℕ) (x : List Interval) → 2 ≤ length (flat (signed_span negated l h ++ x))
first_two negated l h x = omega (arith, signed_two negated l h, length_flat_append (signed_span negated l h) x)

-- remainders are at least one interval
pub magnitudes_two : (negated : Bool) (a b c d : ℕ) → 2 ≤ length (flat (rem_magnitudes negated a b c d))
magnitudes_two negated a b c d =
    magnitudes_case negated a b c d (λ l. 2 ≤ length (flat l))
    (omega (arith, signed_two negated 0 (d - 1)))
    (λ _ _ _. first_two negated 0 (b % c) [])
    (λ _ _ _. first_two negated 0 (b % c) (signed_span negated (a % c) (c - 1)))
    (λ _ _ _. omega (arith, signed_two negated (a % c) (b % c)))
