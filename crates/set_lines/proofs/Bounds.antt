-- The ends of a set, pair by pair, within bounds. Assumes nothing.
use mathlib.Core.Path.{◌≡◌, refl, sym, ap, ◌∙◌}
use mathlib.Core.Bool.{Bool, true, false, ◌&&◌}
use mathlib.Core.List.{List, [], ◌∷◌}
use Prim.Native.Nat.{ℕ, zero, suc, ◌/◌}
use native.Mathlib.Omega.{arith}
use lib.IntN.{ℤ, pos}
use lib.ListN.{length, get_or}
use lib.Signed.{le_z}
use Rattle.std.specs.List.{list_all}
use Rattle.std.specs.Simd.{first_chunks}
use Rattle.meaning.specs.NumberIntervals.{Set, flat, intervals}
use Rattle.meaning.specs.Check.{inside}
use Rattle.laws.proofs.Flat.{intervals_flat}
use Rattle.set_lines.specs.Worked.{hold_number}

and_assoc : (a b c : Bool) → (a && b && c) ≡ (a && (b && c))
and_assoc true b c = refl
and_assoc false b c = refl

module _ (lo hi : ℤ) where
  abbrev pub lies : List ℤ → Bool
  lies x = le_z lo (get_or x 0 (pos 0)) && le_z (get_or x 1 (pos 0)) hi

  pub all_lie : (k : ℕ) (l : List ℤ) → k ≡ length l / 2 → list_all lies (first_chunks 2 k l) ≡ inside lo (intervals l) hi
  unfolding inside intervals
  all_lie zero [] e = refl
  all_lie zero (a ∷ []) e = refl
  all_lie zero (a ∷ b ∷ r) e = absurd (let x : ⊥ = omega arith in x)
  all_lie (suc k) [] e = absurd (let x : ⊥ = omega arith in x)
  all_lie (suc k) (a ∷ []) e = absurd (let x : ⊥ = omega arith in x)
  all_lie (suc k) (a ∷ b ∷ r) e =
      ap (λ (t : Bool). (le_z lo a && le_z b hi) && t) (all_lie k r (omega arith)) ∙ and_assoc (le_z lo a) (le_z b hi) (inside lo (intervals r) hi)

-- the number of a hold, by the test on the ends of its set
pub hold_judged : (lo hi : ℤ) (s : Set) {l : List ℤ} {b v : Bool} → l ≡ flat s → b ≡ inside lo (intervals l) hi → b ≡ v → hold_number v ≡ hold_number (inside lo s hi)
hold_judged lo hi s e i j = ap hold_number (sym j ∙ i ∙ ap (λ (u : Set). inside lo u hi) (ap intervals e ∙ intervals_flat s))
