-- What the definitions say of a list of ends, by its intervals as pairs. Assumes nothing.
use mathlib.Core.Path.{◌≡◌, refl, ap}
use mathlib.Core.List.{List, [], ◌∷◌}
use mathlib.Core.Bool.{Bool, ◌||◌}
use Prim.Native.Nat.{ℕ, zero, suc, ◌/◌}
use native.Mathlib.Omega.{arith}
use lib.ListN.{length}
use lib.IntN.{ℤ}
use Rattle.std.specs.Simd.{first_chunks}
use Rattle.std.specs.List.{list_any}
use Rattle.meaning.specs.Number.{within}
use Rattle.meaning.specs.NumberIntervals.{contains, intervals}
use Rattle.sorting.proofs.Steps.{end_at}

-- ---- a member of one of the intervals

abbrev pub holds : ℤ → List ℤ → Bool
holds z p = within (end_at p 0) z (end_at p 1)

pub any_holds : (z : ℤ) (c : ℕ) (l : List ℤ) → c ≡ length l / 2 → list_any (holds z) (first_chunks 2 c l) ≡ contains z (intervals l)
unfolding contains intervals
any_holds z zero [] h = refl
any_holds z (suc c) [] h = absurd (omega arith)
any_holds z zero (s ∷ []) h = refl
any_holds z (suc c) (s ∷ []) h = absurd (omega arith)
any_holds z zero (s ∷ e ∷ r) h = absurd (omega arith)
any_holds z (suc c) (s ∷ e ∷ r) h = ap (λ (b : Bool). within s z e || b) (any_holds z c r (omega arith))
