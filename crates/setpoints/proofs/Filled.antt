-- A set that is not empty has two ends. Assumes nothing.
use Rattle.std.proofs.Common.{◌≡◌, ◌≤◌, ℤ, List, [], ◌∷◌, length, true, false, refl, arith}
use Rattle.meaning.specs.NumberIntervals.{filled, intervals}

pub none : (l : List ℤ) → length l ≡ 0 → filled (intervals l) ≡ false
unfolding intervals
none [] n = refl
none (x ∷ l) n = absurd (omega arith)

pub some : (l : List ℤ) → 2 ≤ length l → filled (intervals l) ≡ true
unfolding intervals
some [] n = absurd (omega arith)
some (x ∷ []) n = absurd (omega arith)
some (x ∷ y ∷ l) n = refl
