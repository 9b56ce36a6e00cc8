-- The distance counts the next start too.
use mathlib.Core.Path.{◌≡◌, ap, ◌∙◌}
use Prim.Native.Nat.{ℕ, ◌-◌}
use lib.IntN.{ℤ, pos, nat_abs, ◌-ℤ◌}
use mir.Syntax.{w64}
use mir.Val.{SFits, to_z, of_z}
use mir.Facts.{to_z-of_z}
use Rattle.meaning.specs.Number.{distance}
use Rattle.meaning.specs.Close.{missing}
use Rattle.closing.proofs.missing.Goals as goal

-- the distance, of the numbers themselves
is : (s e : ℤ) (r : ℕ) → SFits w64 s → SFits w64 e → pos r ≡ to_z w64 (of_z w64 s) -ℤ to_z w64 (of_z w64 e) → pos r ≡ s -ℤ e
is s e r f g h = h ∙ λ i. to_z-of_z f i -ℤ to_z-of_z g i

pub returns : goal.returns
unfolding missing distance
returns c =
    let d = is c.args.s c.args.e c.distance.result c.ranges.s c.ranges.e c.distance.ensures in
    ap (λ (z : ℤ). nat_abs z - 1) d
