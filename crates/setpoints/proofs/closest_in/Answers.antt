-- The two readings of the closest number are one. Assumes nothing.
use Rattle.std.proofs.Common.{◌≡◌, ℤ, ◌∙◌}
use mir.Facts.{to_z-of_z}
use Rattle.std.specs.Int.{int_max, int_min}
use Rattle.meaning.specs.Number.{InRange}
use Rattle.meaning.specs.Interval.{Proper}
use Rattle.laws.proofs.Integers.{zarith}
use Rattle.laws.proofs.Machine.{rd, ok, range_fits}
use Rattle.setpoints.proofs.Picks.{clamp_is}
use Rattle.setpoints.proofs.closest_in.Goals as goal

read_back : {z : ℤ} → InRange z → rd z ≡ z
read_back r = to_z-of_z (range_fits r)

module _ {lo hi : ℤ} (q : Proper lo hi) where
  low_is : rd lo ≡ lo
  low_is = read_back (record { above = q.low; below = omega (zarith, q.ordered, q.high) })

  high_is : rd hi ≡ hi
  high_is = read_back (record { above = omega (zarith, q.low, q.ordered); below = q.high })

pub clamp-requires : goal.clamp-requires
clamp-requires c = rw (low_is c.requires, high_is c.requires) c.requires.ordered

pub returns : goal.returns
returns c =
    let q = c.requires in
    to_z-of_z (ok c.clamp.type_inv) ∙ c.clamp.ensures.value ∙ (λ i. int_max (low_is q i) (int_min (to_z-of_z c.ranges.x i) (high_is q i))) ∙ clamp_is c.args.x _ _ q.ordered
