-- What the set and the window have in common are the members within the distance. Assumes nothing.
use Rattle.std.proofs.Common.{ℤ, pos, ◌+ℤ◌, ◌-ℤ◌, ap, ◌∙◌}
use mir.Facts.{to_z-of_z}
use Rattle.meaning.specs.Number.{MIN, MAX, smaller, larger}
use Rattle.meaning.specs.NumberIntervals.{intervals}
use Rattle.laws.proofs.Machine.{back, fits_range}
use Rattle.slices.proofs.Behind.{adds_as}
use Rattle.setpoints.proofs.Windows.{window_ends, window_near}
use Rattle.setpoints.proofs.near_into.Goals as goal

pub invariant_of-meet : goal.invariant_of-meet
invariant_of-meet c =
    let lo = back _ c.lowest.type_inv ∙ c.lowest.ensures ∙ ap (λ (z : ℤ). larger MIN (z -ℤ pos c.args.d)) (to_z-of_z c.ranges.x) in
    let hi = back _ c.highest.type_inv ∙ c.highest.ensures ∙ ap (λ (z : ℤ). smaller MAX (z +ℤ pos c.args.d)) (to_z-of_z c.ranges.x) in
    record { set = window_ends c.args.x c.args.d (fits_range c.ranges.x) lo hi }

pub returns : goal.returns
returns c =
    let lo = back _ c.lowest.type_inv ∙ c.lowest.ensures ∙ ap (λ (z : ℤ). larger MIN (z -ℤ pos c.args.d)) (to_z-of_z c.ranges.x) in
    let hi = back _ c.highest.type_inv ∙ c.highest.ensures ∙ ap (λ (z : ℤ). smaller MAX (z +ℤ pos c.args.d)) (to_z-of_z c.ranges.x) in
    adds_as (window_near c.args.x c.args.d (fits_range c.ranges.x) lo hi (intervals c.args.set.numbers.now) c.args.set.set.is) c.meet.ensures
