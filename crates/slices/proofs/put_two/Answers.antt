-- Two intervals, one after the other. Assumes nothing.
use native.Mathlib.Omega.{arith}
use Rattle.std.proofs.Common.{to_z-of_z, ◌++◌}
use Rattle.meaning.specs.Interval.{span}
use Rattle.meaning.specs.NumberIntervals.{flat}
use Rattle.slices.proofs.Behind.{adds_next, adds_as}
use Rattle.slices.proofs.put_two.Goals as goal

pub returns : goal.returns
returns c =
    let r = c.ranges in
    adds_as (λ i. span (to_z-of_z r.a i) (to_z-of_z r.b i) ++ span (to_z-of_z r.c i) (to_z-of_z r.d i)) (adds_next c.put_one.ensures c.put_one-2.ensures)

pub put_one-requires-2 : goal.put_one-requires-2
unfolding flat
put_one-requires-2 c =
    let e = c.put_one.ensures.ends in
    omega (arith, e.count, e.long, c.requires)
