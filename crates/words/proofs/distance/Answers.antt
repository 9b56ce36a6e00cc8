-- The distance is below 2^64, and the difference of the bits is equal to it modulo 2^64. Assumes nothing.
use Rattle.std.proofs.Common.{ap, ◌∙◌, to_z-of_z, ◌%◌, ◌+◌, ◌-◌, ◌^◌, arith}
use Rattle.laws.proofs.Wrapping.{low, dist_is}
use Rattle.words.proofs.distance.Goals as goal

pub returns : goal.returns
returns c =
    let e = c.bits.ensures ∙ ap low (to_z-of_z c.ranges.e) in
    let s = c.bits-2.ensures ∙ ap low (to_z-of_z c.ranges.s) in
    dist_is c.ranges.s c.ranges.e c.requires ((c.bits.result + (2 ^ 64 - c.bits-2.result)) % 2 ^ 64) (omega arith) (omega arith)
