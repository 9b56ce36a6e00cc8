-- The part below 0 ends before it. Assumes nothing.
use Rattle.laws.proofs.Integers.{zarith, above_out}
use Rattle.interval.proofs.Cuts.{part_some}
use Rattle.interval.proofs.Interval.negatives.Goals as goal

pub invariant_of-result : goal.invariant_of-result
invariant_of-result c = let p = part_some _ _ _ c.in_ok-numbers.ensures in record { no_zero = above_out c.in_ok-numbers.numbers.lo (omega (zarith, p.2)) }
