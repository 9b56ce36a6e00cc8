-- The part above 0 starts after it. Assumes nothing.
use Rattle.laws.proofs.Integers.{zarith, below_out}
use Rattle.interval.proofs.Cuts.{part_some}
use Rattle.interval.proofs.Interval.positives.Goals as goal

pub invariant_of-result : goal.invariant_of-result
invariant_of-result c = let p = part_some _ _ _ c.in_ok-numbers.ensures in record { no_zero = below_out c.in_ok-numbers.numbers.hi (omega (zarith, p.1)) }
