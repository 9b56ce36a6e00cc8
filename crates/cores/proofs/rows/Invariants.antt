-- How many of the intervals are done, and what is free for the others. Assumes nothing.
use Prim.Native.Nat.{◌*◌, ◌/◌}
use lib.ListN.{length}
use Rattle.meaning.specs.Interval.{each}
use Rattle.meaning.specs.NumberIntervals.{intervals}
use Rattle.cores.specs.Operation.{rule_of, factor_of}
use Rattle.cores.proofs.Fill.{Filled}
use Rattle.cores.proofs.rows.Given as goal

abbrev pub invariant-loop-lo : goal.invariant-loop-lo
invariant-loop-lo l = Filled (λ lo hi. each (rule_of l.op lo hi) (intervals l.right.numbers.now)) (2 * factor_of l.op * (length l.right.numbers.now / 2)) l.left.numbers.now l.lo-index l.out l.initial.out
