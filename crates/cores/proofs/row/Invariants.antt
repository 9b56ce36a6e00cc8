-- How many of the intervals are done, and what is free for the others. Assumes nothing.
use Prim.Native.Nat.{◌*◌}
use Rattle.cores.specs.Operation.{rule_of, factor_of}
use Rattle.cores.proofs.Fill.{Filled}
use Rattle.cores.proofs.row.Given as goal

abbrev pub invariant-loop-lo : goal.invariant-loop-lo
invariant-loop-lo l = Filled (rule_of l.op l.left.lo l.left.hi) (2 * factor_of l.op) l.right.numbers.now l.lo-index l.out l.initial.out
