-- All but the walk over what is left of both is written, and each turn leaves one of them shorter. Assumes nothing.
use Prim.Native.Nat.{◌+◌}
use lib.ListN.{length}
use Rattle.sets.proofs.Cross.{Walking}
use Rattle.sets.proofs.meet.Given as goal

abbrev pub invariant-loop-lefts : goal.invariant-loop-lefts
invariant-loop-lefts l = Walking l.left.numbers.now l.right.numbers.now l.lefts l.rights l.out l.initial.out

abbrev pub decreases-loop-lefts : goal.decreases-loop-lefts
decreases-loop-lefts l = length l.lefts + length l.rights
