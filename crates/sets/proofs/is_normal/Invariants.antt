-- What was passed is in range, and what is left decides. Assumes nothing.
use lib.ListN.{length}
use Rattle.sets.proofs.Reading.{Passed}
use Rattle.sets.proofs.is_normal.Given as goal

abbrev pub invariant-loop-ends : goal.invariant-loop-ends
invariant-loop-ends l = Passed l.s l.ends

abbrev pub decreases-loop-ends : goal.decreases-loop-ends
decreases-loop-ends l = length l.ends
