-- No more cases differ than were counted, and each turn that goes on has read a case. Assumes nothing.
use Prim.Native.Nat.{◌≤◌}
use Rattle.replay.proofs.replay_cases.Given as goal

abbrev pub invariant-loop : goal.invariant-loop
invariant-loop g l = l.tally.differ ≤ l.tally.cases
