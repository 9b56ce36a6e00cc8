use Rattle.writer.proofs.Pairs.{Paired}
use Rattle.wording.proofs.Intervals.{listed}
use Rattle.wording.proofs.interval_texts.Given as goal

abbrev pub invariant-loop-lo : goal.invariant-loop-lo
invariant-loop-lo l = Paired listed l.ends l.lo-index l.out l.initial.out
