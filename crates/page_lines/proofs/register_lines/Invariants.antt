use Rattle.page_lines.proofs.Writing.{Lined}
use Rattle.page_lines.proofs.register_lines.Given as goal

abbrev pub invariant-loop-lo : goal.invariant-loop-lo
invariant-loop-lo l = Lined l.r l.ends l.lo-index l.out l.initial.out
