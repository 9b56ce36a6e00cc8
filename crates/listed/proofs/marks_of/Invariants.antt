use Rattle.meaning.specs.Text.{lines}
use Rattle.listed.proofs.Marks.{Marking}
use Rattle.listed.proofs.marks_of.Given as goal

abbrev pub invariant-loop-line : goal.invariant-loop-line
invariant-loop-line l = Marking l.text (lines l.line-iterator.rest.now) l.marks
