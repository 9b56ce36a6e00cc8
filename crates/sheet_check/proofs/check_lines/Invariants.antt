-- What is left of the text is worked from the registers' sets.
use Rattle.meaning.specs.Text.{lines}
use Rattle.sheet_check.proofs.Walking.{Going}
use Rattle.sheet_check.proofs.check_lines.Given as goal

abbrev pub invariant-loop-n : goal.invariant-loop-n
invariant-loop-n l = Going l.text l.count l.registers l.n-iterator.count (lines l.n-iterator.iter.rest.now)
