use Rattle.meaning.specs.Text.{lines}
use Rattle.sheet.proofs.Judging.{Going}
use Rattle.sheet.proofs.judge_lines.Given as goal

abbrev pub invariant-loop-line : goal.invariant-loop-line
invariant-loop-line l = Going l.text l.seen l.count (lines l.line-iterator.rest.now)
