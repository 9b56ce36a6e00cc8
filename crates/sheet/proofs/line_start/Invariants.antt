use Rattle.std.proofs.Common.{◌≡◌, length, drop}
use Rattle.meaning.specs.Text.{cut}
use Rattle.sheet.proofs.line_start.Given as goal

abbrev pub invariant-loop-i : goal.invariant-loop-i
invariant-loop-i l = l.rest ≡ drop (length (cut l.text l._i)) l.text
