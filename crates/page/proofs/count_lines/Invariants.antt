-- The rows of the registers below r are counted. Assumes nothing.
use Rattle.page.proofs.Rows.{Counted}
use Rattle.page.proofs.count_lines.Given as goal

abbrev pub invariant-loop-r : goal.invariant-loop-r
invariant-loop-r l = Counted l.shown l.r l.n
