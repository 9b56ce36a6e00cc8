use mathlib.Core.Path.{◌≡◌}
use lib.ListN.{take}
use Rattle.writer.proofs.copy.Given as goal

abbrev pub invariant-loop-i : goal.invariant-loop-i
invariant-loop-i g l = take l.i l.out ≡ take l.i l.from
