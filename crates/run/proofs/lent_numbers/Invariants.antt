use mathlib.Core.Path.{◌≡◌}
use lib.ListN.{length, take}
use Rattle.meaning.specs.Lists.{over, All}
use Rattle.meaning.specs.Number.{InRange}
use Rattle.run.proofs.lent_numbers.Given as goal

abbrev pub invariant-loop-i : goal.invariant-loop-i
invariant-loop-i l = (length l.numbers ≡ 16) × (l.numbers ≡ over (take l.i l.lent) l.initial.numbers) × All InRange (take l.i l.lent)
