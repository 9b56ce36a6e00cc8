-- The registers so far may hold any number. Assumes nothing.
use Rattle.std.proofs.Common.{◌≡◌}
use Rattle.set_values.proofs.Layouts.{started}
use Rattle.set_values.proofs.registers.Registers.start.Given as goal

abbrev pub invariant-loop-r : goal.invariant-loop-r
invariant-loop-r l = l.numbers ≡ started l.r
