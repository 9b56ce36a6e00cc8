-- One register more may hold any number. Assumes nothing.
use mathlib.Core.Path.{ap, ◌∙◌}
use mathlib.Core.List.{List}
use native.Mathlib.Omega.{arith}
use Prim.Native.Nat.{◌+◌, ◌*◌}
use lib.IntN.{ℤ, pos}
use lib.ListN.{set}
use Rattle.meaning.specs.Number.{MIN, MAX}
use Rattle.set_values.proofs.Layouts.{start_first, start_more, start_slots, start_is}
use Rattle.set_values.proofs.registers.Registers.start.Goals as goal

pub loop-r-init : goal.loop-r-init
loop-r-init c = start_first

pub loop-r-preserved : goal.loop-r-preserved
loop-r-preserved c =
    ap (λ (x : List ℤ). set (set (set x (33 * c.loop-r.r) (pos 1)) (33 * c.loop-r.r + 1) MIN) (33 * c.loop-r.r + 2) MAX) c.loop-r.invariant ∙ start_more c.loop-r.r (omega arith)

pub invariant_of-result : goal.invariant_of-result
invariant_of-result c = record { slots = start_slots (omega arith) c.loop-r.invariant }

pub returns : goal.returns
returns c = start_is (omega arith) c.loop-r.invariant
