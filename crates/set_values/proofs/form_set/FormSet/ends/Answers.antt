-- Its numbers are the ends of a normal set of at most 16 intervals. Assumes nothing.
use mathlib.Core.Path.{ap}
use native.Mathlib.Omega.{arith}
use lib.ListN.{length}
use Rattle.laws.proofs.Flat.{length_flat}
use Rattle.set_values.specs.Value.{set_of}
use Rattle.set_values.proofs.Sets.{held_ends, held_set}
use Rattle.set_values.proofs.form_set.FormSet.ends.Goals as goal

pub invariant_of-result : goal.invariant_of-result
invariant_of-result c =
    let held = c.args.self.now.held in
    record { set = rw (c.numbers-numbers.ensures, ← held_ends held) (held_set held) }

pub invariant_of-result-2 : goal.invariant_of-result-2
invariant_of-result-2 c =
    let held = c.args.self.now.held in
    record { few = omega (arith, ap length c.numbers-numbers.ensures, length_flat (set_of c.args.self.now), held.counted, held.few) }
