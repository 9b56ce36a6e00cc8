-- The count at the front, and the ends behind it. Assumes nothing.
use mathlib.Core.Path.{◌≡◌, ◌∙◌}
use Prim.Native.Nat.{ℕ, ◌≤◌}
use native.Mathlib.Omega.{arith}
use lib.IntN.{pos}
use mir.Syntax.{w64}
use mir.Val.{to_z}
use mir.Facts.{to_z_pos}
use Rattle.set_values.proofs.Layouts.{slot_stored, held_slot}
use Rattle.set_values.proofs.form_set.FormSet.show.Goals as goal

few_pos : {n : ℕ} → n ≤ 16 → to_z w64 n ≡ pos n
few_pos h = to_z_pos w64 (omega arith)

pub returns : goal.returns
returns c =
    let held = c.args.self.now.held in
    slot_stored c.args.out.now _ c.requires
    ∙ rw (few_pos held.few, c.copy.ensures) (held_slot held)
