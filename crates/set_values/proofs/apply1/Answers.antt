-- The core's answer is judged. Assumes nothing.
use mathlib.Core.Path.{◌∙◌}
use Rattle.set_values.proofs.Sets.{held_sound}
use Rattle.set_values.proofs.Settling.{settles1, answer1_is}
use Rattle.set_values.proofs.apply1.Goals as goal

pub settle-requires : goal.settle-requires
settle-requires c = settles1 (held_sound c.in-Ok.set.held) c.ends.ensures _ c.core1-answer.ensures

pub returns : goal.returns
returns c =
    rw c.in-Ok.is (c.settle.ensures ∙ answer1_is (held_sound c.in-Ok.set.held) c.ends.ensures _ c.core1-answer.ensures)
