-- The core's answer is judged. Assumes nothing.
use mathlib.Core.Path.{◌∙◌}
use Rattle.set_values.proofs.Sets.{held_sound}
use Rattle.set_values.proofs.Settling.{settles2, answer2_is}
use Rattle.set_values.proofs.apply2.Goals as goal

pub settle-requires : goal.settle-requires
settle-requires c =
    settles2 (held_sound c.in-Ok.set.held) c.ends.ensures (held_sound c.in-Ok-b.set.held) c.ends-2.ensures _ c.core2-answer.ensures

pub returns : goal.returns
returns c =
    rw (c.in-Ok.is, c.in-Ok-b.is) (c.settle.ensures ∙
    answer2_is (held_sound c.in-Ok.set.held) c.ends.ensures (held_sound c.in-Ok-b.set.held) c.ends-2.ensures _ c.core2-answer.ensures)
