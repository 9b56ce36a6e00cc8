-- The start behind a space, and the end behind two points. Assumes nothing.
use mir.Facts.{to_z-of_z}
use Rattle.writer.proofs.Chain.{appends_as, appends_next}
use Rattle.wording.specs.Texts.{interval_text}
use Rattle.wording.proofs.interval_text.Goals as goal

pub returns : goal.returns
returns c =
    appends_as (λ i. interval_text (to_z-of_z c.ranges.lo i) (to_z-of_z c.ranges.hi i))
    (appends_next (appends_next c.push.ensures c.push_signed.ensures) (appends_next c.push-2.ensures c.push_signed-2.ensures))
