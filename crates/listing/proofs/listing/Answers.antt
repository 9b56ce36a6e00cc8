-- The buffer holds the listing at its front, and just that is handed over. Assumes nothing.
use mathlib.Core.Path.{ap, ◌∙◌}
use Rattle.writer.proofs.Chain.{first_written}
use Rattle.meaning.specs.Composing.{text}
use Rattle.texts.proofs.Answering.{writes_as}
use Rattle.listing.proofs.listing.Goals as goal

pub returns : goal.returns
returns c = writes_as (ap text (c.written.ensures ∙ first_written c.new-whole.ensures c.list_into.ensures)) c.hand_over.ensures
