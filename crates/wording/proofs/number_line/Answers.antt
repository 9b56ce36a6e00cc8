-- The word with its number, and the rest of the line. Assumes nothing.
use Rattle.meaning.specs.Listing.{trouble_line}
use Rattle.writer.proofs.Chain.{appends_next}
use Rattle.wording.proofs.number_line.Goals as goal

pub returns : goal.returns
unfolding trouble_line
returns c =
    appends_next (appends_next c.push.ensures c.push_number.ensures)
    (appends_next (appends_next c.push-2.ensures c.push_number-2.ensures) c.push-3.ensures)
