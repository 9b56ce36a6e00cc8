-- The word, the number and LF. Assumes nothing.
use Rattle.meaning.specs.Listing.{pass_line}
use Rattle.writer.proofs.Chain.{appends_next}
use Rattle.wording.proofs.pass_line.Goals as goal

pub returns : goal.returns
unfolding pass_line
returns c = appends_next (appends_next c.push.ensures c.push_number.ensures) c.push-2.ensures
