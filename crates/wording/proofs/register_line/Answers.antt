-- The register, its intervals and LF. Assumes nothing.
use Rattle.meaning.specs.Listing.{register_line}
use Rattle.writer.proofs.Chain.{appends_next}
use Rattle.wording.proofs.register_line.Goals as goal

pub returns : goal.returns
unfolding register_line
returns c = appends_next (appends_next c.push.ensures c.push_number.ensures) (appends_next c.interval_texts.ensures c.push-2.ensures)
