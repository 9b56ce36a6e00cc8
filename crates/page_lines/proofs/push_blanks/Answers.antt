-- So many of twenty blanks are that many blanks. Assumes nothing.
use Rattle.std.proofs.lemmas.List.{take-replicate}
use Rattle.writer.proofs.Chain.{appends_as}
use Rattle.page_lines.proofs.push_blanks.Goals as goal

pub returns-clause-text : goal.returns-clause-text
returns-clause-text c = appends_as (take-replicate c.args.n 20 32 c.requires.0) c.push.ensures
