-- Blanks, and the text behind them. Assumes nothing.
use Rattle.writer.proofs.Chain.{appends_as, appends_next}
use Rattle.page_lines.proofs.Writing.{right_is}
use Rattle.page_lines.proofs.right_text.Goals as goal

pub returns-clause-text : goal.returns-clause-text
returns-clause-text c = appends_as (right_is c.args.text.now) (appends_next c.push_blanks.ensures.text c.push.ensures)
