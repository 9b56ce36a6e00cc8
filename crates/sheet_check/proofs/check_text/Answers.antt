-- The text is judged, and a sheet is worked. Assumes nothing.
use Rattle.std.proofs.lemmas.Result.{err_from_is_err_and}
use Rattle.sheet.proofs.Judging.{fine_sheet}
use Rattle.sheet_check.proofs.Walking.{text_refused}
use Rattle.sheet_check.proofs.check_text.Goals as goal

pub check_sheet-requires-clause-sheet : goal.check_sheet-requires-clause-sheet
check_sheet-requires-clause-sheet c = fine_sheet c.args.text.now c.judge_text.ensures.answer_is c.in_ok-count.was

pub returns-in_err-count-clause-answer : goal.returns-in_err-count-clause-answer
returns-in_err-count-clause-answer c =
    let p = err_from_is_err_and c.from_residual.result c.from_residual.ensures.1 in
    rw (p.1, p.2) (text_refused c.args.text.now c.judge_text.ensures.answer_is c.in_err-count.was).0

pub returns-in_err-count-clause-left : goal.returns-in_err-count-clause-left
returns-in_err-count-clause-left c = (text_refused c.args.text.now c.judge_text.ensures.answer_is c.in_err-count.was).1 c.args.work.now
