-- What the check gives and the marks of the lines are what the text shows. Assumes nothing.
use Rattle.std.proofs.lemmas.Result.{err_from_is_err_and}
use Rattle.sheet.proofs.Judging.{fine_sheet}
use Rattle.sheet_check.proofs.Walking.{text_refused}
use Rattle.listed.proofs.Showing.{passed_shows}
use Rattle.listed.proofs.Shown.of.Goals as goal

pub check_sheet-requires-clause-sheet : goal.check_sheet-requires-clause-sheet
check_sheet-requires-clause-sheet c = fine_sheet c.args.text.now c.judge_text.ensures.answer_is c.in_ok-lines.was

pub returns-in_err-lines : goal.returns-in_err-lines
returns-in_err-lines c =
    let p = err_from_is_err_and c.from_residual.result c.from_residual.ensures.1 in
    rw (p.1, p.2) (text_refused c.args.text.now c.judge_text.ensures.answer_is c.in_err-lines.was).0

pub marks_of-requires : goal.marks_of-requires
marks_of-requires c = (c.in_ok-lines.lines, fine_sheet c.args.text.now c.judge_text.ensures.answer_is c.in_ok-lines.was)

pub returns : goal.returns
returns c = passed_shows c.args.text.now (record { count = c.in_ok-count.count; registers = c.check_sheet.new.registers }) c.in_ok-count.ensures.answer c.marks_of.ensures
