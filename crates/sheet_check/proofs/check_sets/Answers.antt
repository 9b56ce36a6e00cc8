-- The registers are those that the lines leave, shown on a pass. Assumes nothing.
use mathlib.Core.Path.{refl}
use Rattle.std.proofs.lemmas.Result.{err_from_is_err_and}
use Rattle.sheet_check.proofs.check_sets.Goals as goal

pub returns-clause-answer : goal.returns-clause-answer
returns-clause-answer c = (c.check_sheet.new.registers, c.in_ok-passed.ensures.answer, c.show.ensures)

pub returns-in_err-passed-clause-answer : goal.returns-in_err-passed-clause-answer
returns-in_err-passed-clause-answer c =
    let p = err_from_is_err_and c.from_residual.result c.from_residual.ensures.1 in
    rw (p.1, p.2) (c.check_sheet.new.registers, c.in_err-passed.ensures.answer, refl)
