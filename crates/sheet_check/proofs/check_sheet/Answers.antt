-- After the lines the work slice is 0. Assumes nothing.
use Rattle.sheet_check.proofs.Walking.{sheet_left}
use Rattle.sheet_check.proofs.check_sheet.Goals as goal

pub returns-clause-left : goal.returns-clause-left
returns-clause-left c =
    sheet_left c.args.text.now c.requires.sheet c.args.work.now c.check_lines-checked.new.work
    c.told-work c.check_lines-checked.array_long (c.fill.ensures.after (λ y e. e))
