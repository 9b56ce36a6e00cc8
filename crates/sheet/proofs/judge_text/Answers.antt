-- `sheet::judge_text` meets its contract: 5 comes first, and where it does not the lines are judged in order.
use Rattle.std.proofs.Common.{◌∙◌, Err}
use Rattle.meaning.specs.Text.{read}
use Rattle.refusals.specs.declared.Cause.TheVariants.{Misshapen}
use Rattle.refusals.specs.declared.Trouble.TheVariants.{Refused}
use Rattle.sheet.proofs.Judging.{judged_so, read_shaped, read_unshaped}
use Rattle.sheet.proofs.judge_text.Goals as goal

pub returns-then-shaped : goal.returns-then-shaped
returns-then-shaped c =
    let e = c.judge_lines.ensures ∙ read_shaped c.args.text.now c.shaped.ensures c.if-shaped.true in
    record { verdict_is = judged_so c.judge_lines.result (read c.args.text.now) e; answer_is = e }

pub returns-else-shaped : goal.returns-else-shaped
returns-else-shaped c =
    let e = read_unshaped c.args.text.now c.shaped.ensures c.if-shaped.false in
    record { verdict_is = judged_so (Err (Refused Misshapen 0)) (read c.args.text.now) e; answer_is = e }
