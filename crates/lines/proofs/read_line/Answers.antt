-- `lines::read_line` meets its contract: the first word tells the kind.
use Rattle.std.proofs.Common.{◌≡◌, ap, ◌∙◌, rules, Err, true, false}
use Rattle.lines.specs.Answer.{line_from}
use Rattle.lines.proofs.Lines.{line_in, line_put, line_hold, part_within}
use Rattle.lines.proofs.read_line.Goals as goal

pub returns-in_ok-register-clause-line : goal.returns-in_ok-register-clause-line
returns-in_ok-register-clause-line c = c.in_ok-register.ensures c.args.text.now 4 false c.in-Some.ensures.cases.1 ∙ line_in c.args.text.now c.in-Some.ensures.cases.0

pub returns-in_err-register-clause-line : goal.returns-in_err-register-clause-line
returns-in_err-register-clause-line c =
    let x : c.from_residual.result ≡ Err c.in_err-register.field-0.0 = search rules in
    ap line_from x ∙ c.in_err-register.ensures c.args.text.now 4 false c.in-Some.ensures.cases.1 ∙ line_in c.args.text.now c.in-Some.ensures.cases.0

pub returns-in-Some-strip_prefix-clause-line : goal.returns-in-Some-strip_prefix-clause-line
returns-in-Some-strip_prefix-clause-line c =
    c.put.ensures.line c.args.text.now 5 c.in-Some-strip_prefix.ensures.cases.1
    ∙ line_put c.args.text.now c.in_default.ensures.cases c.in-Some-strip_prefix.ensures.cases.0

pub returns-in-Some-strip_prefix-clause-part : goal.returns-in-Some-strip_prefix-clause-part
returns-in-Some-strip_prefix-clause-part c = part_within c.args.text.now 5 c.in-Some-strip_prefix.ensures.cases.1 c.put.result c.put.ensures.part

pub returns-in_ok-register-2-clause-line : goal.returns-in_ok-register-2-clause-line
returns-in_ok-register-2-clause-line c =
    c.in_ok-register-2.ensures c.args.text.now 6 true c.in-Some-strip_prefix-2.ensures.cases.1
    ∙ line_hold c.args.text.now c.in_default.ensures.cases c.in_default-strip_prefix.ensures.cases c.in-Some-strip_prefix-2.ensures.cases.0

pub returns-in_err-register-2-clause-line : goal.returns-in_err-register-2-clause-line
returns-in_err-register-2-clause-line c =
    let x : c.from_residual-in_err-register-2.result ≡ Err c.in_err-register-2.field-0.0 = search rules in
    ap line_from x ∙ c.in_err-register-2.ensures c.args.text.now 6 true c.in-Some-strip_prefix-2.ensures.cases.1
    ∙ line_hold c.args.text.now c.in_default.ensures.cases c.in_default-strip_prefix.ensures.cases c.in-Some-strip_prefix-2.ensures.cases.0
