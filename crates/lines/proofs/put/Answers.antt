-- `lines::put` meets its contract: the sizes tell where the form ends, and whether a literal in it is beyond MIN..MAX. Assumes nothing.
use Rattle.std.proofs.Common.{◌≡◌, ap, sym, ◌∙◌, rules, Err, ◌+◌}
use Rattle.refusals.specs.declared.Cause.TheVariants.{Ungrammatical}
use Rattle.lines.specs.Answer.{line_from, put_at}
use Rattle.lines.proofs.Lines.{register_is, left_part, put_bad, put_unended, put_far, put_is}
use Rattle.lines.proofs.put.Goals as goal

pub returns-clause-part : goal.returns-clause-part
returns-clause-part c = (c.in_ok-register.register.len + 1, c.in_ok-form.ensures.1)

pub returns-in_err-size-clause-line : goal.returns-in_err-size-clause-line
returns-in_err-size-clause-line c s i e =
    let r = c.in_ok-register.register in
    let x : c.from_residual-in_err-size.result ≡ Err Ungrammatical = search rules in
    ap line_from x ∙ put_bad s r.value (i + r.len + 1) (sym (left_part s i r.len e c.in_ok-form.ensures.1)) c.arg.ensures c.in_err-size.ensures.ok_part
    ∙ register_is s (put_at s) i e c.read_register.ensures c.in_ok-register.ensures.ok_part c.in_ok-form.ensures.0

pub returns-in_err-ends-clause-line : goal.returns-in_err-ends-clause-line
returns-in_err-ends-clause-line c s i e =
    let r = c.in_ok-register.register in
    let x : c.from_residual-in_err-ends.result ≡ Err Ungrammatical = search rules in
    ap line_from x ∙ put_unended s r.value (i + r.len + 1) (sym (left_part s i r.len e c.in_ok-form.ensures.1)) c.arg.ensures c.in_ok-size.ensures.ok_part c.in_err-ends.ensures.1
    ∙ register_is s (put_at s) i e c.read_register.ensures c.in_ok-register.ensures.ok_part c.in_ok-form.ensures.0

pub returns-then-size-clause-line : goal.returns-then-size-clause-line
returns-then-size-clause-line c s i e =
    let r = c.in_ok-register.register in
    put_far s r.value (i + r.len + 1) (sym (left_part s i r.len e c.in_ok-form.ensures.1)) c.arg.ensures c.in_ok-size.ensures.ok_part c.in_ok-ends.ensures c.if-size.true
    ∙ register_is s (put_at s) i e c.read_register.ensures c.in_ok-register.ensures.ok_part c.in_ok-form.ensures.0

pub returns-clause-line : goal.returns-clause-line
returns-clause-line c s i e =
    let r = c.in_ok-register.register in
    put_is s r.value (i + r.len + 1) (sym (left_part s i r.len e c.in_ok-form.ensures.1)) c.arg.ensures c.in_ok-size.ensures.ok_part c.in_ok-ends.ensures c.if-size.false
    ∙ register_is s (put_at s) i e c.read_register.ensures c.in_ok-register.ensures.ok_part c.in_ok-form.ensures.0
