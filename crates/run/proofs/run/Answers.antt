-- `run::run` meets its contract: 3 first, then the refusals of the text, and a sheet is worked.
use Rattle.std.proofs.Common.{◌≡◌, ap, ◌∙◌, rules, Err, None}
use Rattle.refusals.specs.declared.Cause.{Cause}
use Rattle.refusals.specs.declared.Cause.TheVariants.{TooShort}
use Rattle.refusals.specs.declared.Trouble.TheVariants.{Refused}
use Rattle.run.proofs.Steps.{ran_short, ran_refused, ran_worked, written_is}
use Rattle.run.proofs.run.Goals as goal

pub returns-in_err-numbers : goal.returns-in_err-numbers
returns-in_err-numbers c =
    let n : c.lent_numbers.result ≡ None = c.in_err-numbers.ensures.ok_part in
    let v = rw n at c.in_err-numbers.ensures.value in
    let k : c.in_err-numbers.field-0.0 ≡ TooShort = cc in
    let x : c.from_residual.result ≡ Err (Refused c.in_err-numbers.field-0.0 0) = search rules in
    ran_short c.args.text.now c.args.lent.now (rw n at c.lent_numbers.ensures) (x ∙ ap (λ (k : Cause). Err (Refused k 0)) k)

pub returns-in_err-count : goal.returns-in_err-count
returns-in_err-count c =
    let s = rw (c.in_ok-numbers.ensures.ok_part) at c.lent_numbers.ensures in
    let x : c.from_residual-in_err-count.result ≡ Err c.in_err-count.field-0.0 = search rules in
    ran_refused c.args.text.now c.args.lent.now s.0 c.in_err-count.ensures x

pub returns : goal.returns
returns c =
    let s = rw (c.in_ok-numbers.ensures.ok_part) at c.lent_numbers.ensures in
    ran_worked c.args.text.now c.args.lent.now s.0 c.in_ok-count.ensures c.work-ended.result (search rules) s.1 s.2 c.work-ended.ensures
    (written_is c.work-ended.new.state c.args.lent.now c.work-ended.array_long c.copy_from_slice.ensures.after)
