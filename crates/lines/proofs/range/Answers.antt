-- `lines::range` meets its contract: each return is one case of the definition.
use Rattle.std.proofs.Common.{◌≡◌, ap, ◌∙◌, rules, Err, Some}
use Rattle.laws.proofs.Machine.{rd}
use Rattle.refusals.specs.declared.Cause.TheVariants.{Ungrammatical}
use Rattle.lines.specs.Answer.{range_from}
use Rattle.lines.proofs.Lines.{bounds_second_bad, bounds_crossed}
use Rattle.lines.proofs.range.Goals as goal

pub returns-in_err-hi : goal.returns-in_err-hi
returns-in_err-hi c s i held r e =
    let x : c.from_residual-in_err-hi.result ≡ Err Ungrammatical = search rules in
    ap (range_from held r) x ∙ bounds_second_bad s held r i e c.read_literal.ensures c.in_ok-lo.ensures.ok_part c.in_ok-text.ensures.0 c.in_ok-text.ensures.1 c.read_literal-2.ensures c.in_err-hi.ensures.ok_part

pub returns-then-hi-lo : goal.returns-then-hi-lo
returns-then-hi-lo c s i held r e =
    let l : c.in_ok-lo-2.lo ≡ rd c.in_ok-lo-2.lo = search rules in
    let h : c.in_ok-hi-2.hi ≡ rd c.in_ok-hi-2.hi = search rules in
    bounds_crossed s held r i e c.read_literal.ensures c.in_ok-lo.ensures.ok_part c.in_ok-text.ensures.0 c.in_ok-text.ensures.1 c.read_literal-2.ensures c.in_ok-hi.ensures.ok_part c.in_ok-ends.ensures
    (c.in_ok-lo-2.ensures.ok_part ∙ ap Some l) (c.in_ok-hi-2.ensures.ok_part ∙ ap Some h) c.if-hi-lo.true
