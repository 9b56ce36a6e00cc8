-- `lines::ranged` meets its contract: the register, its space and the range are the definition's.
use Rattle.std.proofs.Common.{◌≡◌, ap, sym, ◌∙◌, rules, Err, ◌+◌}
use Rattle.lines.specs.Answer.{pair_from, ranged as ranged_as}
use Rattle.meaning.specs.Reading.{bounds}
use Rattle.lines.proofs.Lines.{register_is, left_part}
use Rattle.lines.proofs.ranged.Goals as goal

pub returns-in_err-range : goal.returns-in_err-range
returns-in_err-range c s i held e =
    let x : c.from_residual-in_err-range.result ≡ Err c.in_err-range.field-0.0 = search rules in
    ap (pair_from held) x ∙ c.in_err-range.ensures s (i + c.in_ok-register.register.len + 1) held c.in_ok-register.register.value (sym (left_part s i c.in_ok-register.register.len e c.in_ok-rest.ensures.1))
    ∙ register_is s (λ r k. bounds (ranged_as held r) s k) i e c.read_register.ensures c.in_ok-register.ensures.ok_part c.in_ok-rest.ensures.0
