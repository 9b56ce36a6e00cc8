-- `run_lines::run_line` meets its contract: one case for each kind of line.
use Rattle.std.proofs.Common.{◌≡◌, rules, true, false, pos, get_or, Err, ap, sym, ◌∙◌}
use Rattle.meaning.specs.Number.{within}
use Rattle.run_lines.proofs.Lines.{in_goes, in_halts, hold_goes, hold_halts, put_halts}
use Rattle.point_forms.specs.Answer.{res_of}
use Rattle.run_lines.proofs.run_line.Goals as goal

pub returns-then-not-contains : goal.returns-then-not-contains
returns-then-not-contains c =
    let w : within c.in-In.range.lo (get_or c.args.lent.now c.in-In.register (pos 0)) c.in-In.range.hi ≡ false = search rules in
    in_halts c.args.lent.now c.args.state.now c.args.text.now c.in_ok-register.ensures.line c.in-In.is w

pub returns-else-not-contains : goal.returns-else-not-contains
returns-else-not-contains c =
    let w : within c.in-In.range.lo (get_or c.args.lent.now c.in-In.register (pos 0)) c.in-In.range.hi ≡ true = search rules in
    let g = in_goes c.args.lent.now c.args.state.now c.args.text.now c.in_ok-register.ensures.line c.in-In.is w in search rules

pub returns-in_err-state-in-Put : goal.returns-in_err-state-in-Put
returns-in_err-state-in-Put c =
    let x : c.from_residual-in_err-state-in-Put.result ≡ Err c.in_err-state-in-Put.field-0.0 = search rules in
    let h = put_halts c.args.lent.now c.args.state.now c.args.text.now c.in_ok-register.ensures.line c.in-Put.is (sym (ap res_of c.in_err-state-in-Put.was) ∙ c.value.ensures) in
    rw x h

pub returns-then-not-contains-2 : goal.returns-then-not-contains-2
returns-then-not-contains-2 c =
    let w : within c.in-Hold.range.lo (get_or c.args.state.now c.in-Hold.register (pos 0)) c.in-Hold.range.hi ≡ false = search rules in
    hold_halts c.args.lent.now c.args.state.now c.args.text.now c.in_ok-register.ensures.line c.in-Hold.is w

pub returns-else-not-contains-2 : goal.returns-else-not-contains-2
returns-else-not-contains-2 c =
    let w : within c.in-Hold.range.lo (get_or c.args.state.now c.in-Hold.register (pos 0)) c.in-Hold.range.hi ≡ true = search rules in
    hold_goes c.args.lent.now c.args.state.now c.args.text.now c.in_ok-register.ensures.line c.in-Hold.is w
