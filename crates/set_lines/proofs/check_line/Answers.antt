-- One case for each kind of line. Assumes nothing.
use mathlib.Core.Path.{ap, ◌∙◌}
use Rattle.std.proofs.lemmas.Result.{err_from_is_err_and}
use Rattle.meaning.specs.NumberIntervals.{Set}
use Rattle.meaning.specs.Check.{inside}
use Rattle.set_lines.specs.Worked.{hold_number}
use Rattle.set_values.specs.Value.{result_of, sets_of, bands_of}
use Rattle.set_lines.proofs.Lines.{read_as, in_there, in_is, hold_there, hold_is, refused_is, put_there, put_worked, put_stopped}
use Rattle.set_lines.proofs.check_line.Goals as goal

pub returns-in_err-r : goal.returns-in_err-r
returns-in_err-r c =
    let p = err_from_is_err_and c.from_residual.result c.from_residual.ensures.1 in
    rw (p.1, p.2) (refused_is c.args.text.now c.in_err-r.ensures.line (bands_of c.args.registers.now))

pub give-requires : goal.give-requires
give-requires c = in_there c.args.text.now (read_as c.args.text.now c.read_line.ensures.line c.in_ok-r.was c.in-In.is)

pub returns-in-In : goal.returns-in-In
returns-in-In c =
    in_is c.args.text.now (read_as c.args.text.now c.read_line.ensures.line c.in_ok-r.was c.in-In.is) (sets_of c.args.registers.now) c.give.ensures c.from.ensures

pub give-requires-in-Put : goal.give-requires-in-Put
give-requires-in-Put c = put_there c.args.text.now c.in-Put.r c.in-Put.form.now (read_as c.args.text.now c.read_line.ensures.line c.in_ok-r.was c.in-Put.is)

pub returns-in-Ok : goal.returns-in-Ok
returns-in-Ok c =
    put_worked c.args.text.now c.in-Put.r c.in-Put.form.now (read_as c.args.text.now c.read_line.ensures.line c.in_ok-r.was c.in-Put.is)
    (sets_of c.args.registers.now) c.value-value.ensures (ap result_of c.in-Ok.is) c.give-in-Put.ensures

pub returns-in-Err : goal.returns-in-Err
returns-in-Err c =
    put_stopped c.args.text.now c.in-Put.r c.in-Put.form.now (read_as c.args.text.now c.read_line.ensures.line c.in_ok-r.was c.in-Put.is)
    (sets_of c.args.registers.now) c.value-value.ensures (ap result_of c.in-Err.is)

pub set-requires : goal.set-requires
set-requires c = hold_there c.args.text.now (read_as c.args.text.now c.read_line.ensures.line c.in_ok-r.was c.in-Hold.is)

pub returns-in-Hold : goal.returns-in-Hold
returns-in-Hold c =
    hold_is c.args.text.now (read_as c.args.text.now c.read_line.ensures.line c.in_ok-r.was c.in-Hold.is) c.args.registers.now c.hold.result (c.hold.ensures ∙ ap (λ (s : Set). hold_number (inside c.in-Hold.bounds.lo s c.in-Hold.bounds.hi)) c.set.ensures)
