-- What was read of the line says which register it writes. Assumes nothing.
use Rattle.std.proofs.Common.{◌≡◌, Ok}
use Rattle.lines.specs.declared.Line.TheVariants.{In, Put, Hold}
use Rattle.listed.proofs.Marks.{input_marks, put_marks, hold_marks}
use Rattle.listed.proofs.mark.Goals as goal

pub bounds-marks-r : goal.bounds-marks-r
bounds-marks-r c =
    let e : c.read_line.result ≡ Ok (In c.in-Ok-In.r c.in-Ok-In.field-0-1) = cc in
    (input_marks c.args.line.now c.read_line.ensures.line c.requires e).there

pub bounds-marks-r-in-Ok-Put : goal.bounds-marks-r-in-Ok-Put
bounds-marks-r-in-Ok-Put c =
    let e : c.read_line.result ≡ Ok (Put c.in-Ok-Put.r c.in-Ok-Put.field-0-1) = cc in
    (put_marks c.args.line.now c.read_line.ensures.line c.requires e).there

pub returns-in-Ok-In : goal.returns-in-Ok-In
returns-in-Ok-In c =
    let e : c.read_line.result ≡ Ok (In c.in-Ok-In.r c.in-Ok-In.field-0-1) = cc in
    (input_marks c.args.line.now c.read_line.ensures.line c.requires e).marked c.args.marks.now

pub returns-in-Ok-Put : goal.returns-in-Ok-Put
returns-in-Ok-Put c =
    let e : c.read_line.result ≡ Ok (Put c.in-Ok-Put.r c.in-Ok-Put.field-0-1) = cc in
    (put_marks c.args.line.now c.read_line.ensures.line c.requires e).marked c.args.marks.now

pub returns-in-Ok-Hold : goal.returns-in-Ok-Hold
returns-in-Ok-Hold c =
    let e : c.read_line.result ≡ Ok (Hold c.in-Ok-Hold.field-0-0 c.in-Ok-Hold.field-0-1) = cc in
    hold_marks c.args.line.now c.read_line.ensures.line c.requires e c.args.marks.now
