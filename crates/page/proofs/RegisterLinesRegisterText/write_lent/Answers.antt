-- The lines of the register's ends are those of its set. Assumes nothing.
use mathlib.Core.Path.{ap}
use native.Mathlib.Omega.{arith}
use Rattle.writer.proofs.Chain.{appends_as}
use Rattle.page.proofs.Rows.{lines_of, ends_are, ends_normal, ends_fit}
use Rattle.page.proofs.RegisterLinesRegisterText.write_lent.Goals as goal

pub register_lines-requires : goal.register_lines-requires
register_lines-requires c =
    let e = c.ends.ensures in
    (omega arith, ends_normal c.args.set.now e, omega (arith, ends_fit c.args.set.now e c.args.r c.requires.0, c.requires.1))

pub returns : goal.returns
returns c = appends_as (ap (lines_of c.args.r) (ends_are c.args.set.now c.ends.ensures)) c.register_lines.ensures
