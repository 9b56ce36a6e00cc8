-- The front line ends at the first LF, and the lines of what follows it are those that are left. Assumes nothing.
use Rattle.std.proofs.Common.{arith, ap}
use Rattle.meaning.specs.Text.{Split}
use Rattle.sheet.proofs.Feeds.{some_first}
use Rattle.std.proofs.lemmas.Grind.{common_steps}
use Rattle.sheet.proofs.LinesIterator.next.Goals as goal

pub returns-clause-steps : goal.returns-clause-steps
returns-clause-steps c =
    let f = some_first c.args.self.now.rest.now c.first_lf.ensures (c.in_ok-end.was) in
    let e = ap (λ (x : Split). x.lines) f.split in grind (arith, common_steps)
