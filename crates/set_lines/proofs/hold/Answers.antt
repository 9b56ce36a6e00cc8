-- The set's ends are tested. Assumes nothing.
use Rattle.set_values.specs.Value.{set_of}
use Rattle.set_lines.proofs.Bounds.{hold_judged}
use Rattle.set_lines.proofs.hold.Goals as goal

pub returns-then-inside : goal.returns-then-inside
returns-then-inside c = hold_judged c.args.bounds.lo c.args.bounds.hi (set_of c.args.set.now) c.ends.ensures c.inside.ensures c.if-inside.true

pub returns-else-inside : goal.returns-else-inside
returns-else-inside c = hold_judged c.args.bounds.lo c.args.bounds.hi (set_of c.args.set.now) c.ends.ensures c.inside.ensures c.if-inside.false
