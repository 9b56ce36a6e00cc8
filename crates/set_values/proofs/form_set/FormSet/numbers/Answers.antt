-- The first ends are those of the set. Assumes nothing.
use Rattle.set_values.proofs.Sets.{held_ends}
use Rattle.set_values.proofs.form_set.FormSet.numbers.Goals as goal

pub returns : goal.returns
returns c = held_ends c.args.self.now.held
