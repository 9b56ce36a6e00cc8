-- The answer is what the writer has. Assumes nothing.
use Rattle.set_values.proofs.Settling.{left_added}
use Rattle.set_values.proofs.put_bools.Goals as goal

pub returns : goal.returns
returns c = left_added c.new-ends.ensures c.put.ensures
