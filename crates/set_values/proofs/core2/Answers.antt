-- Either kind leaves its answer. Assumes nothing.
use mathlib.Core.Path.{ap}
use Rattle.meaning.specs.NumberIntervals.{of_bools}
use Rattle.set_values.proofs.Cores.{joined_left, related_left}
use Rattle.set_values.proofs.core2.Goals as goal

pub returns-in-Joined : goal.returns-in-Joined
returns-in-Joined c = joined_left _ _ c.from.ensures c.in-Joined.is c.join.ensures

pub returns-in-Related : goal.returns-in-Related
returns-in-Related c = related_left _ _ c.from.ensures c.in-Related.is (ap of_bools c.relate.ensures) c.put_bools.ensures
