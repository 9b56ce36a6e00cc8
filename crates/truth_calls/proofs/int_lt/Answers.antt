-- The promise of the point operation, from what the call hands out. Assumes nothing.
use Rattle.meaning.specs.Number as point
use Rattle.set_calls.proofs.Right.{gives2}
use Rattle.truth_calls.proofs.int_lt.Goals as goal

pub returns : goal.returns
returns c = record { gives2 = gives2 point.lt _ _ _ c.related.ensures.answered c.related.ensures.arguments }
