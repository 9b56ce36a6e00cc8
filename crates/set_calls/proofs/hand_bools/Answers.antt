-- The bools are put as a set, and handed out. Assumes nothing.
use Rattle.std.proofs.Common.{refl}
use Rattle.set_calls.proofs.Calls.{written_is, call_handed}
use Rattle.set_calls.proofs.hand_bools.Goals as goal

pub returns : goal.returns
returns c =
    call_handed _ _ _ _ (written_is c.new-set.ensures c.put.ensures c.written.ensures) refl c.hand_out.ensures.0 c.hand_out.ensures.1
