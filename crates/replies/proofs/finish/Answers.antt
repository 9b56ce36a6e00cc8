-- The answer is handed out, and zeroing leaves nothing of it. Assumes nothing.
use Rattle.std.proofs.Common.{arith}
use Rattle.std.proofs.lemmas.List.{length-take-le}
use Rattle.replies.proofs.finish.Goals as goal

pub returns : goal.returns
returns c =
    let h = rw (length-take-le c.args.written.count c.args.work.now (omega arith)) at c.hand_out-answer.ensures in
    (h.0, h.1, c.fill.ensures.after (λ y h. h))
