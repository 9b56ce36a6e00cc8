-- What all calls of two sets with work do, for its own operation. Assumes nothing.
use Rattle.meaning.specs.Number as point
use Rattle.set_calls.proofs.Right.{works2}
use Rattle.product_calls.proofs.mul.Goals as goal

pub returns : goal.returns
returns c =
    record { works2 = works2 point.mul c.args.left.now c.args.flag c.args.right.now c.args.out.now c.args.work.now c.joined.ensures.ended c.joined.ensures.arguments }
