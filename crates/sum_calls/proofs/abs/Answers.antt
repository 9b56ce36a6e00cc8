-- What all calls with work do, on the left set and {0}. Assumes nothing.
use mathlib.Core.Path.{◌∙◌}
use Rattle.cores.specs.Operation.{abs_alone}
use Rattle.set_calls.proofs.Calls.{alone_refusal, alone_ended}
use Rattle.meaning.specs.Number as point
use Rattle.set_calls.proofs.Right.{works1}
use Rattle.sum_calls.proofs.abs.Goals as goal

pub returns : goal.returns
returns c =
    record { works1 = works1 point.abs c.args.left.now c.args.flag c.args.out.now c.args.work.now (alone_ended abs_alone c.args.left.now c.args.flag c.args.out.now c.args.work.now c.joined.ensures.ended) (λ e. (c.joined.ensures.arguments (alone_refusal c.args.left.now ∙ e)).0) }
