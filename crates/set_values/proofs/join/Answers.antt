-- The work slice has room for the results of any two operands. Assumes nothing.
use native.Mathlib.Omega.{arith}
use Rattle.cores.proofs.Joined.{bound}
use Rattle.set_values.proofs.Settling.{left_cored}
use Rattle.set_values.proofs.join.Goals as goal

pub answer-requires : goal.answer-requires
answer-requires c = omega (arith, bound c.args.op _ _ c.args.left.few c.args.right.few)

pub returns : goal.returns
returns c = left_cored c.answer.ensures (omega (arith, bound c.args.op _ _ c.args.left.few c.args.right.few)) c.answer.auto.work
