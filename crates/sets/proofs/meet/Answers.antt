-- What is written so far, and the walk over what is left, is the whole walk. Assumes nothing.
use mathlib.Core.Logic.{inl, inr}
use Prim.Native.Nat.{◌<◌}
use native.Mathlib.Omega.{arith}
use borrow.Author.Tests.{ltb-true, ltb-false}
use lib.ListN.{length}
use Rattle.sets.proofs.Cross.{walking_start, walking_done, turn_fits, turn_left, turn_right}
use Rattle.sets.proofs.meet.Goals as goal

pub loop-lefts-init : goal.loop-lefts-init
loop-lefts-init c = walking_start _ _ c.args.out.now c.requires

pub put_common-requires : goal.put_common-requires
put_common-requires c = turn_fits c.loop-lefts.invariant (omega (arith, ltb-false)) (omega (arith, ltb-false)) (omega arith) (omega arith) (omega arith) (omega arith) c.requires

pub loop-lefts-preserved-then-e-d : goal.loop-lefts-preserved-then-e-d
loop-lefts-preserved-then-e-d c =
    turn_left c.loop-lefts.invariant (omega (arith, ltb-false)) (omega (arith, ltb-false)) (omega arith) (omega arith) (omega arith) (omega arith) c.put_common.ensures c.if-e-d.true

pub loop-lefts-preserved : goal.loop-lefts-preserved
loop-lefts-preserved c =
    turn_right c.loop-lefts.invariant (omega (arith, ltb-false)) (omega (arith, ltb-false)) (omega arith) (omega arith) (omega arith) (omega arith) c.put_common.ensures c.if-e-d.false

pub returns-in_default : goal.returns-in_default
returns-in_default c = walking_done c.loop-lefts.invariant c.args.left.set c.args.right.set (inl c.in_default.len_below)

pub returns-in_default-2 : goal.returns-in_default-2
returns-in_default-2 c =
    let h : length c.loop-lefts.rights.now < 2 = omega (arith, ltb-true) in
    walking_done c.loop-lefts.invariant c.args.left.set c.args.right.set (inr h)
