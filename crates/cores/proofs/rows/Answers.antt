-- Each turn writes the results of one row more. Assumes nothing.
use Rattle.std.proofs.Common.{arith}
use Rattle.laws.proofs.Machine.{back}
use Rattle.laws.proofs.Members.{normal_proper}
use Rattle.writer.proofs.Pairs.{first, second}
use Rattle.cores.proofs.Joined.{row_few}
use Rattle.cores.proofs.Fill.{fill_start, next_proper, next_room, fill_next, fill_done}
use Rattle.cores.proofs.rows.Goals as goal

pub loop-lo-init : goal.loop-lo-init
loop-lo-init c = fill_start _ _ _ _ (normal_proper _ c.args.left.set.is) c.requires

pub invariant_of-row : goal.invariant_of-row
invariant_of-row c =
    let k = c.loop-lo.lo-index in
    let e = c.as_chunks.ensures in
    let x = c.as_chunks.result.0.now in
    let p = next_proper c.loop-lo.invariant e.front e.front_len c.loop-lo-test.true (back (first x k) c.lo-1.given) (back (second x k) c.hi-1.given) in
    record { ordered = p.ordered }

pub row-requires : goal.row-requires
row-requires c =
    let k = c.loop-lo.lo-index in
    let e = c.as_chunks.ensures in
    let x = c.as_chunks.result.0.now in
    next_room c.loop-lo.invariant e.front e.front_len c.loop-lo-test.true (back (first x k) c.lo-1.given) (back (second x k) c.hi-1.given)

pub loop-lo-preserved : goal.loop-lo-preserved
loop-lo-preserved c =
    let k = c.loop-lo.lo-index in
    let e = c.as_chunks.ensures in
    let x = c.as_chunks.result.0.now in
    let lo = back (first x k) c.lo-1.given in
    let hi = back (second x k) c.hi-1.given in
    let p = next_proper c.loop-lo.invariant e.front e.front_len c.loop-lo-test.true lo hi in
    fill_next c.loop-lo.invariant e.front e.front_len c.loop-lo-test.true lo hi c.row.ensures (row_few c.args.op _ p (normal_proper _ c.args.right.set.is))

pub returns : goal.returns
returns c = fill_done c.loop-lo.invariant (omega (arith, c.as_chunks.ensures.front_len))
