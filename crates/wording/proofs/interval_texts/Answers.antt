-- Each turn writes one interval more. Assumes nothing.
use native.Mathlib.Omega.{arith}
use Rattle.laws.proofs.Machine.{back}
use Rattle.writer.proofs.Pairs.{first, second, pair_fits, pair_next, pairs_done}
use Rattle.writer.proofs.Partly.{partly_start}
use Rattle.wording.proofs.Intervals.{each_listed}
use Rattle.wording.proofs.interval_texts.Goals as goal

pub loop-lo-init : goal.loop-lo-init
loop-lo-init c = partly_start _ _ c.requires

pub interval_text-requires : goal.interval_text-requires
interval_text-requires c =
    let k = c.loop-lo.lo-index in
    let e = c.as_chunks.ensures in
    let x = c.as_chunks.result.0.now in
    pair_fits each_listed _ k c.loop-lo.invariant e.front e.front_len c.loop-lo-test.true (back (first x k) c.lo-1.given) (back (second x k) c.hi-1.given) c.requires

pub loop-lo-preserved : goal.loop-lo-preserved
loop-lo-preserved c =
    let k = c.loop-lo.lo-index in
    let e = c.as_chunks.ensures in
    let x = c.as_chunks.result.0.now in
    pair_next each_listed _ k c.loop-lo.invariant e.front e.front_len c.loop-lo-test.true (back (first x k) c.lo-1.given) (back (second x k) c.hi-1.given) c.interval_text.ensures

pub returns : goal.returns
returns c = pairs_done each_listed _ c.loop-lo.lo-index c.loop-lo.invariant (omega (arith, c.as_chunks.ensures.front_len))
