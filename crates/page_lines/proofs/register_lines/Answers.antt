-- Each turn writes one line more. Assumes nothing.
use native.Mathlib.Omega.{arith}
use Rattle.laws.proofs.Machine.{back}
use Rattle.writer.proofs.Pairs.{first, second}
use Rattle.page_lines.proofs.Writing.{lined_start, lined_proper, lined_room, lined_next, lined_done}
use Rattle.page_lines.proofs.register_lines.Goals as goal

pub loop-lo-init : goal.loop-lo-init
loop-lo-init c = lined_start c.args.r c.args.ends.now _ c.requires.0 c.requires.1 c.requires.2

pub invariant_of-interval_line : goal.invariant_of-interval_line
invariant_of-interval_line c =
    let k = c.loop-lo.lo-index in
    let e = c.as_chunks.ensures in
    let x = c.as_chunks.result.0.now in
    let p = lined_proper c.loop-lo.invariant e.front e.front_len c.loop-lo-test.true (back (first x k) c.lo-1.given) (back (second x k) c.hi-1.given) in
    record { ordered = p.ordered }

pub interval_line-requires : goal.interval_line-requires
interval_line-requires c =
    let k = c.loop-lo.lo-index in
    let e = c.as_chunks.ensures in
    let x = c.as_chunks.result.0.now in
    (c.requires.0, lined_room c.loop-lo.invariant e.front e.front_len c.loop-lo-test.true (back (first x k) c.lo-1.given) (back (second x k) c.hi-1.given))

pub loop-lo-preserved : goal.loop-lo-preserved
loop-lo-preserved c =
    let k = c.loop-lo.lo-index in
    let e = c.as_chunks.ensures in
    let x = c.as_chunks.result.0.now in
    lined_next c.loop-lo.invariant e.front e.front_len c.loop-lo-test.true (back (first x k) c.lo-1.given) (back (second x k) c.hi-1.given) c.interval_line.ensures

pub returns : goal.returns
returns c = lined_done c.loop-lo.invariant (omega (arith, c.as_chunks.ensures.front_len))
