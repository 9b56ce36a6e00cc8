-- Each turn writes the piece of one register more. Assumes nothing.
use Prim.Native.Nat.{◌<◌}
use native.Mathlib.Omega.{arith}
use Rattle.meaning.specs.Sheet.{registers}
use Rattle.writer.proofs.Partly.{partly_start}
use Rattle.listed.proofs.Showing.{piece_fits, piece_next, piece_none, all_below}
use Rattle.listed.proofs.Shown.write.Goals as goal
use Rattle.listed.proofs.Shown.write.Goals.{in-Some, in_default}

pub loop-r-init : goal.loop-r-init
loop-r-init g c = partly_start _ _ c.requires

pub write_lent-requires : goal.write_lent-requires
write_lent-requires g c =
    let h : c.loop-r.r < registers = omega arith in
    (omega arith, piece_fits g.T.RegisterText.text c.args.self.now c.loop-r.r c.loop-r.invariant h (rw c.in-Some.is at c.set.ensures) c.requires)

pub loop-r-preserved : goal.loop-r-preserved
loop-r-preserved g c =
    let text = g.T.RegisterText.text in
    let s = c.args.self.now in
    let r = c.loop-r.r in
    let h : r < registers = omega arith in
    elim c.match-set.branch [
      | in-Some w ↦ rw w.out-is (piece_next text s r c.loop-r.invariant h (rw w.in-Some.is at c.set.ensures) w.write_lent.ensures)
      | in_default w ↦ rw w.out-is (piece_none text s r c.loop-r.invariant h (rw w.in_default.is at c.set.ensures))
    ]

pub returns : goal.returns
returns g c = all_below g.T.RegisterText.text c.args.self.now c.loop-r.r c.loop-r.invariant (omega arith)
