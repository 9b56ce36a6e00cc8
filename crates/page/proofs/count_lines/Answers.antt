-- Each turn counts the rows of one register more: two ends make an interval. Assumes nothing.
use mathlib.Core.Path.{refl}
use Prim.Native.Nat.{◌/◌, ◌≤◌}
use lib.ListN.{length}
use Rattle.meaning.specs.Check.{interval_limit}
use Rattle.laws.proofs.PageReadBack.{length_rows}
use Rattle.set_values.specs.Value.{set_of}
use native.Mathlib.Omega.{arith}
use Rattle.page.proofs.Rows.{counted_next, counted_all, set_few, ends_count}
use Rattle.page.proofs.count_lines.Goals as goal
use Rattle.page.proofs.count_lines.Goals.{in-Some, in_default}

pub loop-r-preserved : goal.loop-r-preserved
loop-r-preserved c =
    let s = c.args.shown.now in
    let r = c.loop-r.r in
    let h = c.loop-r-test.true in
    elim c.match-set.branch [
      | in-Some w ↦
          let set = w.in-Some.set in
          let e = w.ends.ensures in
          let few : length w.ends.result.set.numbers.now / 2 ≤ interval_limit = omega (arith, ends_count set e r, length_rows r (set_of set), set_few set) in
          counted_next s r c.loop-r.invariant h (rw w.in-Some.is at c.set.ensures) (length w.ends.result.set.numbers.now / 2) few (ends_count set e r) w.n-is
      | in_default w ↦ counted_next s r c.loop-r.invariant h (rw w.in_default.is at c.set.ensures) 0 (omega arith) refl (omega (arith, w.n-is))
    ]

pub returns : goal.returns
returns c = (counted_all c.args.shown.now c.loop-r.r c.loop-r.invariant (omega arith), omega (arith, c.loop-r.invariant.few))
