-- Each turn tests one interval against its neighbour, and reads both of its ends, so all that was passed is in range; the last one has no neighbour. Assumes nothing.
use mathlib.Core.Path.{◌≡◌, ap, ◌∙◌}
use mathlib.Core.Bool.{◌&&◌}
use Prim.Native.Nat.{◌^◌, ◌-◌, ◌<◌}
use native.Mathlib.Omega.{arith}
use lib.ListN.{length, take, drop, length-drop}
use lib.Seq.{take_all}
use lib.Signed.{le_z, mag}
use Rattle.meaning.specs.NumberIntervals.{apart}
use Rattle.laws.proofs.Machine.{back, fit, fits_range}
use Rattle.sorting.proofs.Steps.{end_at}
use Rattle.sets.proofs.Reading.{passed_start, passed_next, passed_not, passed_none, passed_two, normal_two, passed_odd, both_made, one_made}
use Rattle.sets.proofs.is_normal.Goals as goal
use Rattle.sets.proofs.is_normal.Goals.{then-a-b, else-a-b}

pub loop-ends-init : goal.loop-ends-init
loop-ends-init c = passed_start c.args.s.now

pub returns-then-not-apart-clause-value : goal.returns-then-not-apart-clause-value
returns-then-not-apart-clause-value c =
    let l = c.loop-ends.ends.now in
    let p = back (end_at l 0) (omega arith) in
    let q = back (end_at l 1) (omega arith) in
    let t : (le_z (end_at l 0) (end_at l 1) && apart (end_at l 1) (end_at l 2)) ≡ c.if-a-b.value =
    elim c.if-a-b.branch [
      | then-a-b w ↦ both_made (end_at l 0) (end_at l 1) (end_at l 2) (rw (p, q) at w.if-a-b.true) (let r = back (end_at l 2) (omega arith) in rw (q, r) at w.apart.ensures) w.value-is
      | else-a-b w ↦ one_made (end_at l 0) (end_at l 1) (end_at l 2) (rw (p, q) at w.if-a-b.false) (w.value-is ∙ w.if-a-b.false)
    ] in
    passed_not c.loop-ends.invariant c.in-len3-up.len_at_least (t ∙ c.if-not-apart.true)

pub loop-ends-smaller : goal.loop-ends-smaller
loop-ends-smaller c =
    let l = c.loop-ends.ends.now in
    let e : take (length l - 2) (drop 2 l) ≡ drop 2 l = take_all (length l - 2) (drop 2 l) (omega (arith, length-drop 2 l)) in
    omega (arith, ap length e, length-drop 2 l, c.in-len3-up.len_at_least)

pub loop-ends-preserved : goal.loop-ends-preserved
loop-ends-preserved c =
    let l = c.loop-ends.ends.now in
    let m : mag (end_at l 0) < 2 ^ 63 = omega arith in
    let n : mag (end_at l 1) < 2 ^ 63 = omega arith in
    let p = back (end_at l 0) m in
    let q = back (end_at l 1) n in
    let t : (le_z (end_at l 0) (end_at l 1) && apart (end_at l 1) (end_at l 2)) ≡ c.if-a-b.value =
    elim c.if-a-b.branch [
      | then-a-b w ↦ both_made (end_at l 0) (end_at l 1) (end_at l 2) (rw (p, q) at w.if-a-b.true) (let r = back (end_at l 2) (omega arith) in rw (q, r) at w.apart.ensures) w.value-is
      | else-a-b w ↦ one_made (end_at l 0) (end_at l 1) (end_at l 2) (rw (p, q) at w.if-a-b.false) (w.value-is ∙ w.if-a-b.false)
    ] in
    let e : take (length l - 2) (drop 2 l) ≡ drop 2 l = take_all (length l - 2) (drop 2 l) (omega (arith, length-drop 2 l)) in
    rw e (passed_next c.loop-ends.invariant c.in-len3-up.len_at_least (t ∙ c.if-not-apart.false) (fits_range (fit (end_at l 0) m)) (fits_range (fit (end_at l 1) n)))

pub returns-in-empty : goal.returns-in-empty
returns-in-empty c =
    let n = passed_none c.loop-ends.invariant c.in-empty.len_below in
    record { value = n.0; normal = λ e. n.1 }

pub returns-in-len2 : goal.returns-in-len2
returns-in-len2 c =
    let l = c.loop-ends.ends.now in
    let h : length l ≡ 2 = omega (arith, c.in-len2.len_at_least, c.in-len2.len_below) in
    let m : mag (end_at l 0) < 2 ^ 63 = omega arith in
    let n : mag (end_at l 1) < 2 ^ 63 = omega arith in
    let p = back (end_at l 0) m in
    let q = back (end_at l 1) n in
    rw (p, q) (record {
      value = passed_two c.loop-ends.invariant h;
      normal = normal_two c.loop-ends.invariant h (fits_range (fit (end_at l 0) m)) (fits_range (fit (end_at l 1) n));
    })

pub returns-in_default-ends-clause-value : goal.returns-in_default-ends-clause-value
returns-in_default-ends-clause-value c = passed_odd c.loop-ends.invariant (omega arith)
