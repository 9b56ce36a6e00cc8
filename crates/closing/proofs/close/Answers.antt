-- The first intervals stand as they are; each next one closes one gap of the front, its own or the least, and the end is the set closed.
use mathlib.Core.Path.{◌≡◌, refl, sym, ap, subst, ◌∙◌}
use mathlib.Core.List.{List, ◌++◌}
use Prim.Native.Nat.{◌+◌, ◌-◌, ◌*◌, ◌≤◌, ◌<◌, ◌^◌}
use native.Mathlib.Omega.{arith}
use Rattle.std.specs.Prelude.{None, Some}
use lib.ListN.{length, length-set}
use lib.IntN.{ℤ}
use lib.Signed.{mag}
use Rattle.laws.proofs.Machine.{back}
use Rattle.meaning.specs.Close.{missing as missing_of}
use Rattle.sorting.proofs.Steps.{end_at}
use Rattle.closing.proofs.Fronts.{Fronts, closed_ends, closed_few, fronts_start, fronts_done, gaps_of, gaps_are, gaps_even, gap_wide, near_turn, far_turn, next_at}
use Rattle.closing.proofs.Thin.{at_least_zero}
use Rattle.closing.proofs.close.Goals as goal
use Rattle.closing.proofs.close.Goals.{in-Some, in_default, in_default-via-in-Some+else-least-missing, in_default-via-in_default}

pub returns-then-n-limit : goal.returns-then-n-limit
returns-then-n-limit c = closed_few c.args.limit c.args.ends.now c.requires.1 c.if-n-limit.true

pub least_gap-gap-requires : goal.least_gap-gap-requires
least_gap-gap-requires c =
    let l = c.split_at_mut-front.result.0.now in
    let m = 2 * c.args.limit in
    let b = fronts_start c.args.limit c.args.ends.now c.requires.1 m refl c.requires.0 (omega (arith, c.if-n-limit.false)) in
    let f = subst (λ (x : List ℤ). Fronts (closed_ends c.args.limit c.args.ends.now) c.args.ends.now x m) (sym c.split_at_mut-front.ensures.front) b in
    rw (gaps_are l m c.split_at_mut-front.ensures.front_len) (gaps_even f, f.wide, at_least_zero (gaps_of l))

pub loop-s-init : goal.loop-s-init
loop-s-init c =
    let l = c.split_at_mut-front.result.0.now in
    let m = 2 * c.args.limit in
    let z : m + 0 ≡ m = omega arith in
    let b = fronts_start c.args.limit c.args.ends.now c.requires.1 m refl c.requires.0 (omega (arith, c.if-n-limit.false)) in
    let f = subst (λ (x : List ℤ). Fronts (closed_ends c.args.limit c.args.ends.now) c.args.ends.now x m) (sym c.split_at_mut-front.ensures.front) b in
    (c.split_at_mut-front.ensures.front_len, rw z f, rw (gaps_are l m c.split_at_mut-front.ensures.front_len) at c.least_gap-gap.ensures)

pub missing-requires : goal.missing-requires
missing-requires c =
    let m = 2 * c.args.limit in
    let t = next_at c.args.ends.now _ m c.loop-s.s-index _ c.split_at_mut-front.ensures.back (omega arith) c.as_chunks.ensures.front c.loop-s-test.true c.as_chunks.ensures.front_len in
    let g : mag (end_at c.loop-s.front (m - 1)) < 2 ^ 63 = omega arith in
    rw (back _ g, back _ c.s-1.given, t.start) (rw c.loop-s.invariant.0 at (gap_wide c.loop-s.invariant.1 t.room))

pub least_gap-gap-requires-in-Some : goal.least_gap-gap-requires-in-Some
least_gap-gap-requires-in-Some c =
    let m = 2 * c.args.limit in
    let l = c.loop-s.front in
    let r = c.loop-s.invariant.0 in
    let k = m + 2 * c.loop-s.s-index in
    let t = next_at c.args.ends.now _ m c.loop-s.s-index _ c.split_at_mut-front.ensures.back (omega arith) c.as_chunks.ensures.front c.loop-s-test.true c.as_chunks.ensures.front_len in
    let g : mag (end_at l (m - 1)) < 2 ^ 63 = omega arith in
    let j = rw (back _ g, back _ c.s-1.given, t.start) at c.missing.ensures in
    let h = rw j at c.if-least-missing.true in
    let q : c.in-Some.least.missing ≤ missing_of (end_at l (length l - 1)) (end_at c.args.ends.now k) = rw r (omega arith) in
    let p = rw (back _ c.s-1.given, back _ c.e-1.given, t.start, t.end) at c.push.ensures in
    let a = far_turn c.loop-s.invariant.1 t.room (rw c.in-Some.is at c.loop-s.invariant.2) q _ p in
    rw (gaps_are _ m (a.0 ∙ r)) (gaps_even a.1, a.1.wide, a.2)

pub loop-s-preserved : goal.loop-s-preserved
loop-s-preserved c =
    let m = 2 * c.args.limit in
    let l = c.loop-s.front in
    let r = c.loop-s.invariant.0 in
    let k = m + 2 * c.loop-s.s-index in
    let n : m + 2 * (c.loop-s.s-index + 1) ≡ k + 2 = omega arith in
    let t = next_at c.args.ends.now _ m c.loop-s.s-index _ c.split_at_mut-front.ensures.back (omega arith) c.as_chunks.ensures.front c.loop-s-test.true c.as_chunks.ensures.front_len in
    let b = back _ c.e-1.given ∙ t.end in
    elim c.match-gap.branch [
      | in-Some w ↦
          let g : mag (end_at l (m - 1)) < 2 ^ 63 = omega arith in
          let j = rw (back _ g, back _ c.s-1.given, t.start) at w.missing.ensures in
          let h = rw j at w.if-least-missing.true in
          let q : w.in-Some.least.missing ≤ missing_of (end_at l (length l - 1)) (end_at c.args.ends.now k) = rw r (omega arith) in
          let p = rw (back _ c.s-1.given, back _ c.e-1.given, t.start, t.end) at w.push.ensures in
          let a = far_turn c.loop-s.invariant.1 t.room (rw w.in-Some.is at c.loop-s.invariant.2) q _ p in
          rw (w.front-is, w.gap-is, n) (a.0 ∙ r, a.1, rw (gaps_are _ m (a.0 ∙ r)) at w.least_gap-gap-in-Some.ensures)
      | in_default w ↦
          elim w.in_default.branch [
            | in_default-via-in-Some+else-least-missing v ↦
                let g : mag (end_at l (m - 1)) < 2 ^ 63 = omega arith in
                let j = rw (back _ g, back _ c.s-1.given, t.start) at v.missing.ensures in
                let u : missing_of (end_at l (length l - 1)) (end_at c.args.ends.now k) < v.in-Some.least.missing = rw r (rw j at v.if-least-missing.false) in
                let a = rw r at (near_turn c.loop-s.invariant.1 t.room (Some v.in-Some.least) (rw v.in-Some.is at c.loop-s.invariant.2) u) in
                rw (w.front-is, w.gap-is, v.gap-is, b, n) (length-set l (m - 1) (end_at c.args.ends.now (k + 1)) ∙ r, a.0, a.1)
            | in_default-via-in_default v ↦
                let a = rw r at (near_turn c.loop-s.invariant.1 t.room None (rw v.in_default.is at c.loop-s.invariant.2) tt) in
                rw (w.front-is, w.gap-is, v.gap-is, v.in_default.is, b, n) (length-set l (m - 1) (end_at c.args.ends.now (k + 1)) ∙ r, a.0, a.1)
          ]
    ]

pub returns : goal.returns
returns c =
    let m = 2 * c.args.limit in
    let h : length c.args.ends.now ≤ m + 2 * c.loop-s.s-index = omega (arith, c.split_at_mut-front.ensures.back_len, c.as_chunks.ensures.front_len, c.loop-s-test.false, c.requires.1.even) in
    fronts_done c.args.limit c.args.ends.now c.requires.1 m refl c.requires.0 (omega (arith, c.if-n-limit.false)) c.loop-s.invariant.1 h c.loop-s.invariant.0 _
    (ap (λ (x : List ℤ). c.loop-s.front ++ x) c.split_at_mut-front.ensures.back)
