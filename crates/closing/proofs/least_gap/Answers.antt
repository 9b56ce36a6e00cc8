-- The gaps before the turn's are searched; a gap with as many missing numbers as an earlier one does not take its place, and one that has no more than `floor` ends the search.
use mathlib.Core.Path.{◌≡◌, sym, ap, ◌∙◌}
use mathlib.Core.Bool.{true}
use mathlib.Core.List.{List, []}
use Prim.Native.Nat.{ℕ, suc, ◌+◌, ◌*◌, ◌/◌, ◌%◌, ◌≤◌, ◌<◌}
use native.Mathlib.Omega.{arith}
use borrow.Author.Rules.{rules}
use borrow.Author.Tests.{tests}
use lib.ListN.{length, get_or, take}
use lib.IntN.{ℤ, pos}
use Rattle.std.specs.Simd.{first_chunks}
use Rattle.std.specs.Option.{MatchOption}
use Rattle.std.specs.Prelude.{Option, None, Some}
use Rattle.laws.proofs.Machine.{back}
use Rattle.meaning.specs.Close.{missing as missing_of}
use Rattle.sorting.proofs.Steps.{end_at}
use Rattle.sorting.proofs.Chunks.{pair_at}
use Rattle.closing.specs.declared.Gap.{Gap}
use Rattle.closing.specs.Gaps.{at_least, Lowest}
use Rattle.closing.proofs.Least.{none_fewer}
use Rattle.closing.proofs.Search.{Searching, gap_wide, floor_le, searching_next, searching_stop, searching_new, searching_old}
use Rattle.closing.proofs.Thin.{at_least_less}
use Rattle.closing.proofs.least_gap.Goals as goal
use Rattle.closing.proofs.least_gap.Goals.{then-is_none_or, else-is_none_or}

-- the gap of a turn, as it is read
record Read (p : List ℤ) (i : ℕ) (pair : List ℤ) : Type 0 where
  end : get_or pair 0 (pos 0) ≡ end_at p (2 * i)
  start : get_or pair 1 (pos 0) ≡ end_at p (2 * i + 1)
  room : 2 * i + 2 ≤ length p

read : (p : List ℤ) (i : ℕ) (pairs : List (List ℤ)) → length p % 2 ≡ 0 → pairs ≡ first_chunks 2 (length p / 2) p → i < length pairs → length pairs ≡ length p / 2 → Read p i (get_or pairs i [])
read p i pairs w e h n =
    let g = ap (λ (x : List (List ℤ)). get_or x i []) e ∙ pair_at (length p / 2) i p [] (omega arith) (omega arith) in
    record { end = ap (λ (x : List ℤ). get_or x 0 (pos 0)) g; start = ap (λ (x : List ℤ). get_or x 1 (pos 0)) g; room = omega arith }

-- what is known of the least gap so far, before the gap of a turn is compared
abbrev SoFar : List ℤ → ℕ → ℕ → Option Gap → Type 0
SoFar p k floor least = MatchOption least (take k p ≡ []) (λ g. Lowest (take k p) g.at g.missing × (floor < g.missing))

fewer : (p : List ℤ) (k floor x : ℕ) (least : Option Gap) → SoFar p k floor least → MatchOption least (Unit {0}) (λ g. x < g.missing) → at_least (suc x) (take k p) ≡ true
fewer p k floor x None s f = none_fewer (suc x) (take k p) s
fewer p k floor x (Some g) s f = at_least_less (take k p) (omega (arith, f)) s.0.under

at_floor : (floor : ℕ) (p : List ℤ) (k : ℕ) (least : Option Gap) → SoFar p k floor least → MatchOption least (Unit {0}) (λ g. floor < g.missing)
at_floor floor p k None s = tt
at_floor floor p k (Some g) s = s.1

kept
    : (p : List ℤ) (k floor x : ℕ) (least : Option Gap) → Searching p floor k → k + 2 ≤ length p → SoFar p k floor least
    → x ≡ missing_of (end_at p k) (end_at p (k + 1)) → MatchOption least ⊥ (λ g. g.missing ≤ x)
    → SoFar p (k + 2) floor least
kept p k floor x None t h s m j = absurd j
kept p k floor x (Some g) t h s m j = (searching_old t h s.0 (rw m at j), s.1)

pub missing-requires : goal.missing-requires
missing-requires c =
    let f = read c.args.gaps.now c.loop-i.i _ c.requires.0 c.as_chunks.ensures.front c.loop-i-test.true c.as_chunks.ensures.front_len in
    rw (back _ c.e-1.given, back _ c.s-1.given, f.end, f.start) (gap_wide c.loop-i.invariant.0 f.room)

pub returns-then-gap-floor : goal.returns-then-gap-floor
returns-then-gap-floor c =
    let p = c.args.gaps.now in
    let f = read p c.loop-i.i _ c.requires.0 c.as_chunks.ensures.front c.loop-i-test.true c.as_chunks.ensures.front_len in
    let m = rw (back _ c.e-1.given, back _ c.s-1.given, f.end, f.start) at c.missing.ensures in
    let q = sym m ∙ c.if-gap-floor.true in
    let u = fewer p (2 * c.loop-i.i) c.args.floor (missing_of (end_at p (2 * c.loop-i.i)) (end_at p (2 * c.loop-i.i + 1))) c.loop-i.least c.loop-i.invariant.1 (rw q (at_floor c.args.floor p (2 * c.loop-i.i) c.loop-i.least c.loop-i.invariant.1)) in
    rw m (searching_stop c.loop-i.invariant.0 f.room u q)

pub loop-i-preserved : goal.loop-i-preserved
loop-i-preserved c =
    let p = c.args.gaps.now in
    let k = 2 * c.loop-i.i in
    let f = read p c.loop-i.i _ c.requires.0 c.as_chunks.ensures.front c.loop-i-test.true c.as_chunks.ensures.front_len in
    let m = rw (back _ c.e-1.given, back _ c.s-1.given, f.end, f.start) at c.missing.ensures in
    let n : 2 * (c.loop-i.i + 1) ≡ k + 2 = omega arith in
    elim c.if-is_none_or.branch [
      | then-is_none_or w ↦
          let j : MatchOption c.loop-i.least (Unit {0}) (λ g. c.missing.result < g.missing) = search (rules, tests) in
          let a : c.args.floor ≤ c.missing.result = rw m (floor_le c.loop-i.invariant.0 f.room) in
          let b : c.args.floor < c.missing.result = omega (arith, a, c.if-gap-floor.false) in
          let u = fewer p k c.args.floor c.missing.result c.loop-i.least c.loop-i.invariant.1 j in
          rw (w.least-is, n) (searching_next c.loop-i.invariant.0 f.room, (rw m (searching_new c.loop-i.invariant.0 f.room (rw m at u)), b))
      | else-is_none_or w ↦
          let j : MatchOption c.loop-i.least ⊥ (λ g. g.missing ≤ c.missing.result) = search (rules, tests) in
          rw (w.least-is, n) (searching_next c.loop-i.invariant.0 f.room, kept p k c.args.floor c.missing.result c.loop-i.least c.loop-i.invariant.0 f.room c.loop-i.invariant.1 m j)
    ]
