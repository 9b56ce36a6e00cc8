-- Where a call for the page returns 0 the check has passed and the page was written, so what stands at the front of the output is the page; and the count of an interval is exact. Assumes nothing.
use lib.Dec.{eqb, ltb}
use lib.IntN.{ℤ, pos, ◌-ℤ◌}
use lib.ListN.{length, get_or, take, replicate, length-replicate}
use mathlib.Core.Path.{◌≡◌, sym, ap, subst, ◌∙◌}
use mathlib.Core.Bool.{Bool, true, false, cond}
use mathlib.Core.List.{List, []}
use Prim.Native.Nat.{ℕ, ◌<◌}
use native.Mathlib.Omega.{arith}
use borrow.Author.Tests.{eqb-true, eqb-false}
use Rattle.meaning.specs.Refusals.{no_room}
use Rattle.meaning.specs.Lists.{over}
use Rattle.meaning.specs.Outcome.{done}
use Rattle.meaning.specs.Text.{read}
use Rattle.meaning.specs.Run.{Verdict, verdict, Judged, worked}
use Rattle.meaning.specs.Check.{Bands, check, check_text, set_in, sets_need, work_need, interval_limit, sets_left_by, check_sets, text_by}
use Rattle.meaning.specs.Demand3Calls.{Enough}
use Rattle.meaning.specs.Sheet.{registers}
use Rattle.laws.proofs.Integers.{up, zarith, by_test, add_parts, sub_parts, one_part}
use Rattle.laws.proofs.Members.{between}
use Rattle.laws.proofs.Over.{take_over}
use Rattle.laws.proofs.Work.{judge_worked}
use Rattle.laws.proofs.Slots.{sets_shown}
use Rattle.laws.proofs.Troubles.{verdicts}
use Rattle.laws.proofs.Demand3Calls.{check_call_lem}
use Rattle.meaning.specs.Composing.{Composed, text, text_returns, text_leaves}
use Rattle.laws.proofs.Composing.{passed_is, as_check}
use Rattle.meaning.specs.Page.{page_text, page}
use Rattle.meaning.specs.PageReadBack.{ReadsBack, CallsReadBack, MembersCounted}
use Rattle.laws.proofs.PageReadBack.{page_reads_back}

-- ---- a text that was written stands at the front

front : (x out : List ℕ) → (text_returns (text x) out).number ≡ 0 → take (text_returns (text x) out).count (text_leaves (text x) out) ≡ x
unfolding text_returns text_leaves
front x out e = go (ltb (length out) (length x)) e
  where
    go : (b : Bool) → (cond {A = Verdict} b (record { number = no_room; line = 0; count = 0 }) (record { number = 0; line = 0; count = length x })).number ≡ 0
        → take (cond {A = Verdict} b (record { number = no_room; line = 0; count = 0 }) (record { number = 0; line = 0; count = length x })).count (cond b out (over x out)) ≡ x
    go true e = absurd (omega arith)
    go false e = take_over x out

-- ---- the check has passed

passes_then : (t out : List ℕ) → (text_returns (page t) out).number ≡ 0 → (n : ℕ) × (B : Bands) × (check_text interval_limit t ≡ worked n (done B))
unfolding page
passes_then t out e =
    by_test (eqb (verdict (check_text interval_limit t)).number 0)
    (λ b. go (eqb-true (verdict (check_text interval_limit t)).number 0 b))
    (λ b. let h = eqb-false (verdict (check_text interval_limit t)).number 0 b in
    absurd (h (sym (ap (λ (v : Verdict). v.number) (as_check (λ ls S. text (page_text ls S)) t out h).0) ∙ e)))
  where
    go : (verdict (check_text interval_limit t)).number ≡ 0 → (n : ℕ) × (B : Bands) × (check_text interval_limit t ≡ worked n (done B))
    go z =
        let sets = replicate sets_need (pos 0) in
        let work = replicate work_need (pos 0) in
        let c = check_call_lem t sets work (record { sets_long = omega (arith, length-replicate sets_need (pos 0)); work_long = omega (arith, length-replicate work_need (pos 0)) }) in
        let p = verdicts.zero_passes t sets work (ap (λ x. (verdict x).number) c ∙ z) in
        (p.0, p.1, sym c ∙ p.2)

-- the check leaves these sets in the numbers that it is lent
shown_by : (t : List ℕ) (sets work : List ℤ) {n : ℕ} {B : Bands} → check_text interval_limit t ≡ worked n (done B) → Enough sets work → (r : ℕ) → r < registers → set_in (check_sets t sets work) r ≡ get_or B.sets r []
unfolding check_sets
shown_by t sets work {n} {B} e h r k = ap (λ (j : Judged Bands). set_in (sets_left_by sets j) r) (check_call_lem t sets work h ∙ e) ∙ sets_shown t n B e sets r k

pub calls_read_back : CallsReadBack
unfolding page text_by
calls_read_back t out e =
    let p = passes_then t out e in
    let B = p.1 in
    let w = judge_worked (check interval_limit) (read t) p.2 in
    let q = passed_is (λ ls S. text (page_text ls S)) t w.lines p.0 B w.reads p.2 in
    let x = page_text w.lines B.sets in
    let f : take (text_returns (page t) out).count (text_leaves (page t) out) ≡ x =
    ap (λ (c : Composed). take (text_returns c out).count (text_leaves c out)) q ∙ front x out (ap (λ (c : Composed). (text_returns c out).number) (sym q) ∙ e) in
    record {
      lines_are = w.lines;
      bands = B;
      reads = w.reads;
      passes = p.2 ∙ ap (λ (k : ℕ). worked k (done B)) (sym w.count);
      agrees = λ sets work h r k l.
          let b = subst (ReadsBack w.lines B.sets) (sym f) (page_reads_back t w.lines p.0 B w.reads p.2) in
          b.sets r k l ∙ sym (shown_by t sets work p.2 h r k);
      bytes_read_back = subst (ReadsBack w.lines B.sets) (sym f) (page_reads_back t w.lines p.0 B w.reads p.2);
    }

-- ---- the count

pub members_counted : MembersCounted
members_counted lo hi = record {
  inside = λ k h. between (omega (zarith, add_parts lo (pos k))) (omega (zarith, add_parts lo (pos k), sub_parts hi lo, add_parts (hi -ℤ lo) (pos 1)));
  each = λ z b. (up (z -ℤ lo), omega (zarith, b.above, b.below, sub_parts z lo, one_part (z -ℤ lo), sub_parts hi lo, add_parts (hi -ℤ lo) (pos 1)), omega (zarith, b.above, sub_parts z lo, one_part (z -ℤ lo), add_parts lo (pos (up (z -ℤ lo)))));
  once = λ j k e. omega (zarith, e, add_parts lo (pos j), add_parts lo (pos k));
}
