-- Demand 3 for the calls: the contracts say what the calls answer and leave, and `demand3_calls` of `laws` says that of it which is asked. Assumes nothing.
use borrow.Author.Tests.{le-ltb}
use lib.IntN.{ℤ, pos}
use lib.ListN.{get_or, length, take}
use mathlib.Core.Path.{◌≡◌, sym, ap, subst, ◌∙◌}
use mathlib.Core.List.{List}
use Prim.Native.Nat.{ℕ, ◌≤◌}
use Rattle.meaning.specs.NumberIntervals.{◌∈◌}
use Rattle.meaning.specs.Sheet.{registers, Line}
use Rattle.meaning.specs.Outcome.{done}
use Rattle.meaning.specs.Text.{read, cut}
use Rattle.meaning.specs.Run.{run, worked, judge, run_text, run_call}
use Rattle.meaning.specs.Check.{Bands, interval_limit, check, check_text, check_call, set_in, text_by}
use Rattle.meaning.specs.Demand3.{SafeAt, Numbers}
use Rattle.meaning.specs.Demand3Calls.{CallsSafeAt}
use Rattle.laws.proofs.Work.{judge_worked}
use Rattle.laws.proofs.Demand3.{demand3 as safety}
use Rattle.laws.proofs.Demand3Calls.{demand3_calls}
use Rattle.run.specs.Answer.{answer_for as run_answer_for, Ran}
use Rattle.refusals.specs.declared.Trouble.{Trouble}
use Rattle.refusals.proofs.Rows.{ending_one_answer}
use Rattle.std.specs.Prelude.{Result, Ok}
use Rattle.sheet_check.specs.Answer.{answer_for}
use Rattle.sheet_check.specs.Demand3.{SafeAfter, Demand3}
use Rattle.sheet_check.proofs.Walking.{pass_done, long_call}

-- a slice that is long enough
run_long : (t : List ℕ) (lent : List ℤ) → registers ≤ length lent → run_call t lent ≡ run_text lent t
unfolding run_call
run_long t lent h = rw (le-ltb (length lent) registers h)

after : (lent : List ℤ) (t : List ℕ) (ls xs : List Line) (m : ℕ) → registers ≤ length lent → CallsSafeAt lent t ls m → SafeAt interval_limit lent t xs m → SafeAfter lent t ls m
after lent t ls xs m k a s = record {
  state = a.state;
  sized = a.sized;
  reaches = a.reaches;
  passes = λ sets work r sets' work' h c. ending_one_answer r (Ok m) (c.answer_is ∙ ap answer_for (long_call (cut t m) sets work h.sets_long h.work_long ∙ s.passes));
  members = λ sets work r sets' work' h c q b. subst (λ (l : List ℤ). get_or a.state q (pos 0) ∈ set_in l q) (sym c.sets_left) (a.members sets work h q b);
  runs = λ v lent' c. ending_one_answer v (Ok m) (c.answer_is ∙ ap run_answer_for (run_long (cut t m) lent k ∙ s.runs));
  leaves = λ v lent' c. ap (take registers) c.lent_left ∙ a.leaves;
}

-- what the check passes is a sheet, so that the run works its lines, on numbers of i64
lent_numbers : (limit : ℕ) (t : List ℕ) (lent : List ℤ) {n : ℕ} {B : Bands} {r : Result ℕ Trouble} {lent' : List ℤ}
    → registers ≤ length lent → check_text limit t ≡ worked n (done B) → Ran t lent r lent' → Numbers lent
unfolding text_by run_text
lent_numbers limit t lent k e d =
    let w = judge_worked (check limit) (read t) e in
    record { enough = k; ranged = d.ranged _ _ (run_long t lent k ∙ ap (judge (run lent)) w.reads) }

pub demand3 : Demand3
demand3 t sets work sets' work' lent lent' n r h k c d i =
    let p = pass_done (check_call t sets work) c.answer_is in
    let e = sym (long_call t sets work h.sets_long h.work_long) ∙ p.1 in
    let l = lent_numbers interval_limit t lent k e d in
    let s = safety interval_limit t n p.0 lent e l i in
    let q = demand3_calls t sets work lent n h l (sym c.verdict_is) i in
    record {
      lines = q.lines;
      reads = q.reads;
      count = q.count;
      each = λ m b. after lent t q.lines s.lines m k (q.each m b) (s.each m b);
      whole = q.whole;
      state = q.state;
      last = q.last;
      ends = λ v _ a. ending_one_answer v (Ok n) (a.answer_is ∙ ap run_answer_for (run_long t lent k ∙ s.ends));
      leaves = λ v _ a. ap (take registers) a.lent_left ∙ q.leaves;
      members = λ j b. subst (λ (x : List ℤ). get_or q.state j (pos 0) ∈ set_in x j) (sym c.sets_left) (q.members j b);
    }
