-- The run is the plain run (meaning/specs/PlainRun.antt): a run that is stopped stays so, the line that stopped it met its trouble on the state that the lines before it had left, and the state after
-- the last line is what the call returns and leaves. Assumes nothing.
use lib.Dec.{leb, ltb}
use lib.IntN.{ℤ, pos}
use lib.ListN.{length, get_or, take}
use lib.Seq.{take-length}
use borrow.Author.Tests.{leb-true, leb-false}
use mathlib.Core.Path.{◌≡◌, refl, sym, ap, ◌∙◌}
use mathlib.Core.Bool.{Bool, true, false, cond}
use mathlib.Core.List.{List, []}
use Prim.Native.Nat.{ℕ, zero, suc, ◌≤◌}
use native.Mathlib.Omega.{arith}
use Rattle.meaning.specs.Refusals.{too_short, outside_in}
use Rattle.meaning.specs.Lists.{over}
use Rattle.meaning.specs.Outcome.{Res, ok, stop, Outcome, done, stopped, onward, work, next_line}
use Rattle.meaning.specs.Sheet.{registers, hold, Line, act}
use Rattle.meaning.specs.Text.{split_lines, sheet, read_lines, read}
use Rattle.meaning.specs.Run.{run_line, start_numbers, run, state_after, refused, worked, judge, left_by, run_text, run_call, run_lent}
use Rattle.meaning.specs.CheckSets.{state_of}
use Rattle.meaning.specs.PlainRun.{StopsAt, PlainRun}
use Rattle.laws.proofs.Integers.{by_test}
use Rattle.laws.proofs.Lists.{get_d_there}
use Rattle.laws.proofs.Work.{not_stopped, not_worked, judge_worked}
use Rattle.laws.proofs.Over.{over_front}
use Rattle.laws.proofs.Start.{outside_as_lent}
use Rattle.laws.proofs.Demand3.{state_after_lem}
use Rattle.laws.proofs.Demand3Calls.{run_call_lem, run_sized}

-- what stands for a line past the last one in `state_after`
abbrev past_last : Line
past_last = act (hold 0 (pos 0) (pos 0))

module _ (lent : List ℤ) (ls : List Line) where
  stays : (n m : ℕ) {k l : ℕ} {s : List ℤ} → n ≤ m → state_after lent ls n ≡ stopped k l s → state_after lent ls m ≡ stopped k l s
  unfolding state_after next_line
  stays n zero h e = let z : n ≡ 0 = omega arith in ap (state_after lent ls) (sym z) ∙ e
  stays n (suc m) h e =
      by_test (leb n m)
      (λ t. ap (λ o. next_line (run_line lent) (suc m) o (get_or ls m past_last)) (stays n m (leb-true n m t) e))
      (λ t. let z : n ≡ suc m = omega (arith, leb-false n m t) in ap (state_after lent ls) (sym z) ∙ e)

  stops : (k l : ℕ) (s : List ℤ) → StopsAt lent ls k l s → state_after lent ls (length ls) ≡ stopped k l s
  unfolding state_after next_line
  stops k l s h =
      let n = h.before in
      stays (suc n) (length ls) h.there
      (ap (λ o. next_line (run_line lent) (suc n) o (get_or ls n past_last)) h.reached ∙ ap (λ r. onward (suc n) s r done) (h.trouble past_last))
      ∙ ap (λ (m : ℕ). stopped k m s) (sym h.line_is)

  -- line n + 1 stopped the run, or a line before it did
  stops_by : (n k l : ℕ) (s : List ℤ) → n ≤ length ls → state_after lent ls n ≡ stopped k l s → StopsAt lent ls k l s
  unfolding state_after next_line
  stops_by zero k l s h e = not_stopped (sym e)
  stops_by (suc n) k l s h e = go (state_after lent ls n) refl e (λ f. stops_by n k l s (omega arith) f)
    where
      at : (a : List ℤ) (r : Res (List ℤ)) → state_after lent ls n ≡ done a → run_line lent a (get_or ls n past_last) ≡ r → onward (suc n) a r done ≡ stopped k l s → StopsAt lent ls k l s
      at a (ok b) p q f = not_stopped (sym f)
      at a (stop j) p q f =
          let same : a ≡ s = cc in
          let number : j ≡ k = cc in
          record {
            before = n;
            line_is = cc;
            there = omega arith;
            reached = p ∙ ap done same;
            trouble = λ d. ap (λ x. run_line lent x (get_or ls n d)) (sym same) ∙ ap (run_line lent a) (get_d_there ls n d past_last (omega arith)) ∙ q ∙ ap stop number;
          }

      go : (o : Outcome (List ℤ)) → state_after lent ls n ≡ o → next_line (run_line lent) (suc n) o (get_or ls n past_last) ≡ stopped k l s
          → (state_after lent ls n ≡ stopped k l s → StopsAt lent ls k l s) → StopsAt lent ls k l s
      go (done a) p f earlier = at a (run_line lent a (get_or ls n past_last)) p refl f
      go (stopped j i a) p f earlier = earlier (p ∙ f)

-- ---- the call

left_state : (lent : List ℤ) (n : ℕ) (o : Outcome (List ℤ)) → left_by lent (worked n o) ≡ over (state_of o) lent
left_state lent n (done s) = refl
left_state lent n (stopped k l s) = refl

module _ (t : List ℕ) (ls : List Line) (lent : List ℤ) (r : read t ≡ sheet ls) (h : registers ≤ length lent) where
  returns : run_call t lent ≡ worked (length ls) (state_after lent ls (length ls))
  unfolding run_text
  returns =
      let last : run lent ls ≡ state_after lent ls (length ls) = ap (run lent) (sym (take-length ls)) ∙ sym (state_after_lem lent ls (length ls) (omega arith)) in
      run_call_lem t lent h ∙ ap (judge (run lent)) r ∙ ap (worked (length ls)) last

  leaves : run_lent t lent ≡ over (state_of (state_after lent ls (length ls))) lent
  unfolding run_lent
  leaves = ap (left_by lent) returns ∙ left_state lent (length ls) (state_after lent ls (length ls))

-- ---- numbers that stay as lent

start_over : (lent : List ℤ) → over (start_numbers lent) lent ≡ lent
unfolding start_numbers
start_over lent = over_front registers lent

outside_leaves : (t : List ℕ) (lent : List ℤ) (n l : ℕ) (s : List ℤ) → run_call t lent ≡ worked n (stopped outside_in l s) → run_lent t lent ≡ lent
unfolding run_call run_lent run_text
outside_leaves t lent n l s e = ap (left_by lent) e ∙ ap (λ (x : List ℤ). over x lent) (go (ltb (length lent) registers) e) ∙ start_over lent
  where
    go : (short : Bool) → cond short (refused too_short 0) (run_text lent t) ≡ worked n (stopped outside_in l s) → s ≡ start_numbers lent
    go true q = not_worked q
    go false q = let w = judge_worked (run lent) (read t) q in outside_as_lent lent t w.lines l s w.reads w.gives

empty_leaves : (lent : List ℤ) → run_lent [] lent ≡ lent
unfolding run_call run_lent run_text run work read split_lines read_lines
empty_leaves lent = go (ltb (length lent) registers)
  where
    go : (short : Bool) → left_by lent (cond short (refused too_short 0) (run_text lent [])) ≡ lent
    go true = refl
    go false = start_over lent

pub plain_run : PlainRun
plain_run = record {
  runs = λ lent ls n h. sym (state_after_lem lent ls n h);
  sized = λ lent ls n h k. ap (λ o. length (state_of o)) (state_after_lem lent ls n h) ∙ run_sized lent (take n ls) k;
  stops = stops;
  stops_only = λ lent ls k l s e. stops_by lent ls (length ls) k l s (omega arith) e;
  returns = returns;
  leaves = leaves;
  outside_leaves = outside_leaves;
  empty_leaves = empty_leaves;
}
