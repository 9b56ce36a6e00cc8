-- The lines of a run in order, and the call. Assumes nothing.
use mathlib.Core.Path.{◌≡◌, refl, sym, ap, ◌∙◌}
use mathlib.Core.List.{List, [], ◌∷◌, ◌++◌, append-nil}
use Prim.Native.Nat.{ℕ, suc, ◌+◌, ◌≤◌, ◌<◌}
use native.Mathlib.Omega.{arith}
use native.Mathlib.Numerals.{add-one}
use lib.IntN.{ℤ, pos}
use lib.ListN.{length, get_or, take, drop, drop_of_length-le}
use lib.Seq.{get_or-take, length-take-le}
use borrow.Author.Tests.{lt-ltb, le-ltb}
use Rattle.std.specs.Prelude.{Result, Ok, Err}
use Rattle.meaning.specs.Lists.{over, All}
use Rattle.meaning.specs.Outcome.{Res, Outcome, stop, bind, onward, done, stopped, work}
use Rattle.meaning.specs.Number.{InRange}
use Rattle.meaning.specs.Sheet.{registers, Line, input, act, FineLine}
use Rattle.meaning.specs.Text.{lines}
use Rattle.meaning.specs.Run.{run_line, start_numbers, run, Judged, refused, worked, judge, run_text, verdict, run_call, left_by, run_lent}
use Rattle.laws.proofs.Work.{not_worked}
use Rattle.laws.proofs.Fine.{read_line_fine}
use Rattle.refusals.specs.declared.Cause.{Cause}
use Rattle.refusals.specs.declared.Cause.TheVariants.{TooShort}
use Rattle.refusals.specs.declared.Trouble.{Trouble}
use Rattle.refusals.specs.declared.Trouble.TheVariants.{Refused, Stopped}
use Rattle.refusals.specs.Numbers.{number_of}
use Rattle.refusals.specs.Endings.{ending_of, verdict_of}
use Rattle.sheet.specs.Answer.{Judges}
use Rattle.sheet.specs.Judging.{IsSheet}
use Rattle.sheet.proofs.Judging.{fine_sheet, refused_read}
use Rattle.sheet.proofs.Walk.{Each, Next, each_sheet, each_next, each_done}
use Rattle.run_lines.specs.Answer.{line_run, step_of, state_left, Stepped}
use Rattle.run.specs.Answer.{answer_for, last_state, counted, Worked, Ran}

-- the lent numbers of the registers are all that a line of a sheet asks of them
given_is : (lent state : List ℤ) (l : Line) → FineLine l → run_line (take registers lent) state l ≡ run_line lent state l
unfolding run_line FineLine
given_is lent state (input r lo hi) h = let e : get_or (take registers lent) r (pos 0) ≡ get_or lent r (pos 0) = get_or-take registers lent r (pos 0) h.there in rw e
given_is lent state (act a) h = refl

works_given : (lent state : List ℤ) (n : ℕ) (bs : List (List ℕ)) (ls : List Line) → Each bs ls → work (run_line (take registers lent)) n state ls ≡ work (run_line lent) n state ls
unfolding work
works_given lent state n [] [] h = refl
works_given lent state n [] (l ∷ ls) h = absurd h
works_given lent state n (b ∷ bs) [] h = absurd h
works_given lent state n (b ∷ bs) (l ∷ ls) h =
    (λ i. onward n state (given_is lent state l (read_line_fine b h.0) i) (λ s. work (run_line (take registers lent)) (suc n) s ls))
    ∙ ap (λ (f : List ℤ → Outcome (List ℤ)). onward n state (run_line lent state l) f) (λ i s. works_given lent s (suc n) bs ls h.1 i)

-- with `count` lines done: what is left to work on the state comes to what the whole does
pub record Running (lent first state : List ℤ) (ls : List Line) (count : ℕ) (rest : List (List ℕ)) : Type 0 where
  pub left : List Line
  pub each : Each rest left
  pub same : work (run_line lent) 1 first ls ≡ work (run_line lent) (count + 1) state left

pub running_start : (t : List ℕ) (lent first : List ℤ) {n : ℕ} (h : IsSheet t n) → Running lent first first h.lines 0 (lines t)
running_start t lent first h = record { left = h.lines; each = each_sheet t h.reads; same = refl }

module _ (lent first state : List ℤ) (ls : List Line) (count : ℕ) where
  pub running_done : {n : ℕ} → Running lent first state ls count [] → Worked n (Ok n) state (work (run_line lent) 1 first ls)
  unfolding work
  running_done {n} g = rw (g.same, each_done g.left g.each) (record { ends = refl; leaves = refl })

  module _ (b : List ℕ) (bs : List (List ℕ)) (g : Running lent first state ls count (b ∷ bs)) where
    next_is : Next b bs g.left
    next_is = each_next b bs g.left g.each

    line_does : {o : Res (List ℤ)} → o ≡ line_run lent state b → run_line lent state next_is.line ≡ o
    unfolding line_run bind
    line_does e = sym (e ∙ ap (λ (r : Res Line). bind r (run_line lent state)) next_is.reads_it)

    works_as : {o : Res (List ℤ)} → o ≡ line_run lent state b
        → work (run_line lent) 1 first ls ≡ onward (count + 1) state o (λ s. work (run_line lent) (suc (count + 1)) s next_is.left)
    unfolding work
    works_as e =
        g.same ∙ ap (work (run_line lent) (count + 1) state) next_is.lines_are
        ∙ ap (λ (o : Res (List ℤ)). onward (count + 1) state o (λ s. work (run_line lent) (suc (count + 1)) s next_is.left)) (line_does e)

    pub running_next : {after : List ℤ} → Stepped (Ok tt) after state (line_run lent state b) → Running lent first after ls (count + 1) bs
    running_next {after} s = record {
      left = next_is.left;
      each = next_is.each;
      same = works_as s.step ∙ ap (λ (k : ℕ). work (run_line lent) k after next_is.left) (sym (add-one (count + 1)));
    }

    pub running_stop : {n : ℕ} {r : Result (Unit {0}) Cause} {x : Result (Unit {0}) Trouble} {after : List ℤ} → (k : Cause) × (r ≡ Err k) × (x ≡ Err (Stopped k (count + 1)))
        → Stepped r after state (line_run lent state b) → Worked n (counted n x) after (work (run_line lent) 1 first ls)
    running_stop {n} {r} {x} {after} e s =
        let p : stop (number_of e.0) ≡ line_run lent state b = sym (ap (λ (y : Result (Unit {0}) Cause). step_of y after) e.1) ∙ s.step in
        let l : after ≡ state = s.left ∙ sym (ap (state_left state) p) in
        rw (works_as p, e.2) (record { ends = refl; leaves = l })

-- the state in place of the numbers at the front of the slice
pub written_is : (state lent : List ℤ) {x : List ℤ} → length state ≡ registers → x ≡ state → x ++ drop registers lent ≡ over state lent
unfolding over
written_is state lent h e = λ i. e i ++ drop (sym h i) lent

-- the copy of the lent numbers
pub copied_is : (lent old : List ℤ) → length old ≡ registers → registers ≤ length lent → over (take registers lent) old ≡ start_numbers lent
unfolding over start_numbers
copied_is lent old h k =
    ap (λ (x : List ℤ). take registers lent ++ x) (drop_of_length-le old {i = length (take registers lent)} (omega (arith, length-take-le registers lent k)))
    ∙ append-nil (take registers lent)

pub start_is : (lent : List ℤ) → start_numbers lent ≡ take registers lent
unfolding start_numbers
start_is lent = refl

-- ---- the call

-- the answer says the verdict
answer_verdict : (r : Result ℕ Trouble) (x : Judged (List ℤ)) → ending_of r ≡ answer_for x → verdict_of r ≡ verdict x
answer_verdict r x e = grind arith

module _ (t : List ℕ) (lent : List ℤ) where
  ran_is : {r : Result ℕ Trouble} {lent' : List ℤ} (x : Judged (List ℤ)) → run_call t lent ≡ x → ending_of r ≡ answer_for x → lent' ≡ left_by lent x
      → ((n : ℕ) (o : Outcome (List ℤ)) → x ≡ worked n o → All InRange (start_numbers lent)) → Ran t lent r lent'
  unfolding run_lent
  ran_is {r} x e a l g = record {
    verdict_is = answer_verdict r x a ∙ ap verdict (sym e);
    answer_is = a ∙ ap answer_for (sym e);
    lent_left = l ∙ ap (left_by lent) (sym e);
    ranged = λ n o q. g n o (sym e ∙ q);
  }

  pub ran_short : length lent < registers → {r : Result ℕ Trouble} → r ≡ Err (Refused TooShort 0) → Ran t lent r lent
  unfolding run_call
  ran_short h e = ran_is (refused 3 0) (rw (lt-ltb (length lent) registers h)) (ap ending_of e) refl (λ n o q. not_worked q)

  pub call_text : registers ≤ length lent → run_call t lent ≡ run_text lent t
  unfolding run_call
  call_text h = rw (le-ltb (length lent) registers h)

  left_is : (n : ℕ) (o : Outcome (List ℤ)) → over (last_state o) lent ≡ left_by lent (worked n o)
  left_is n (done s) = refl
  left_is n (stopped k l s) = refl

  module _ (h : registers ≤ length lent) where
    pub ran_refused : {trouble : Trouble} → Judges t (Err trouble) → {r : Result ℕ Trouble} → r ≡ Err trouble → Ran t lent r lent
    unfolding run_text
    ran_refused {trouble} j d =
        let p = refused_read t {r = Err trouble} j.answer_is refl in
        ran_is (refused (number_of p.0) p.1) (call_text h ∙ ap (judge (run lent)) p.3) (ap ending_of (d ∙ ap Err p.2)) refl (λ n o q. not_worked q)

    pub ran_worked : {n : ℕ} → Judges t (Ok n) → {r : Result ℕ Trouble} (ended : Result (Unit {0}) Trouble) → r ≡ counted n ended → {numbers state lent' : List ℤ} → numbers ≡ start_numbers lent → All InRange (start_numbers lent)
        → ((n : ℕ) (s : IsSheet t n) → Worked n (counted n ended) state (work (run_line numbers) 1 numbers s.lines)) → lent' ≡ over state lent → Ran t lent r lent'
    unfolding run_text run start_numbers
    ran_worked {n} j {r} ended d {numbers} {state} {lent'} en g w l =
        let s = fine_sheet t {r = Ok n} j.answer_is refl in
        let o = w n s in
        let same : work (run_line numbers) 1 numbers s.lines ≡ run lent s.lines =
        (λ i. work (run_line (en i)) 1 (en i) s.lines) ∙ works_given lent (start_numbers lent) 1 (lines t) s.lines (each_sheet t s.reads) in
        ran_is (worked n (run lent s.lines)) (call_text h ∙ ap (judge (run lent)) s.reads ∙ ap (λ (k : ℕ). worked k (run lent s.lines)) s.count)
        (ap ending_of d ∙ o.ends ∙ ap (λ (x : Outcome (List ℤ)). answer_for (worked n x)) same)
        (l ∙ ap (λ (x : List ℤ). over x lent) (o.leaves ∙ ap last_state same) ∙ left_is n (run lent s.lines))
        (λ _ _ _. g)
