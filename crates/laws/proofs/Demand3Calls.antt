-- Demand 3 for the calls (meaning/specs/Demand3Calls.antt): with slices that are long enough the calls are the check and the run of the text, a trouble is never on line 0, the slots show the sets,
-- and the run's state fills the numbers of the registers. Assumes nothing.
use lib.IntN.{ℤ, pos}
use lib.ListN.{get_or, set, length, take, length-set}
use lib.Seq.{length-take-le}
use mathlib.Core.Path.{◌≡◌, refl, sym, ap, ◌∙◌, subst}
use mathlib.Core.Bool.{Bool, true, false, cond}
use mathlib.Core.List.{List, [], ◌∷◌}
use Prim.Native.Nat.{ℕ, suc, ◌≤◌, ◌<◌}
use native.Mathlib.Omega.{arith}
use borrow.Author.Tests.{le-ltb}
use Rattle.meaning.specs.Refusals.{misshapen, outside_in, hold_broken}
use Rattle.meaning.specs.Lists.{over, All}
use Rattle.meaning.specs.Outcome.{Res, ok, stop, Outcome, done, stopped, onward, work}
use Rattle.meaning.specs.Number.{within}
use Rattle.meaning.specs.Interval.{Interval}
use Rattle.meaning.specs.NumberIntervals.{◌∈◌}
use Rattle.meaning.specs.Sheet.{registers, Act, put, hold, Line, input, act}
use Rattle.meaning.specs.Text.{Seen, Read, sheet, no_sheet, prepend, Taken, then_read, read_one, read_lines, read, cut, shaped, split_lines, lines, nothing_seen}
use Rattle.meaning.specs.Run.{value_of, run_act, run_line, start_numbers, run, worked, judge, run_text, Verdict, verdict, run_call, left_by, run_lent}
use Rattle.meaning.specs.Check.{Bands, check, check_text, layout, set_in, sets_need, work_need, interval_limit, check_call, sets_left_by, check_sets, text_by, check_by, call_by}
use Rattle.meaning.specs.CheckSets.{state_of}
use Rattle.meaning.specs.Demand3.{SafeAt}
use Rattle.meaning.specs.Demand3Calls.{fulfilled, Enough, CallsSafeAt, CallsSafety}
use Rattle.laws.proofs.Work.{ok_same, bind_ok, guard_ok, work_keeps, judge_worked}
use Rattle.laws.proofs.Over.{take_over}
use Rattle.laws.proofs.Slots.{sets_shown}
use Rattle.laws.proofs.Demand3.{demand3}

-- ---- a trouble is never on line 0

module _ {A L : Type 0} (f : A → L → Res A) where
  pub stopped_line : (n : ℕ) (a : A) (ls : List L) {k l : ℕ} {b : A} → work f n a ls ≡ stopped k l b → n ≤ l
  unfolding work
  stopped_line n a [] e = absurd (let z : ◌≡◌ {A = ℕ} 0 1 = cc in let x : ⊥ = omega arith in x)
  stopped_line n a (x ∷ ls) {k} {l} {b} e = go (f a x) e (λ c q. stopped_line (suc n) c ls q)
    where
      go : (r : Res A) → onward n a r (λ c. work f (suc n) c ls) ≡ stopped k l b → ((c : A) → work f (suc n) c ls ≡ stopped k l b → suc n ≤ l) → n ≤ l
      go (ok c) q ih = omega (arith, ih c q)
      go (stop j) q ih = let z : n ≡ l = cc in omega arith

refused_line : (n : ℕ) (s : Seen) (bs : List (List ℕ)) {k l : ℕ} → read_lines n s bs ≡ no_sheet k l → n ≤ l
unfolding read_lines
refused_line n s [] e = absurd (let z : ◌≡◌ {A = ℕ} 0 1 = cc in let x : ⊥ = omega arith in x)
refused_line n s (b ∷ bs) {k} {l} e = go (read_one s b) e (λ s' q. refused_line (suc n) s' bs q)
  where
    rest : (x : Line) (r : Read) → prepend x r ≡ no_sheet k l → r ≡ no_sheet k l
    rest x (sheet ls) q = absurd (let z : ◌≡◌ {A = ℕ} 0 1 = cc in let v : ⊥ = omega arith in v)
    rest x (no_sheet i j) q = q

    go : (r : Res Taken) → then_read n r (λ s'. read_lines (suc n) s' bs) ≡ no_sheet k l → ((s' : Seen) → read_lines (suc n) s' bs ≡ no_sheet k l → suc n ≤ l) → n ≤ l
    go (ok t) q ih = omega (arith, ih t.seen (rest t.line (read_lines (suc n) t.seen bs) q))
    go (stop j) q ih = let z : n ≡ l = cc in omega arith

unread : (t : List ℕ) {k l : ℕ} → read t ≡ no_sheet k l → k ≡ 0 → l ≡ 0 → ⊥
unfolding read
unread t {k} {l} e p q = go (shaped (split_lines t)) e
  where
    go : (b : Bool) → cond b (read_lines 1 nothing_seen (lines t)) (no_sheet misshapen 0) ≡ no_sheet k l → ⊥
    go true e = omega (arith, refused_line 1 nothing_seen (lines t) e)
    go false e = let z : misshapen ≡ k = cc in omega arith

-- so a verdict of success is a pass
fulfilled_done : {n : ℕ} (limit : ℕ) (t : List ℕ) → verdict (check_text limit t) ≡ fulfilled n → (B : Bands) × (check_text limit t ≡ worked n (done B))
unfolding text_by check_by
fulfilled_done {n} limit t e = go (read t) refl e
  where
    go : (r : Read) → read t ≡ r → verdict (judge (check limit) r) ≡ fulfilled n → (B : Bands) × (judge (check limit) r ≡ worked n (done B))
    go (sheet ls) p e = inner (check limit ls) refl e
      where
        inner : (o : Outcome Bands) → check limit ls ≡ o → verdict (worked (length ls) o) ≡ fulfilled n → (B : Bands) × (worked (length ls) o ≡ worked n (done B))
        inner (done B) q e = (B, ap (λ (v : Verdict). worked v.count (done B)) e)
        inner (stopped k l B) q e = absurd (let z : l ≡ 0 = ap (λ (v : Verdict). v.line) e in omega (arith, stopped_line _ 1 _ ls q))
    go (no_sheet k l) p e = absurd (unread t p (ap (λ (v : Verdict). v.number) e) (ap (λ (v : Verdict). v.line) e))

-- ---- what the calls are where the slices are long enough

-- tests of the lengths
module _ (t : List ℕ) (sets work : List ℤ) (h : Enough sets work) where
  pub check_call_lem : check_call t sets work ≡ check_text interval_limit t
  unfolding call_by
  check_call_lem = rw (le-ltb (length sets) sets_need h.sets_long, le-ltb (length work) work_need h.work_long)

  check_verdict : {n : ℕ} {B : Bands} → check_text interval_limit t ≡ worked n (done B) → verdict (check_call t sets work) ≡ fulfilled n
  check_verdict e = ap verdict (check_call_lem ∙ e)

  pub check_left : {n : ℕ} {B : Bands} → check_text interval_limit t ≡ worked n (done B) → check_sets t sets work ≡ over (layout B.sets) sets
  unfolding check_sets
  check_left e = ap (sets_left_by sets) (check_call_lem ∙ e)

module _ (t : List ℕ) (lent : List ℤ) (h : registers ≤ length lent) where
  pub run_call_lem : run_call t lent ≡ run_text lent t
  unfolding run_call
  run_call_lem = rw (le-ltb (length lent) registers h)

  run_verdict : {n : ℕ} {s : List ℤ} → run_text lent t ≡ worked n (done s) → verdict (run_call t lent) ≡ fulfilled n
  run_verdict e = ap verdict (run_call_lem ∙ e)

  run_left : {n : ℕ} {s : List ℤ} → run_text lent t ≡ worked n (done s) → run_lent t lent ≡ over s lent
  unfolding run_lent
  run_left e = ap (left_by lent) (run_call_lem ∙ e)

-- ---- a state has one number a register

abbrev Sized : List ℤ → Type 0
Sized s = length s ≡ registers

act_sized : (s : List ℤ) (a : Act) (s' : List ℤ) → Sized s → run_act s a ≡ ok s' → Sized s'
unfolding run_act
act_sized s (put r e) s' h p =
    let b = bind_ok (value_of s e) _ p in
    subst Sized (ok_same b.2) (length-set s r b.0 ∙ h)
act_sized s (hold r lo hi) s' h p = subst Sized (ok_same (guard_ok (within lo (get_or s r (pos 0)) hi) hold_broken (ok s) p).1) h

line_sized : (lent s : List ℤ) (l : Line) (s' : List ℤ) → Sized s → run_line lent s l ≡ ok s' → Sized s'
unfolding run_line
line_sized lent s (input r lo hi) s' h p =
    let z = get_or lent r (pos 0) in
    subst Sized (ok_same (guard_ok (within lo z hi) outside_in (ok (set s r z)) p).1) (length-set s r z ∙ h)
line_sized lent s (act a) s' h p = act_sized s a s' h p

any_line : (ls : List Line) → All (λ l. Unit {0}) ls
any_line [] = tt
any_line (l ∷ ls) = (tt, any_line ls)

-- the last state of a run, or the state before the line that stopped it
pub run_sized : (lent : List ℤ) (ls : List Line) → registers ≤ length lent → Sized (state_of (run lent ls))
unfolding run start_numbers
run_sized lent ls k =
    work_keeps (run_line lent) Sized (λ l. Unit {0}) (λ s l s' p h e. line_sized lent s l s' h e) 1 (start_numbers lent) ls (any_line ls) (length-take-le registers lent k)

done_sized : (t : List ℕ) (lent : List ℤ) → registers ≤ length lent → {n : ℕ} {s : List ℤ} → run_text lent t ≡ worked n (done s) → Sized s
unfolding run_text
done_sized t lent k e =
    let w = judge_worked (run lent) (read t) e in
    subst Sized (ap state_of w.gives) (run_sized lent w.lines k)

-- ---- the theorem

pub demand3_calls : CallsSafety
demand3_calls t sets work lent n h k e i =
    let p = fulfilled_done interval_limit t (ap verdict (sym (check_call_lem t sets work h)) ∙ e) in
    let s = demand3 interval_limit t n p.0 lent p.1 k i in
    record {
      lines = s.lines;
      reads = s.reads;
      count = s.count;
      each = λ m b. at s.lines m (s.each m b);
      whole = s.whole;
      state = s.state;
      last = s.last;
      ends = run_verdict t lent k.enough s.ends;
      leaves = front t s.ends;
      members = λ r b. shown t sets work h p.1 r b (s.members.member r b);
    }
  where
    front : (t : List ℕ) {m : ℕ} {s : List ℤ} → run_text lent t ≡ worked m (done s) → take registers (run_lent t lent) ≡ s
    front t {m} {s} q = ap (take registers) (run_left t lent k.enough q) ∙ take_is s (done_sized t lent k.enough q)
      where
        take_is : (s : List ℤ) → Sized s → take registers (over s lent) ≡ s
        take_is s z = ap (λ (x : ℕ). take x (over s lent)) (sym z) ∙ take_over s lent

    shown : (t : List ℕ) (sets work : List ℤ) → Enough sets work → {m : ℕ} {B : Bands} → check_text interval_limit t ≡ worked m (done B)
        → (r : ℕ) → r < registers → {z : ℤ} → z ∈ get_or B.sets r [] → z ∈ set_in (check_sets t sets work) r
    shown t sets work g {m} {B} q r b {z} w =
        subst (λ (x : List Interval). z ∈ x) (sym (ap (λ (l : List ℤ). set_in l r) (check_left t sets work g q) ∙ sets_shown t m B q sets r b)) w

    at : (ls : List Line) (m : ℕ) → SafeAt interval_limit lent t ls m → CallsSafeAt lent t ls m
    at ls m a =
        record {
          state = a.state;
          sized = done_sized (cut t m) lent k.enough a.runs;
          reaches = a.reaches;
          passes = λ sets' work' g. check_verdict (cut t m) sets' work' g a.passes;
          members = λ sets' work' g r b. shown (cut t m) sets' work' g a.passes r b (a.members.member r b);
          runs = run_verdict (cut t m) lent k.enough a.runs;
          leaves = front (cut t m) a.runs;
        }
