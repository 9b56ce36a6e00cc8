-- The lines of a sheet in order, and what the call leaves. Assumes nothing.
use mathlib.Core.Path.{◌≡◌, refl, sym, ap, subst, ◌∙◌}
use mathlib.Core.List.{List, [], ◌∷◌, ◌++◌, append-nil}
use Prim.Native.Nat.{ℕ, ◌+◌, ◌≤◌, ◌<◌}
use native.Mathlib.Omega.{arith}
use native.Mathlib.Numerals.{add-one}
use borrow.Author.Tests.{lt-ltb, le-ltb}
use lib.IntN.{ℤ, pos}
use lib.ListN.{length, take, drop, replicate, length-replicate, length-take}
use Rattle.std.proofs.lemmas.List.{take-append-drop, drop_all}
use Rattle.std.specs.Prelude.{Result, Ok, Err}
use Rattle.meaning.specs.Outcome.{Res, ok, bind, done, stopped, work}
use Rattle.meaning.specs.Sheet.{Line}
use Rattle.meaning.specs.Reading.{read_line}
use Rattle.meaning.specs.Text.{lines, read}
use Rattle.meaning.specs.Refusals.{too_short}
use Rattle.meaning.specs.Lists.{over}
use Rattle.meaning.specs.Run.{Verdict, verdict, Judged, refused, worked, judge}
use Rattle.meaning.specs.Check.{Bands, check_line, start_sets, check, check_text, interval_limit, sets_need, work_need, layout, check_call, sets_left_by, work_left_by, check_sets, check_work, text_by, check_by, call_by}
use Rattle.laws.proofs.Work.{work_step}
use Rattle.laws.proofs.Slots.{length_shown}
use Rattle.laws.proofs.CheckSets.{passed_sound}
use Rattle.refusals.specs.declared.Cause.{Cause}
use Rattle.refusals.specs.declared.Cause.TheVariants.{TooShort}
use Rattle.refusals.specs.Numbers.{number_of}
use Rattle.refusals.specs.Endings.{Ending, success, stop, refusal, ending_of, verdict_of}
use Rattle.refusals.specs.declared.Trouble.{Trouble}
use Rattle.refusals.specs.declared.Trouble.TheVariants.{Refused, Stopped}
use Rattle.sheet.specs.Answer.{judgement_for}
use Rattle.sheet.specs.Judging.{IsSheet}
use Rattle.sheet.proofs.Judging.{refused_read}
use Rattle.sheet.proofs.Walk.{Each, Next, each_sheet, each_next, each_done}
use Rattle.set_values.specs.declared.registers.Registers.{Registers}
use Rattle.set_values.specs.Value.{sets_of, bands_of}
use Rattle.set_lines.specs.Worked.{line_check, line_left}
use Rattle.sheet_check.specs.Answer.{answer_for, Called}
use Rattle.sheet_check.specs.Checked.{Checked, passed, shown}
use Rattle.sheet_check.specs.declared.Passed.{Passed}

-- ---- the lines

-- with n lines worked: what is left of the text is worked from the registers' sets
pub record Going (t : List ℕ) (count : ℕ) (registers : Registers) (n : ℕ) (rest : List (List ℕ)) : Type 0 where
  pub left : List Line
  pub each : Each rest left
  pub same : check_text interval_limit t ≡ worked count (work (check_line interval_limit) (n + 1) (bands_of registers) left)

sheet_worked : (t : List ℕ) {count : ℕ} → (s : IsSheet t count) → check_text interval_limit t ≡ worked count (check interval_limit s.lines)
unfolding text_by
sheet_worked t s = rw (s.reads, s.count)

pub going_start : (t : List ℕ) (count : ℕ) (registers : Registers) → IsSheet t count → sets_of registers ≡ start_sets.sets → Going t count registers 0 (lines t)
unfolding check_by
going_start t count registers s e = record {
  left = s.lines;
  each = each_sheet t s.reads;
  same = sheet_worked t s ∙ rw e;
}

pub enough : 1 ≤ interval_limit
enough = omega arith

line_of : (B : Bands) (b : List ℕ) {l : Line} {x : Res Bands} → read_line b ≡ ok l → x ≡ line_check B b → check_line interval_limit B l ≡ x
unfolding line_check bind
line_of B b {l} {x} e h = sym (subst (λ (r : Res Line). x ≡ bind r (check_line interval_limit B)) e h)

module _ (t : List ℕ) (count : ℕ) (registers : Registers) (n : ℕ) where
  pub going_done : Going t count registers n [] → Checked (Ok (record { count = count; registers = registers })) (check_text interval_limit t)
  unfolding work
  going_done g = g.same ∙ rw (each_done g.left g.each)

  module _ (b : List ℕ) (bs : List (List ℕ)) (g : Going t count registers n (b ∷ bs)) where
    next : Next b bs g.left
    next = each_next b bs g.left g.each

    left_is : check_text interval_limit t ≡ worked count (work (check_line interval_limit) (n + 1) (bands_of registers) (next.line ∷ next.left))
    left_is = g.same ∙ ap (λ (ls : List Line). worked count (work (check_line interval_limit) (n + 1) (bands_of registers) ls)) next.lines_are

    pub going_stop : (registers' : Registers) (r : Result (Unit {0}) Cause) {x : Result ℕ Trouble} → line_left r registers' ≡ line_check (bands_of registers) b
        → (cause : Cause) × (r ≡ Err cause) × (x ≡ Err (Stopped cause (n + 1))) → Checked (passed x registers') (check_text interval_limit t)
    unfolding work
    going_stop registers' r h e =
        let s = line_of (bands_of registers) b next.reads_it (rw e.1 at h) in
        rw e.2 (count, bands_of registers, left_is ∙ rw s)

    pub going_next : {registers' : Registers} → line_left (Ok tt) registers' ≡ line_check (bands_of registers) b → Going t count registers' (n + 1) bs
    going_next {registers'} h =
        let s = line_of (bands_of registers) b next.reads_it h in
        record {
          left = next.left;
          each = next.each;
          same = left_is ∙ ap (worked count) (work_step (check_line interval_limit) (n + 1) (bands_of registers) next.line next.left s
              ∙ ap (λ (m : ℕ). work (check_line interval_limit) m (bands_of registers') next.left) (sym (add-one (n + 1))));
        }

-- ---- the text

-- what is no sheet is refused, and the work slice is as it was
pub text_refused : (t : List ℕ) {r : Result ℕ Trouble} → ending_of r ≡ judgement_for (read t) → {e : Trouble} → r ≡ Err e
    → Checked (Err e) (check_text interval_limit t) × ((work : List ℤ) → work ≡ work_left_by work (check_text interval_limit t))
unfolding text_by
text_refused t er q =
    let x = refused_read t er q in
    let p : check_text interval_limit t ≡ refused (number_of x.0) x.1 = ap (judge (check interval_limit)) x.3 in
    rw (x.2, p) (refl, λ work. refl)

-- after a sheet the work slice is 0
pub sheet_left : (t : List ℕ) {count : ℕ} → IsSheet t count → (old part : List ℤ) {new : List ℤ} → length old ≡ work_need → length part ≡ work_need → new ≡ replicate (length part) (pos 0)
    → new ≡ work_left_by old (check_text interval_limit t)
unfolding over
sheet_left t s old part n m e =
    rw (sheet_worked t s) (e ∙ ap (λ (k : ℕ). replicate k (pos 0)) m ∙ sym (append-nil (replicate work_need (pos 0)))
    ∙ ap (λ (l : List ℤ). replicate work_need (pos 0) ++ l) (sym (drop_all (length (replicate work_need (pos 0))) old (omega (arith, length-replicate work_need (pos 0))))))

-- ---- the verdict, by how an answer ends

told : Ending → Verdict
told (success n) = record { number = 0; line = 0; count = n }
told (stop k l) = record { number = k; line = l; count = 0 }
told (refusal k l) = record { number = k; line = l; count = 0 }

told_answer : (r : Result ℕ Trouble) → verdict_of r ≡ told (ending_of r)
unfolding told
told_answer (Ok n) = refl
told_answer (Err (Stopped cause line)) = refl
told_answer (Err (Refused cause line)) = refl

told_check : (x : Judged Bands) → told (answer_for x) ≡ verdict x
unfolding told
told_check (refused k l) = refl
told_check (worked n (done B)) = refl
told_check (worked n (stopped k l B)) = refl

-- a call that passes is done with every line
pub pass_done : (x : Judged Bands) {n : ℕ} → success n ≡ answer_for x → (B : Bands) × (x ≡ worked n (done B))
pass_done (refused k l) e = absurd (let z : ⊥ = cc in z)
pass_done (worked m (done B)) {n} e = let d : m ≡ n = cc in (B, ap (λ (i : ℕ). worked i (done B)) d)
pass_done (worked m (stopped k l B)) e = absurd (let z : ⊥ = cc in z)

-- ---- the call

-- the front of a slice as it was, and what stands behind it
pub whole : (l : List ℤ) (n : ℕ) {front : List ℤ} → front ≡ take n l → front ++ drop n l ≡ l
whole l n e = ap (λ (x : List ℤ). x ++ drop n l) e ∙ take-append-drop n l

-- the needed work, and what stands behind it
pub work_whole : (l : List ℤ) {front new : List ℤ} → work_need ≤ length l → front ≡ take work_need l → (x : Judged Bands) → new ≡ work_left_by front x → new ++ drop work_need l ≡ work_left_by l x
unfolding over
work_whole l h e (refused i j) d = ap (λ (w : List ℤ). w ++ drop work_need l) d ∙ whole l work_need e
work_whole l {front} h e (worked n o) d =
    let zeros : List ℤ = replicate work_need (pos 0) in
    let none : drop (length zeros) front ≡ [] = drop_all (length zeros) front (omega (arith, length-replicate work_need (pos 0), ap length e, length-take work_need l)) in
    ap (λ (w : List ℤ). w ++ drop work_need l) (d ∙ ap (λ (w : List ℤ). zeros ++ w) none ∙ append-nil zeros)
    ∙ ap (λ (k : ℕ). zeros ++ drop k l) (sym (length-replicate work_need (pos 0)))

module _ (t : List ℕ) (sets work : List ℤ) where
  call_is : (r : Result ℕ Trouble) {sets' work' : List ℤ} (x : Judged Bands) → check_call t sets work ≡ x → ending_of r ≡ answer_for x → sets' ≡ sets_left_by sets x → work' ≡ work_left_by work x
      → Called t sets work r sets' work'
  unfolding check_sets check_work
  call_is r x e a c d = record {
    verdict_is = told_answer r ∙ ap told a ∙ told_check x ∙ ap verdict (sym e);
    answer_is = a ∙ ap answer_for (sym e);
    sets_left = c ∙ ap (sets_left_by sets) (sym e);
    work_left = d ∙ ap (work_left_by work) (sym e);
  }

  short_sets : length sets < sets_need → check_call t sets work ≡ refused too_short 0
  unfolding call_by
  short_sets h = rw (lt-ltb (length sets) sets_need h)

  short_work : sets_need ≤ length sets → length work < work_need → check_call t sets work ≡ refused too_short 0
  unfolding call_by
  short_work k h = rw (le-ltb (length sets) sets_need k, lt-ltb (length work) work_need h)

  pub long_call : sets_need ≤ length sets → work_need ≤ length work → check_call t sets work ≡ check_text interval_limit t
  unfolding call_by
  long_call k h = rw (le-ltb (length sets) sets_need k, le-ltb (length work) work_need h)

  pub called_short_sets : length sets < sets_need → Called t sets work (Err (Refused TooShort 0)) sets work
  called_short_sets h = call_is (Err (Refused TooShort 0)) (refused too_short 0) (short_sets h) refl refl refl

  pub called_short_work : sets_need ≤ length sets → length work < work_need → {sets' : List ℤ} → sets' ≡ sets → Called t sets work (Err (Refused TooShort 0)) sets' work
  called_short_work k h c = call_is (Err (Refused TooShort 0)) (refused too_short 0) (short_work k h) refl c refl

  module _ (k : sets_need ≤ length sets) (h : work_need ≤ length work) {sets' work' : List ℤ} (d : work' ≡ work_left_by work (check_text interval_limit t)) where
    long_is : (r : Result ℕ Trouble) (x : Judged Bands) → check_text interval_limit t ≡ x → ending_of r ≡ answer_for x → sets' ≡ sets_left_by sets x → Called t sets work r sets' work'
    long_is r x e a c = call_is r x (long_call k h ∙ e) a c (d ∙ ap (work_left_by work) e)

    pub called_failed : (e : Trouble) → Checked (Err e) (check_text interval_limit t) → sets' ≡ sets → Called t sets work (Err e) sets' work'
    called_failed (Stopped cause line) x c = long_is (Err (Stopped cause line)) (worked x.0 (stopped (number_of cause) line x.1)) x.2 refl c
    called_failed (Refused cause line) x c = long_is (Err (Refused cause line)) (refused (number_of cause) line) x refl c

    pub called_passed : (p : Passed) → Checked (Ok p) (check_text interval_limit t)
        → {new : List ℤ} → new ≡ layout (sets_of p.registers) → sets' ≡ new ++ drop sets_need sets → Called t sets work (Ok p.count) sets' work'
    unfolding over
    called_passed p x {new} l c =
        let long = length_shown (passed_sound interval_limit t (omega arith) x) in
        long_is (Ok p.count) (worked p.count (done (bands_of p.registers))) x refl (c ∙ (λ i. l i ++ drop (sym long i) sets))

    pub called_sheet : (r : Result ℕ Trouble) (registers : Registers) → Checked (passed r registers) (check_text interval_limit t)
        → {front new : List ℤ} → new ≡ shown r registers front → front ≡ take sets_need sets → sets' ≡ new ++ drop sets_need sets → Called t sets work r sets' work'
    called_sheet (Ok n) registers x e f c = called_passed (record { count = n; registers = registers }) x e c
    called_sheet (Err cause) registers x e f c = called_failed cause x (c ∙ whole sets sets_need (e ∙ f))
