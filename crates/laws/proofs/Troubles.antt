-- Which numbers reading, check, run and the parts that write text can return: reading, each line and each form by its cases. None is 0, so number 0 is success, and none is 9. Assumes nothing.
use lib.Dec.{ltb, eqb}
use lib.IntN.{ℤ, pos}
use lib.ListN.{length, get_or, set}
use mathlib.Core.Path.{◌≡◌, refl, sym, ap, ◌∙◌, subst}
use mathlib.Core.Bool.{Bool, true, false, cond, ◌||◌}
use Rattle.std.specs.Prelude.{Option, None, Some}
use mathlib.Core.List.{List, [], ◌∷◌, ◌++◌}
use Prim.Native.Nat.{ℕ, suc}
use native.Mathlib.Omega.{arith}
use borrow.Author.Tests.{eqb-true}
use Rattle.meaning.specs.Refusals.{too_short, no_room, ungrammatical, far_literal, misplaced, misshapen, crowded, zero_divisor, hold_broken, outside_in}
use Rattle.meaning.specs.Lists.{All}
use Rattle.meaning.specs.Bytes.{bytes}
use Rattle.meaning.specs.Outcome.{Res, ok, stop, bind, or_stop, Outcome, done, stopped, onward, work}
use Rattle.meaning.specs.Number.{within, point2}
use Rattle.meaning.specs.NumberIntervals.{Set}
use Rattle.meaning.specs.Sheet.{registers, Form, lit, reg, form1, form2, Act, put, hold, Line, input, act, far_line, crossed_line}
use Rattle.meaning.specs.Reading.{Got, got, bad, line_of, whole_line, judged, read_line}
use Rattle.meaning.specs.Text.{Seen, among, admit, Read, sheet, no_sheet, prepend, Taken, read_one, then_read, read_lines, read, shaped, split_lines, nothing_seen, lines}
use Rattle.meaning.specs.Run.{Verdict, Judged, refused, worked, judge, verdict, value_of, run_act, run_line, start_numbers, run, run_text, run_call}
use Rattle.meaning.specs.Close.{close}
use Rattle.meaning.specs.Check.{Bands, at, inside, settle, set_of, check_act, check_line, start_sets, sets_need, work_need, interval_limit, check, check_text, check_call, set_by, act_by, line_by, text_by, check_by, call_by}
use Rattle.meaning.specs.Composing.{Composed, text, text_returns, by_check, by_read, if_passed}
use Rattle.meaning.specs.Listing.{digits_before, decimal, trouble_line, pass_line, outcome_text, read_text, listing}
use Rattle.meaning.specs.Page.{page_text, page}
use Rattle.meaning.specs.Verdicts.{Among, reading_refuses, check_finds, run_stops, Says, passes, stops, refuses, Verdicts}
use Rattle.laws.proofs.Integers.{never, clash, by_test, cond_case}

-- ---- one of a list of numbers

among_left : (k : ℕ) (ns ms : List ℕ) → Among k ns → Among k (ns ++ ms)
among_left k [] ms h = never (sym h)
among_left k (n ∷ ns) ms h = by_test (eqb k n) (λ t. rw t refl) (λ t. rw t (among_left k ns ms (rw t at h)))

among_right : (k : ℕ) (ns ms : List ℕ) → Among k ms → Among k (ns ++ ms)
among_right k [] ms h = h
among_right k (n ∷ ns) ms h = by_test (eqb k n) (λ t. rw t refl) (λ t. rw t (among_right k ns ms h))

-- what holds of each of the numbers holds of one of them
pub among_all : (P : ℕ → Type 0) (k : ℕ) (ns : List ℕ) → All P ns → Among k ns → P k
among_all P k [] a h = never (sym h)
among_all P k (n ∷ ns) a h = by_test (eqb k n) (λ t. subst P (sym (eqb-true k n t)) a.0) (λ t. among_all P k ns a.1 (rw t at h))

-- one of the numbers is not one that stands not among them
pub not_among : {k j : ℕ} (ns : List ℕ) → among j ns ≡ false → Among k ns → k ≡ j → ⊥
not_among ns f h e = clash h (ap (λ (n : ℕ). among n ns) e ∙ f)

-- ---- a value, or one of the numbers

abbrev pub Numbered : {A : Type 0} → List ℕ → Res A → Type 0
Numbered ns (ok a) = Unit {0}
Numbered ns (stop k) = Among k ns

bind_numbered : {A B : Type 0} (ns : List ℕ) (m : Res A) (f : A → Res B) → Numbered ns m → ((a : A) → Numbered ns (f a)) → Numbered ns (bind m f)
unfolding bind
bind_numbered ns (ok a) f h k = k a
bind_numbered ns (stop j) f h k = h

numbered_left : {A : Type 0} (ns ms : List ℕ) (r : Res A) → Numbered ns r → Numbered (ns ++ ms) r
numbered_left ns ms (ok a) h = tt
numbered_left ns ms (stop k) h = among_left k ns ms h

-- ---- reading

abbrev Readable : {A : Type 0} → Res A → Type 0
Readable = Numbered reading_refuses

whole_numbered : (s : List ℕ) (g : Got Line) → Readable (whole_line s g)
unfolding whole_line
whole_numbered s (got l n) = cond_case Readable (eqb n (length s)) (ok l) (stop ungrammatical) (λ t. tt) (λ t. refl)
whole_numbered s bad = refl

judged_numbered : (r : Res Line) → Readable r → Readable (judged r)
unfolding judged
judged_numbered (ok l) h =
    cond_case Readable (far_line l) (stop far_literal) (cond (crossed_line l) (stop ungrammatical) (ok l))
    (λ t. refl) (λ t. cond_case Readable (crossed_line l) (stop ungrammatical) (ok l) (λ u. refl) (λ u. tt))
judged_numbered (stop k) h = h

line_numbered : (s : List ℕ) → Readable (read_line s)
unfolding read_line
line_numbered s = judged_numbered (whole_line s (line_of 7 s)) (whole_numbered s (line_of 7 s))

admit_numbered : (s : Seen) (l : Line) → Readable (admit s l)
unfolding admit
admit_numbered s (input r lo hi) = cond_case Readable (s.other || among r s.taken) (stop misplaced) _ (λ t. refl) (λ t. tt)
admit_numbered s (act a) = tt

one_numbered : (s : Seen) (b : List ℕ) → Readable (read_one s b)
unfolding read_one
one_numbered s b = bind_numbered reading_refuses (read_line b) _ (line_numbered b) (λ l. bind_numbered reading_refuses (admit s l) _ (admit_numbered s l) (λ s'. tt))

abbrev pub NumberedRead : Read → Type 0
NumberedRead (sheet ls) = Unit {0}
NumberedRead (no_sheet k n) = Among k reading_refuses

lines_numbered : (n : ℕ) (s : Seen) (bs : List (List ℕ)) → NumberedRead (read_lines n s bs)
unfolding read_lines
lines_numbered n s [] = tt
lines_numbered n s (b ∷ bs) = go (read_one s b) (one_numbered s b) (λ s'. lines_numbered (suc n) s' bs)
  where
    before : (l : Line) (r : Read) → NumberedRead r → NumberedRead (prepend l r)
    before l (sheet ls) h = tt
    before l (no_sheet k m) h = h

    go : (r : Res Taken) → Readable r → ((s' : Seen) → NumberedRead (read_lines (suc n) s' bs)) → NumberedRead (then_read n r (λ s'. read_lines (suc n) s' bs))
    go (ok t) h ih = before t.line (read_lines (suc n) t.seen bs) (ih t.seen)
    go (stop k) h ih = h

pub read_numbered : (t : List ℕ) → NumberedRead (read t)
unfolding read
read_numbered t =
    cond_case NumberedRead (shaped (split_lines t)) (read_lines 1 nothing_seen (lines t)) (no_sheet misshapen 0) (λ q. lines_numbered 1 nothing_seen (lines t)) (λ q. refl)

-- ---- the lines of a sheet

abbrev pub NumberedOutcome : {A : Type 0} → List ℕ → Outcome A → Type 0
NumberedOutcome ns (done a) = Unit {0}
NumberedOutcome ns (stopped k n a) = Among k ns

work_numbered : {A L : Type 0} (ns : List ℕ) (f : A → L → Res A) → ((a : A) (l : L) → Numbered ns (f a l)) → (n : ℕ) (a : A) (ls : List L) → NumberedOutcome ns (work f n a ls)
unfolding work
work_numbered ns f h n a [] = tt
work_numbered {A} ns f h n a (l ∷ ls) = go (f a l) (h a l) (λ b. work_numbered ns f h (suc n) b ls)
  where
    go : (r : Res A) → Numbered ns r → ((b : A) → NumberedOutcome ns (work f (suc n) b ls)) → NumberedOutcome ns (onward n a r (λ b. work f (suc n) b ls))
    go (ok b) k ih = ih b
    go (stop j) k ih = k

-- ---- the check

abbrev Checkable : {A : Type 0} → Res A → Type 0
Checkable = Numbered check_finds

settle_numbered : (limit : ℕ) (s : Set) (flag : Bool) → Checkable (settle limit s flag)
unfolding settle
settle_numbered limit s flag = cond_case Checkable flag (stop zero_divisor) (ok (close limit s)) (λ t. refl) (λ t. tt)

form_numbered : (limit : ℕ) (S : List Set) (e : Form) → Checkable (set_of limit S e)
unfolding set_by
form_numbered limit S (lit z) = tt
form_numbered limit S (reg r) = tt
form_numbered limit S (form1 o e) = bind_numbered check_finds (set_of limit S e) _ (form_numbered limit S e) (λ a. settle_numbered limit _ _)
form_numbered limit S (form2 o e f) =
    bind_numbered check_finds (set_of limit S e) _ (form_numbered limit S e)
    (λ a. bind_numbered check_finds (set_of limit S f) _ (form_numbered limit S f) (λ b. settle_numbered limit _ _))

act_numbered : (limit : ℕ) (B : Bands) (a : Act) → Checkable (check_act limit B a)
unfolding act_by
act_numbered limit B (put r e) = bind_numbered check_finds (set_of limit B.sets e) _ (form_numbered limit B.sets e) (λ s. tt)
act_numbered limit B (hold r lo hi) = cond_case Checkable (inside lo (at B.sets r) hi) (ok B) (stop hold_broken) (λ t. tt) (λ t. refl)

check_line_numbered : (limit : ℕ) (B : Bands) (l : Line) → Checkable (check_line limit B l)
unfolding line_by
check_line_numbered limit B (input r lo hi) = tt
check_line_numbered limit B (act a) = act_numbered limit B a

pub check_numbered : (limit : ℕ) (ls : List Line) → NumberedOutcome check_finds (check limit ls)
unfolding check_by
check_numbered limit ls = work_numbered check_finds (check_line limit) (check_line_numbered limit) 1 start_sets ls

-- ---- the run

-- a put or a hold stops it with what the check finds
or_stop_numbered : {A : Type 0} (m : Option A) → Checkable (or_stop zero_divisor m)
or_stop_numbered None = refl
or_stop_numbered (Some z) = tt

value_numbered : (s : List ℤ) (e : Form) → Checkable (value_of s e)
unfolding value_of
value_numbered s (lit z) = tt
value_numbered s (reg r) = tt
value_numbered s (form1 o e) = bind_numbered check_finds (value_of s e) _ (value_numbered s e) (λ x. tt)
value_numbered s (form2 o e f) =
    bind_numbered check_finds (value_of s e) _ (value_numbered s e) (λ x. bind_numbered check_finds (value_of s f) _ (value_numbered s f) (λ y. or_stop_numbered (point2 o x y)))

pub run_act_numbered : (s : List ℤ) (a : Act) → Checkable (run_act s a)
unfolding run_act
run_act_numbered s (put r e) = bind_numbered check_finds (value_of s e) _ (value_numbered s e) (λ z. tt)
run_act_numbered s (hold r lo hi) = cond_case Checkable (within lo (get_or s r (pos 0)) hi) (ok s) (stop hold_broken) (λ t. tt) (λ t. refl)

-- an `in` with 22
run_line_numbered : (lent s : List ℤ) (l : Line) → Numbered run_stops (run_line lent s l)
unfolding run_line
run_line_numbered lent s (input r lo hi) =
    cond_case (Numbered run_stops) (within lo (get_or lent r (pos 0)) hi) (ok (set s r (get_or lent r (pos 0)))) (stop outside_in) (λ t. tt) (λ t. refl)
run_line_numbered lent s (act a) = numbered_left check_finds (outside_in ∷ []) (run_act s a) (run_act_numbered s a)

run_numbered : (lent : List ℤ) (ls : List Line) → NumberedOutcome run_stops (run lent ls)
unfolding run
run_numbered lent ls = work_numbered run_stops (run_line lent) (run_line_numbered lent) 1 (start_numbers lent) ls

-- ---- what a call returns

-- what is judged comes to an end with all lines worked
abbrev Fulfilled : {A : Type 0} → Judged A → Type 0
Fulfilled {A} j = (n : ℕ) × (a : A) × (j ≡ worked n (done a))

module _ {A : Type 0} (ns : List ℕ) (no_zero : among 0 ns ≡ false) (f : List Line → Outcome A) (h : (ls : List Line) → NumberedOutcome ns (f ls)) where
  -- number 0 is success
  judge_zero : (r : Read) → NumberedRead r → (verdict (judge f r)).number ≡ 0 → Fulfilled (judge f r)
  judge_zero (sheet ls) k e = inner (length ls) (f ls) (h ls) e
    where
      inner : (n : ℕ) (o : Outcome A) → NumberedOutcome ns o → (verdict (worked n o)).number ≡ 0 → Fulfilled (worked n o)
      inner n (done a) g e = (n, a, refl)
      inner n (stopped j l a) g e = absurd (not_among ns no_zero g e)
  judge_zero (no_sheet k l) g e = absurd (not_among reading_refuses refl g e)

  -- else it is one of reading's refusals or one of those that stop the lines
  judge_numbers : (r : Read) → NumberedRead r → Among (verdict (judge f r)).number (0 ∷ reading_refuses ++ ns)
  judge_numbers (sheet ls) k = inner (f ls) (h ls)
    where
      inner : (o : Outcome A) → NumberedOutcome ns o → Among (verdict (worked (length ls) o)).number (0 ∷ reading_refuses ++ ns)
      inner (done a) g = refl
      inner (stopped j l a) g = among_right j (0 ∷ reading_refuses) ns g
  judge_numbers (no_sheet k l) g = among_left k (0 ∷ reading_refuses) ns (among_right k (0 ∷ []) reading_refuses g)

-- a call that refuses short slices with 3 first
call_zero : {A : Type 0} (short : Bool) (j : Judged A) → ((verdict j).number ≡ 0 → Fulfilled j) → (verdict (cond short (refused too_short 0) j)).number ≡ 0 → Fulfilled (cond short (refused too_short 0) j)
call_zero true j h e = absurd (let x : ⊥ = omega arith in x)
call_zero false j h e = h e

call_numbers : {A : Type 0} (ns : List ℕ) (short : Bool) (j : Judged A) → Among (verdict j).number (0 ∷ ns) → Among (verdict (cond short (refused too_short 0) j)).number (0 ∷ too_short ∷ ns)
call_numbers ns true j h = refl
call_numbers ns false j h = go (verdict j).number h
  where
    go : (k : ℕ) → Among k (0 ∷ ns) → Among k (0 ∷ too_short ∷ ns)
    go k h = by_test (eqb k 0) (λ t. rw t refl) (λ t. rw t (among_right k (too_short ∷ []) ns (rw t at h)))

abbrev short_checked : List ℤ → List ℤ → Bool
short_checked sets work = ltb (length sets) sets_need || ltb (length work) work_need

check_numbers : (limit : ℕ) (t : List ℕ) → Among (verdict (check_text limit t)).number (0 ∷ reading_refuses ++ check_finds)
unfolding text_by
check_numbers limit t = judge_numbers check_finds refl (check limit) (check_numbered limit) (read t) (read_numbered t)

check_call_numbers : (t : List ℕ) (sets work : List ℤ) → Among (verdict (check_call t sets work)).number (0 ∷ too_short ∷ reading_refuses ++ check_finds)
unfolding call_by
check_call_numbers t sets work = call_numbers (reading_refuses ++ check_finds) (short_checked sets work) (check_text interval_limit t) (check_numbers interval_limit t)

-- ---- parts that write text

text_numbers : (x out : List ℕ) → Among (text_returns (text x) out).number (0 ∷ no_room ∷ [])
unfolding text_returns
text_numbers x out = cond_case (λ (v : Verdict). Among v.number (0 ∷ no_room ∷ [])) (ltb (length out) (length x)) (record { number = no_room; line = 0; count = 0 }) (record { number = 0; line = 0; count = length x }) (λ t. refl) (λ t. refl)

-- for sheets that pass
part_numbers : (f : List Line → List Set → List ℕ) (t out : List ℕ) → Among (text_returns (if_passed (λ ls S. text (f ls S)) t) out).number (0 ∷ no_room ∷ reading_refuses ++ check_finds)
unfolding if_passed text_returns
part_numbers f t out = go (read t) (read_numbered t)
  where
    part : List Line → List Set → Composed
    part ls S = text (f ls S)

    inner : (ls : List Line) (o : Outcome Bands) → NumberedOutcome check_finds o → Among (text_returns (by_check part ls o) out).number (0 ∷ no_room ∷ reading_refuses ++ check_finds)
    inner ls (done B) g = among_left (text_returns (text (f ls B.sets)) out).number (0 ∷ no_room ∷ []) (reading_refuses ++ check_finds) (text_numbers (f ls B.sets) out)
    inner ls (stopped k l B) g = among_right k (0 ∷ no_room ∷ reading_refuses) check_finds g

    go : (r : Read) → NumberedRead r → Among (text_returns (by_read part r) out).number (0 ∷ no_room ∷ reading_refuses ++ check_finds)
    go (sheet ls) h = inner ls (check interval_limit ls) (check_numbered interval_limit ls)
    go (no_sheet k l) h = among_left k (0 ∷ no_room ∷ reading_refuses) check_finds (among_right k (0 ∷ no_room ∷ []) reading_refuses h)

page_numbers : (t out : List ℕ) → Among (text_returns (page t) out).number (0 ∷ no_room ∷ reading_refuses ++ check_finds)
unfolding page
page_numbers t out = part_numbers page_text t out

listing_says : (t : List ℕ) → Says t
unfolding listing read_text outcome_text
listing_says t = go (read t) (read_numbered t) refl
  where
    inner : (ls : List Line) → read t ≡ sheet ls → (o : Outcome Bands) → NumberedOutcome check_finds o → check interval_limit ls ≡ o → listing t ≡ outcome_text ls o → Says t
    inner ls r (done B) g c e = passes ls B r c e
    inner ls r (stopped k l B) g c e = stops ls k l B r c g e

    go : (r : Read) → NumberedRead r → read t ≡ r → Says t
    go (sheet ls) h e = inner ls e (check interval_limit ls) (check_numbered interval_limit ls) refl (ap read_text e)
    go (no_sheet k l) h e = refuses k l e h (ap read_text e)

-- ---- 9 is none of them

pub text_not_nine : (limit : ℕ) (t : List ℕ) → (verdict (check_text limit t)).number ≡ crowded → ⊥
text_not_nine limit t = not_among (0 ∷ reading_refuses ++ check_finds) refl (check_numbers limit t)

-- the digit of 5 to 8 is not that of 9
abbrev NotAsNine : ℕ → Type 0
NotAsNine k = (l m : ℕ) → trouble_line (bytes "refused ") k l ≡ trouble_line (bytes "refused ") crowded m → ⊥

reading_not_nine : All NotAsNine reading_refuses
unfolding trouble_line decimal digits_before
reading_not_nine = (λ l m e. digit e (λ z. omega (arith, z)), (λ l m e. digit e (λ z. omega (arith, z)), (λ l m e. digit e (λ z. omega (arith, z)), (λ l m e. digit e (λ z. omega (arith, z)), tt))))
  where
    digit : {x y : List ℕ} → x ≡ y → (get_or x 8 0 ≡ get_or y 8 0 → ⊥) → ⊥
    digit e f = f (ap (λ x. get_or x 8 0) e)

-- `pass` and `stop` do not begin as `refused` does
listing_no_nine : (t : List ℕ) (l : ℕ) → listing t ≡ trouble_line (bytes "refused ") crowded l → ⊥
unfolding trouble_line pass_line
listing_no_nine t l e = go (listing_says t)
  where
    first : {x y : List ℕ} → listing t ≡ x → listing t ≡ y → get_or x 0 0 ≡ get_or y 0 0
    first p q = ap (λ x. get_or x 0 0) (sym p ∙ q)

    go : Says t → ⊥
    go (passes ls B r c p) = omega (arith, first p e)
    go (stops ls k m B r c h p) = omega (arith, first p e)
    go (refuses k m r h p) = among_all NotAsNine k reading_refuses reading_not_nine h m l (sym p ∙ e)

pub verdicts : Verdicts
unfolding call_by run_call text_by run_text
verdicts = record {
  zero_passes = λ t sets work.
      call_zero (short_checked sets work) (check_text interval_limit t) (judge_zero check_finds refl (check interval_limit) (check_numbered interval_limit) (read t) (read_numbered t));
  zero_done = λ t lent. call_zero (ltb (length lent) registers) (run_text lent t) (judge_zero run_stops refl (run lent) (run_numbered lent) (read t) (read_numbered t));
  reading_numbers = λ t k n e. subst NumberedRead e (read_numbered t);
  run_numbers = λ t lent.
      call_numbers (reading_refuses ++ run_stops) (ltb (length lent) registers) (run_text lent t) (judge_numbers run_stops refl (run lent) (run_numbered lent) (read t) (read_numbered t));
  check_numbers = check_call_numbers;
  page_numbers = page_numbers;
  listing_numbers = λ t out. text_numbers (listing t) out;
  listing_says = listing_says;
  check_no_nine = λ t sets work. not_among (0 ∷ too_short ∷ reading_refuses ++ check_finds) refl (check_call_numbers t sets work);
  listing_no_nine = listing_no_nine;
  page_no_nine = λ t out. not_among (0 ∷ no_room ∷ reading_refuses ++ check_finds) refl (page_numbers t out);
}
