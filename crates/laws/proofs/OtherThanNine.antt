-- What stays with closed gaps (meaning/specs/OtherThanNine.antt): the two ways of settling give the same, or the one with 9 gives 9, form by form and line by line. Assumes nothing.
use lib.Dec.{ltb}
use lib.IntN.{ℤ}
use lib.ListN.{length}
use mathlib.Core.Path.{◌≡◌, refl, sym, ap, ◌∙◌}
use mathlib.Core.Bool.{Bool, true, false, cond, ◌||◌}
use mathlib.Core.Logic.{◌⊎◌, inl, inr}
use mathlib.Core.List.{List, [], ◌∷◌, ◌++◌}
use Prim.Native.Nat.{ℕ, suc, ◌+◌}
use native.Mathlib.Nat.{add-zero}
use native.Mathlib.Omega.{arith}
use borrow.Author.Tests.{ltb-false}
use Rattle.meaning.specs.Refusals.{too_short, crowded, zero_divisor}
use Rattle.meaning.specs.Outcome.{Res, ok, stop, bind, Outcome, done, stopped, onward, work}
use Rattle.meaning.specs.NumberIntervals.{Set, set1, set2, flag1, flag2}
use Rattle.meaning.specs.Sheet.{Form, lit, reg, form1, form2, put, hold, Line, input, act}
use Rattle.meaning.specs.Text.{Read, sheet, no_sheet, read}
use Rattle.meaning.specs.Run.{refused, worked, judge, verdict}
use Rattle.meaning.specs.Check.{Bands, Settling, settle, set_by, set_of, act_by, line_by, check_line, start_sets, check_by, check, text_by, check_text, sets_need, work_need, interval_limit, call_by, check_call, sets_left_by, check_sets, work_left_by, check_work}
use Rattle.meaning.specs.OtherThanNine.{settle_with_nine, check_with_nine, text_with_nine, call_with_nine, outcome_with_nine, listing_with_nine, by_check_with_nine, part_with_nine, NineAt, TextNine, NotNine, OtherThanNine}
use Rattle.meaning.specs.Composing.{Composed, by_check, by_read, if_passed}
use Rattle.meaning.specs.Listing.{outcome_text, read_text, listing}
use Rattle.meaning.specs.Verdicts.{Among, reading_refuses, check_finds}
use Rattle.laws.proofs.Integers.{by_test}
use Rattle.laws.proofs.CloseLaws.{close_fits}
use Rattle.laws.proofs.Work.{work_step}
use Rattle.laws.proofs.Troubles.{among_all, NumberedRead, read_numbered, NumberedOutcome, check_numbered, text_not_nine}

-- ---- the same, or 9

abbrev Alike : {A : Type 0} → Res A → Res A → Type 0
Alike x y = (x ≡ y) ⊎ (x ≡ stop crowded)

bind_alike : {A B : Type 0} (x y : Res A) (f g : A → Res B) → Alike x y → ((a : A) → Alike (f a) (g a)) → Alike (bind x f) (bind y g)
unfolding bind
bind_alike x y f g (inr e) h = inr (ap (λ z. bind z f) e)
bind_alike x (stop j) f g (inl e) h = inl (ap (λ z. bind z f) e)
bind_alike x (ok a) f g (inl e) h = rest (h a)
  where
    rest : Alike (f a) (g a) → Alike (bind x f) (g a)
    rest (inl q) = inl (ap (λ z. bind z f) e ∙ q)
    rest (inr q) = inr (ap (λ z. bind z f) e ∙ q)

module _ (limit : ℕ) where
  -- within the limit nothing is closed
  settle_alike : (s : Set) (flag : Bool) → Alike (settle_with_nine limit s flag) (settle limit s flag)
  unfolding settle_with_nine settle
  settle_alike s true = inl refl
  settle_alike s false = by_test (ltb limit (length s)) (λ t. inr (rw t refl)) (λ t. inl (rw t (ap ok (sym (close_fits limit s (ltb-false limit (length s) t))))))

  form_alike : (S : List Set) (e : Form) → Alike (set_by (settle_with_nine limit) S e) (set_of limit S e)
  unfolding set_by
  form_alike S (lit z) = inl refl
  form_alike S (reg r) = inl refl
  form_alike S (form1 o e) = bind_alike (set_by (settle_with_nine limit) S e) (set_of limit S e) _ _ (form_alike S e) (λ a. settle_alike (set1 o a) (flag1 o false))
  form_alike S (form2 o e f) =
      bind_alike (set_by (settle_with_nine limit) S e) (set_of limit S e) _ _ (form_alike S e)
      (λ a. bind_alike (set_by (settle_with_nine limit) S f) (set_of limit S f) _ _ (form_alike S f) (λ b. settle_alike (set2 o a b) (flag2 o false a b)))

  -- ---- lines: what comes to 9 is a put

  abbrev LineAlike : Bands → Line → Type 0
  LineAlike B l = (line_by (settle_with_nine limit) B l ≡ check_line limit B l) ⊎ ((r : ℕ) × (e : Form) × (l ≡ act (put r e)) × (line_by (settle_with_nine limit) B l ≡ stop crowded))

  line_alike : (B : Bands) (l : Line) → LineAlike B l
  unfolding line_by act_by
  line_alike B (input r lo hi) = inl refl
  line_alike B (act (hold r lo hi)) = inl refl
  line_alike B (act (put r e)) = go (bind_alike (set_by (settle_with_nine limit) B.sets e) (set_of limit B.sets e) _ _ (form_alike B.sets e) (λ s. inl refl))
    where
      go : Alike (line_by (settle_with_nine limit) B (act (put r e))) (check_line limit B (act (put r e))) → LineAlike B (act (put r e))
      go (inl h) = inl h
      go (inr h) = inr (r, e, refl, h)

  -- from line n on, with the state B before it
  record WorkNine (n : ℕ) (B : Bands) (ls : List Line) : Type 0 where
    before : List Line
    register : ℕ
    form : Form
    after : List Line
    lines : ls ≡ before ++ act (put register form) ∷ after
    bands : Bands
    passed : work (line_by (settle_with_nine limit)) n B before ≡ done bands
    passes : work (check_line limit) n B before ≡ done bands
    came : work (line_by (settle_with_nine limit)) n B ls ≡ stopped crowded (n + length before) bands

  abbrev WorkAlike : ℕ → Bands → List Line → Type 0
  WorkAlike n B ls = (work (line_by (settle_with_nine limit)) n B ls ≡ work (check_line limit) n B ls) ⊎ WorkNine n B ls

  work_alike : (n : ℕ) (B : Bands) (ls : List Line) → WorkAlike n B ls
  unfolding work
  work_alike n B [] = inl refl
  work_alike n B (l ∷ ls) = go (line_alike B l) (check_line limit B l) refl (λ C. work_alike (suc n) C ls)
    where
      further : (C : Bands) → line_by (settle_with_nine limit) B l ≡ ok C → check_line limit B l ≡ ok C → WorkAlike (suc n) C ls → WorkAlike n B (l ∷ ls)
      further C p q (inl h) = inl (work_step (line_by (settle_with_nine limit)) n B l ls p ∙ h ∙ sym (work_step (check_line limit) n B l ls q))
      further C p q (inr w) =
          let e : suc n + length w.before ≡ n + length (l ∷ w.before) = omega arith in
          inr (record {
            before = l ∷ w.before;
            register = w.register;
            form = w.form;
            after = w.after;
            lines = ap (λ (x : List Line). l ∷ x) w.lines;
            bands = w.bands;
            passed = work_step (line_by (settle_with_nine limit)) n B l w.before p ∙ w.passed;
            passes = work_step (check_line limit) n B l w.before q ∙ w.passes;
            came = work_step (line_by (settle_with_nine limit)) n B l ls p ∙ w.came ∙ ap (λ (m : ℕ). stopped crowded m w.bands) e;
          })

      go : LineAlike B l → (x : Res Bands) → check_line limit B l ≡ x → ((C : Bands) → WorkAlike (suc n) C ls) → WorkAlike n B (l ∷ ls)
      go (inl h) (ok C) q ih = further C (h ∙ q) q (ih C)
      go (inl h) (stop j) q ih =
          inl (ap (λ x. onward n B x (λ C. work (line_by (settle_with_nine limit)) (suc n) C ls)) (h ∙ q) ∙ sym (ap (λ x. onward n B x (λ C. work (check_line limit) (suc n) C ls)) q))
      go (inr b) x q ih =
          inr (record {
            before = [];
            register = b.0;
            form = b.1;
            after = ls;
            lines = ap (λ (x : Line). x ∷ ls) b.2;
            bands = B;
            passed = refl;
            passes = refl;
            came = ap (λ x. onward n B x (λ C. work (line_by (settle_with_nine limit)) (suc n) C ls)) b.3 ∙ ap (λ (m : ℕ). stopped crowded m B) (sym (add-zero n));
          })

  -- ---- sheets and texts

  alters : (ls : List Line) → (check_with_nine limit ls ≡ check limit ls) ⊎ NineAt limit ls
  unfolding check_by
  alters ls = go (work_alike 1 start_sets ls)
    where
      go : WorkAlike 1 start_sets ls → (check_with_nine limit ls ≡ check limit ls) ⊎ NineAt limit ls
      go (inl h) = inl h
      go (inr w) =
          let e : 1 + length w.before ≡ suc (length w.before) = omega arith in
          inr (record {
            before = w.before;
            register = w.register;
            form = w.form;
            after = w.after;
            lines = w.lines;
            bands = w.bands;
            passed = w.passed;
            passes = w.passes;
            came = w.came ∙ ap (λ (m : ℕ). stopped crowded m w.bands) e;
          })

  text_alters : (t : List ℕ) → (text_with_nine limit t ≡ check_text limit t) ⊎ TextNine limit t
  unfolding text_by
  text_alters t = go (read t) refl
    where
      inner : (ls : List Line) → read t ≡ sheet ls → (check_with_nine limit ls ≡ check limit ls) ⊎ NineAt limit ls → (text_with_nine limit t ≡ check_text limit t) ⊎ TextNine limit t
      inner ls e (inl h) = inl (ap (judge (check_with_nine limit)) e ∙ ap (worked (length ls)) h ∙ sym (ap (judge (check limit)) e))
      inner ls e (inr w) = inr (record { lines = ls; reads = e; nine = w; came = ap (judge (check_with_nine limit)) e ∙ ap (worked (length ls)) w.came })

      go : (r : Read) → read t ≡ r → (text_with_nine limit t ≡ check_text limit t) ⊎ TextNine limit t
      go (sheet ls) e = inner ls e (alters ls)
      go (no_sheet k n) e = inl (ap (judge (check_with_nine limit)) e ∙ sym (ap (judge (check limit)) e))

  keeps : (t : List ℕ) → NotNine (text_with_nine limit t) → check_text limit t ≡ text_with_nine limit t
  keeps t n = go (text_alters t)
    where
      go : (text_with_nine limit t ≡ check_text limit t) ⊎ TextNine limit t → check_text limit t ≡ text_with_nine limit t
      go (inl h) = sym h
      go (inr w) = absurd (n (ap (λ j. (verdict j).number) w.came))

-- ---- the call

module _ (t : List ℕ) (sets work : List ℤ) where
  abbrev short : Bool
  short = ltb (length sets) sets_need || ltb (length work) work_need

  too_short_lem : (s : Settling) → short ≡ true → call_by s t sets work ≡ refused too_short 0
  unfolding call_by
  too_short_lem s e = ap (λ (b : Bool). cond b (refused too_short 0) (text_by s t)) e

  long_enough : (s : Settling) → short ≡ false → call_by s t sets work ≡ text_by s t
  unfolding call_by
  long_enough s e = ap (λ (b : Bool). cond b (refused too_short 0) (text_by s t)) e

  call_keeps : NotNine (call_with_nine t sets work) → check_call t sets work ≡ call_with_nine t sets work
  call_keeps n =
      by_test short
      (λ e. too_short_lem (settle interval_limit) e ∙ sym (too_short_lem (settle_with_nine interval_limit) e))
      (λ e.
      let was = long_enough (settle_with_nine interval_limit) e in
      long_enough (settle interval_limit) e ∙ keeps interval_limit t (λ k. n (ap (λ j. (verdict j).number) was ∙ k)) ∙ sym was)

  sets_kept : NotNine (call_with_nine t sets work) → check_sets t sets work ≡ sets_left_by sets (call_with_nine t sets work)
  unfolding check_sets
  sets_kept n = ap (sets_left_by sets) (call_keeps n)

  -- what was 9 was worked too
  work_kept : check_work t sets work ≡ work_left_by work (call_with_nine t sets work)
  unfolding check_work text_by
  work_kept =
      by_test short
      (λ e. ap (work_left_by work) (too_short_lem (settle interval_limit) e ∙ sym (too_short_lem (settle_with_nine interval_limit) e)))
      (λ e. ap (work_left_by work) (long_enough (settle interval_limit) e) ∙ same (read t) ∙ sym (ap (work_left_by work) (long_enough (settle_with_nine interval_limit) e)))
    where
      same : (r : Read) → work_left_by work (judge (check interval_limit) r) ≡ work_left_by work (judge (check_with_nine interval_limit) r)
      same (sheet ls) = refl
      same (no_sheet k n) = refl

-- ---- the listing, and parts for sheets that pass: findings are numbered from 20 on, what reading refuses below

finds_from_20 : (k : ℕ) → Among k check_finds → ltb k zero_divisor ≡ false
finds_from_20 k h = among_all (λ k. ltb k zero_divisor ≡ false) k check_finds (refl, (refl, tt)) h

refuses_below_20 : (k : ℕ) → Among k reading_refuses → ltb k zero_divisor ≡ true
refuses_below_20 k h = among_all (λ k. ltb k zero_divisor ≡ true) k reading_refuses (refl, (refl, (refl, (refl, tt)))) h

outcome_said : (ls : List Line) (o : Outcome Bands) → NumberedOutcome check_finds o → outcome_text ls o ≡ outcome_with_nine ls o
unfolding outcome_text
outcome_said ls (done B) h = refl
outcome_said ls (stopped k l B) h = rw (finds_from_20 k h)

outcome_part : (part : List Line → List Set → Composed) (ls : List Line) (o : Outcome Bands) → NumberedOutcome check_finds o → by_check part ls o ≡ by_check_with_nine part ls o
outcome_part part ls (done B) h = refl
outcome_part part ls (stopped k l B) h = rw (finds_from_20 k h)

module _ (t : List ℕ) (n : NotNine (text_with_nine interval_limit t)) where
  -- the outcome of the lines is the same
  same_outcome : (ls : List Line) → read t ≡ sheet ls → check interval_limit ls ≡ check_with_nine interval_limit ls
  unfolding text_by
  same_outcome ls e = go (alters interval_limit ls)
    where
      go : (check_with_nine interval_limit ls ≡ check interval_limit ls) ⊎ NineAt interval_limit ls → check interval_limit ls ≡ check_with_nine interval_limit ls
      go (inl h) = sym h
      go (inr w) = absurd (n (ap (λ r. (verdict (judge (check_with_nine interval_limit) r)).number) e ∙ ap (λ o. (verdict (worked (length ls) o)).number) w.came))

  listing_keeps : listing t ≡ listing_with_nine (read t)
  unfolding listing read_text
  listing_keeps = go (read t) (read_numbered t) refl
    where
      go : (r : Read) → NumberedRead r → read t ≡ r → read_text r ≡ listing_with_nine r
      go (sheet ls) h e = outcome_said ls (check interval_limit ls) (check_numbered interval_limit ls) ∙ ap (outcome_with_nine ls) (same_outcome ls e)
      go (no_sheet k l) h e = rw (refuses_below_20 k h)

  part_keeps : (part : List Line → List Set → Composed) → if_passed part t ≡ part_with_nine part (read t)
  unfolding if_passed
  part_keeps part = go (read t) refl
    where
      go : (r : Read) → read t ≡ r → by_read part r ≡ part_with_nine part r
      go (sheet ls) e = outcome_part part ls (check interval_limit ls) (check_numbered interval_limit ls) ∙ ap (by_check_with_nine part ls) (same_outcome ls e)
      go (no_sheet k l) e = refl

pub other_than_nine : OtherThanNine
other_than_nine = record {
  alters = alters;
  text_alters = text_alters;
  keeps = keeps;
  call_keeps = call_keeps;
  sets_kept = sets_kept;
  work_kept = work_kept;
  listing_keeps = listing_keeps;
  part_keeps = λ part t n. part_keeps t n part;
  no_nine = text_not_nine;
}
