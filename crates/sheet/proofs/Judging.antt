-- Reading the lines in order, with the registers of the `in` lines in an array. Assumes nothing.
use mathlib.Core.Path.{◌≡◌, refl, sym, ap, ◌∙◌}
use mathlib.Core.Bool.{Bool, true, false, ◌||◌}
use mathlib.Core.Logic.{◌⊎◌, inl, inr}
use mathlib.Core.List.{List, [], ◌∷◌}
use Prim.Native.Nat.{ℕ, zero, suc, ◌+◌, ◌≤◌, ◌<◌}
use native.Mathlib.Omega.{arith}
use native.Mathlib.Nat.{add-zero, zero-add}
use native.Mathlib.Numerals.{add-one}
use lib.Dec.{eqb}
use lib.ListN.{length, get_or, set, replicate, length-set, length-replicate}
use lib.Seq.{get_or-set_same, get_or-set_other}
use borrow.Author.Tests.{eqb-true, eqb-false}
use Rattle.std.specs.Borrow.{Bor}
use Rattle.std.specs.Prelude.{Result, Ok, Err}
use Rattle.meaning.specs.Outcome.{ok, stop, bind}
use Rattle.meaning.specs.Sheet.{registers, Line as Form, Act, put, hold, input, act, FineLine}
use Rattle.meaning.specs.Reading.{read_line}
use Rattle.meaning.specs.Text.{split_lines, lines, Seen, nothing_seen, among, admit, Read, sheet, no_sheet, prepend, read_one, read_lines, read, shaped}
use Rattle.laws.proofs.Integers.{by_test}
use Rattle.laws.proofs.Fine.{read_line_fine}
use Rattle.refusals.specs.declared.Cause.{Cause}
use Rattle.refusals.specs.declared.Trouble.{Trouble}
use Rattle.refusals.specs.declared.Trouble.TheVariants.{Refused, Stopped}
use Rattle.meaning.specs.Bytes.{LF}
use Rattle.meaning.specs.Text.{Split, front}
use Rattle.sheet.proofs.Feeds.{split_here, split_more}
use Rattle.refusals.specs.Numbers.{number_of}
use Rattle.refusals.specs.Endings.{Ending, success, refusal, ending_of, verdict_of}
use Rattle.interval.specs.declared.Interval.{Interval}
use Rattle.lines.specs.Answer.{line_from}
use Rattle.lines.specs.declared.Line.{Line}
use Rattle.lines.specs.declared.Line.TheVariants.{In, Put, Hold}
use Rattle.lines.proofs.Lines.{put_reads}
use Rattle.sheet.specs.declared.Seen.{Seen as Kept}
use Rattle.sheet.specs.Answer.{judgement_for, read_verdict}
use Rattle.sheet.specs.Judging.{IsSheet, Notes, Reads}

-- ---- one line

pub line_stops : (b : List ℕ) {k : ℕ} → stop k ≡ read_line b → (before : Seen) → read_one before b ≡ stop k
unfolding read_one bind
line_stops b e before = rw (← e)

act_taken : (b : List ℕ) (kept : Kept) (before : Seen) → Notes kept before → (a : Act) → read_line b ≡ ok (act a) → Reads (Ok tt) (record { other = true; taken = kept.taken }) (read_one before b)
unfolding read_one bind admit
act_taken b kept before h a e = (record { line = act a; seen = record { other = true; taken = before.taken } }, rw e, record { size = h.size; other = refl; each = h.each })

-- a line that is read: `e` says what the code has of it
module _ (b : List ℕ) {l : Line} (el : line_from (Ok l) ≡ read_line b) where
  in_line : {r : ℕ} {range : Interval} → l ≡ In r range → read_line b ≡ ok (input r range.lo range.hi)
  in_line e = sym el ∙ ap (λ x. line_from (Ok x)) e

  -- an `in` line's register is there
  pub in_there : {r : ℕ} {range : Interval} → l ≡ In r range → r < registers
  unfolding FineLine
  in_there {r} {range} e = (read_line_fine b {l = input r range.lo range.hi} (in_line e)).there

  module _ (kept : Kept) (before : Seen) (h : Notes kept before) where
    module _ {r : ℕ} {range : Interval} (e : l ≡ In r range) where
      test_is : (before.other || among r before.taken) ≡ (kept.other || get_or kept.taken r false)
      test_is = sym (λ i. h.other i || h.each r (in_there e) i)

      pub in_misplaced : (kept.other || get_or kept.taken r false) ≡ true → read_one before b ≡ stop 8
      unfolding read_one bind admit
      in_misplaced t = rw (in_line e, test_is ∙ t)

      pub in_taken : kept.other ≡ false → get_or kept.taken r false ≡ false → Reads (Ok tt) (record { other = kept.other; taken = set kept.taken r true }) (read_one before b)
      unfolding read_one bind admit
      in_taken o t = (
        record { line = input r range.lo range.hi; seen = record { other = false; taken = r ∷ before.taken } },
        rw (in_line e, test_is, o, t),
        record {
          size = length-set kept.taken r true ∙ h.size;
          other = o;
          each = λ q k. by_test (eqb q r)
              (λ d. let n : q ≡ r = eqb-true q r d in rw (d, n) (get_or-set_same kept.taken r true false (let m = in_there e in omega (arith, h.size))))
              (λ d. let n : q ≡ r → ⊥ = eqb-false q r d in rw d (get_or-set_other kept.taken r q true false n ∙ h.each q k));
        },
      )

    pub act_read : ((r : ℕ) × (form : Bor (List ℕ)) × (l ≡ Put r form)) ⊎ ((r : ℕ) × (range : Interval) × (l ≡ Hold r range)) → Reads (Ok tt) (record { other = true; taken = kept.taken }) (read_one before b)
    act_read (inl p) = let x = put_reads b p.0 p.1.now (ap (λ x. line_from (Ok x)) (sym p.2) ∙ el) in act_taken b kept before h (put p.0 x.0) x.3
    act_read (inr p) = act_taken b kept before h (hold p.0 p.1.lo p.1.hi) (sym el ∙ ap (λ x. line_from (Ok x)) p.2)

-- ---- all of them

-- the judgement on what is left, with n lines before it
abbrev pub judgement_after : ℕ → Read → Ending
judgement_after n (sheet ls) = success (n + length ls)
judgement_after n (no_sheet k m) = refusal k m

-- with n lines passed: what is left to read is judged as the whole is
pub record Going (t : List ℕ) (kept : Kept) (n : ℕ) (rest : List (List ℕ)) : Type 0 where
  pub seen : Seen
  pub notes : Notes kept seen
  pub counted : n + length rest ≤ length t
  pub same : judgement_for (read_lines 1 nothing_seen (lines t)) ≡ judgement_after n (read_lines (n + 1) seen rest)

none_taken : (i q : ℕ) → get_or (replicate i false) q false ≡ false
none_taken zero q = refl
none_taken (suc i) zero = refl
none_taken (suc i) (suc q) = none_taken i q

judgement_start : (r : Read) → judgement_for r ≡ judgement_after 0 r
judgement_start (sheet ls) = rw (zero-add (length ls))
judgement_start (no_sheet k m) = refl

front_count : (b : ℕ) (ls : List (List ℕ)) (r : List ℕ) → length (front b ls r).lines ≡ length ls
front_count b [] r = refl
front_count b (l ∷ ls) r = refl

pub lines_count : (t : List ℕ) → length (lines t) ≤ length t
unfolding split_lines
lines_count [] = omega arith
lines_count (b ∷ t) = let r = lines_count t in by_test (eqb b LF) (λ e. omega (arith, ap (λ (x : Split). length x.lines) (split_here b t e))) (λ e. omega (arith, ap (λ (x : Split). length x.lines) (split_more b t e), front_count b (lines t) (split_lines t).rest))

pub going_start : (t : List ℕ) → Going t (record { other = false; taken = replicate registers false }) 0 (lines t)
going_start t = record {
  seen = nothing_seen;
  notes = record { size = length-replicate registers false; other = refl; each = λ q k. none_taken registers q };
  counted = omega (arith, lines_count t);
  same = judgement_start (read_lines 1 nothing_seen (lines t));
}

module _ (t : List ℕ) (kept : Kept) (n : ℕ) where
  pub going_done : Going t kept n [] → success n ≡ judgement_for (read_lines 1 nothing_seen (lines t))
  unfolding read_lines
  going_done g = sym (g.same ∙ rw (add-zero n))

  module _ (b : List ℕ) (bs : List (List ℕ)) (g : Going t kept n (b ∷ bs)) where
    pub going_stop : (kept' : Kept) {r : Result (Unit {0}) Cause} {x : Result ℕ Trouble} → (k : Cause) × (r ≡ Err k) × (x ≡ Err (Refused k (n + 1))) → Reads r kept' (read_one g.seen b)
        → ending_of x ≡ judgement_for (read_lines 1 nothing_seen (lines t))
    unfolding read_lines
    going_stop kept' e h = let p : read_one g.seen b ≡ stop (number_of e.0) = rw e.1 at h in rw e.2 (sym (g.same ∙ rw p))

    pub going_next : {kept' : Kept} → Reads (Ok tt) kept' (read_one g.seen b) → Going t kept' (n + 1) bs
    unfolding read_lines
    going_next {kept'} r = record {
      seen = r.0.seen;
      notes = r.2;
      counted = let c = g.counted in omega arith;
      same = g.same ∙ rw (r.1, add-one (n + 1)) (after_one r.0.line (read_lines (suc (n + 1)) r.0.seen bs));
    }
      where
        after_one : (x : Form) (y : Read) → judgement_after n (prepend x y) ≡ judgement_after (n + 1) y
        after_one x (sheet ls) = let e : n + suc (length ls) ≡ n + 1 + length ls = omega arith in rw e
        after_one x (no_sheet k m) = refl

-- ---- the whole text

module _ (s : List ℕ) {x : Bool} (ex : x ≡ shaped (split_lines s)) where
  pub read_shaped : x ≡ true → judgement_for (read_lines 1 nothing_seen (lines s)) ≡ judgement_for (read s)
  unfolding read
  read_shaped e = rw (sym ex ∙ e)

  pub read_unshaped : x ≡ false → refusal 5 0 ≡ judgement_for (read s)
  unfolding read
  read_unshaped e = rw (sym ex ∙ e)

-- the judgement has the verdict
pub judged_so : (r : Result ℕ Trouble) (x : Read) → ending_of r ≡ judgement_for x → verdict_of r ≡ read_verdict x
judged_so (Ok n) (sheet ls) e = let k : n ≡ length ls = cc in rw k
judged_so (Ok n) (no_sheet k m) e = absurd (let z : ⊥ = cc in z)
judged_so (Err (Stopped cause line)) (sheet ls) e = absurd (let z : ⊥ = cc in z)
judged_so (Err (Stopped cause line)) (no_sheet k m) e = absurd (let z : ⊥ = cc in z)
judged_so (Err (Refused cause line)) (sheet ls) e = absurd (let z : ⊥ = cc in z)
judged_so (Err (Refused cause line)) (no_sheet k m) e = let a : number_of cause ≡ k = cc in let b : line ≡ m = cc in rw (a, b)

-- ---- what a judgement says of the text

module _ (t : List ℕ) {r : Result ℕ Trouble} (er : ending_of r ≡ judgement_for (read t)) where
  pub fine_sheet : {n : ℕ} → r ≡ Ok n → IsSheet t n
  fine_sheet {n} e = go (read t) refl (sym er ∙ ap ending_of e)
    where
      go : (x : Read) → read t ≡ x → judgement_for x ≡ success n → IsSheet t n
      go (sheet ls) p q = record { lines = ls; reads = p; count = cc }
      go (no_sheet k m) p q = absurd (let z : ⊥ = cc in z)

  -- what is no sheet is refused
  pub refused_read : {trouble : Trouble} → r ≡ Err trouble → (cause : Cause) × (line : ℕ) × (trouble ≡ Refused cause line) × (read t ≡ no_sheet (number_of cause) line)
  refused_read {trouble} e = go trouble (read t) (sym (ap ending_of e) ∙ er)
    where
      go : (x : Trouble) (y : Read) → ending_of (Err x) ≡ judgement_for y → (cause : Cause) × (line : ℕ) × (x ≡ Refused cause line) × (y ≡ no_sheet (number_of cause) line)
      go (Refused cause line) (no_sheet k m) q = (cause, line, refl, cc)
      go (Refused cause line) (sheet ls) q = absurd (let z : ⊥ = cc in z)
      go (Stopped cause line) (no_sheet k m) q = absurd (let z : ⊥ = cc in z)
      go (Stopped cause line) (sheet ls) q = absurd (let z : ⊥ = cc in z)
