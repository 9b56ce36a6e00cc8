-- The marks after the last line are set for just the registers that the listing shows. Assumes nothing.
use lib.Dec.{eqb}
use lib.ListN.{length, get_or, set, replicate, length-set, length-replicate}
use lib.Seq.{get_or-set_same, get_or-set_other}
use mathlib.Core.Path.{◌≡◌, refl, sym, ap, ◌∙◌, subst}
use mathlib.Core.Bool.{Bool, true, false, ◌||◌}
use mathlib.Core.List.{List, [], ◌∷◌}
use Prim.Native.Nat.{ℕ, ◌<◌}
use borrow.Author.Tests.{eqb-true, eqb-false}
use Rattle.std.specs.Borrow.{Bor}
use Rattle.std.specs.Prelude.{Result, Ok, Err}
use Rattle.meaning.specs.Outcome.{Res, ok, stop}
use Rattle.meaning.specs.Sheet.{registers, put, hold, Line, Form, FineLine, FineAct, input, act}
use Rattle.meaning.specs.Reading.{Got, got, bad, arg, tree, read_line}
use Rattle.meaning.specs.Text.{lines, sheet, read}
use Rattle.meaning.specs.Listing.{wrote_to, listed}
use Rattle.laws.proofs.Integers.{by_test}
use Rattle.laws.proofs.All.{all_get, all_replicate}
use Rattle.laws.proofs.Fine.{read_line_fine}
use Rattle.laws.proofs.Work.{not_stop}
use Rattle.refusals.specs.declared.Cause.{Cause}
use Rattle.interval.specs.declared.Interval.{Interval}
use Rattle.lines.specs.Answer.{put_of, line_from}
use Rattle.lines.specs.declared.Line.{Line as Found}
use Rattle.lines.specs.declared.Line.TheVariants.{In, Put, Hold}
use Rattle.sheet.specs.Judging.{IsSheet}
use Rattle.sheet.proofs.Walk.{Each, Next, each_sheet, each_next}
use Rattle.listed.specs.Marks.{mark_line, marks_after, marks_of, Readable}

pub length_mark : (l : Res Line) (m : List Bool) → length (mark_line l m) ≡ length m
unfolding mark_line
length_mark (ok (input r lo hi)) m = length-set m r true
length_mark (ok (act (put r e))) m = length-set m r true
length_mark (ok (act (hold r lo hi))) m = refl
length_mark (stop k) m = refl

-- ---- one line

set_mark : (m : List Bool) (r q : ℕ) → r < length m → get_or (set m q true) r false ≡ (eqb r q || get_or m r false)
set_mark m r q h =
    by_test (eqb r q)
    (λ t. ap (λ (k : ℕ). get_or (set m k true) r false) (sym (eqb-true r q t)) ∙ get_or-set_same m r true false h ∙ ap (λ (b : Bool). b || get_or m r false) (sym t))
    (λ t. get_or-set_other m q r true false (eqb-false r q t) ∙ ap (λ (b : Bool). b || get_or m r false) (sym t))

mark_at : (l : Line) (m : List Bool) (r : ℕ) → r < length m → get_or (mark_line (ok l) m) r false ≡ (wrote_to r l || get_or m r false)
unfolding mark_line wrote_to
mark_at (input q lo hi) m r h = set_mark m r q h
mark_at (act (put q e)) m r h = set_mark m r q h
mark_at (act (hold q lo hi)) m r h = refl

-- ---- all lines

all_marked : (bs : List (List ℕ)) (ls : List Line) (m : List Bool) (r : ℕ) → Each bs ls → r < length m → get_or (marks_after bs m) r false ≡ (listed ls r || get_or m r false)
unfolding marks_after listed
all_marked [] [] m r e h = refl
all_marked [] (l ∷ ls) m r e h = absurd e
all_marked (b ∷ bs) [] m r e h = absurd e
all_marked (b ∷ bs) (l ∷ ls) m r e h =
    ap (λ (x : Res Line). get_or (marks_after bs (mark_line x m)) r false) e.0
    ∙ all_marked bs ls (mark_line (ok l) m) r e.1 (subst (λ (n : ℕ). r < n) (sym (length_mark (ok l) m)) h)
    ∙ ap (λ (b : Bool). listed ls r || b) (mark_at l m r h)
    ∙ turn (listed ls r) (wrote_to r l) (get_or m r false)
  where
    turn : (a b c : Bool) → (a || (b || c)) ≡ ((b || a) || c)
    turn true true c = refl
    turn true false c = refl
    turn false true c = refl
    turn false false c = refl

pub marks_listed : (t : List ℕ) {ls : List Line} → read t ≡ sheet ls → (r : ℕ) → r < registers → get_or (marks_of t) r false ≡ listed ls r
marks_listed t {ls} e r h =
    all_marked (lines t) ls (replicate registers false) r (each_sheet t e) (subst (λ (n : ℕ). r < n) (sym (length-replicate registers false)) h)
    ∙ ap (λ (b : Bool). listed ls r || b) (all_get (λ (b : Bool). b ≡ false) (replicate registers false) r false refl (all_replicate (λ (b : Bool). b ≡ false) registers false refl))
    ∙ plain (listed ls r)
  where
    plain : (b : Bool) → (b || false) ≡ b
    plain true = refl
    plain false = refl

-- ---- what the code does with the line that it read

-- a line that writes register r marks it
pub record Marks (s : List ℕ) (r : ℕ) : Type 0 where
  pub there : r < registers
  pub marked : (m : List Bool) → set m r true ≡ mark_line (read_line s) m

module _ (s : List ℕ) {l : Result Found Cause} (h : line_from l ≡ read_line s) (R : Readable s) where
  pub input_marks : {r : ℕ} {range : Interval} → l ≡ Ok (In r range) → Marks s r
  unfolding mark_line FineLine
  input_marks {r} {range} e =
      let k : read_line s ≡ ok (input r range.lo range.hi) = sym h ∙ ap line_from e in
      record { there = (read_line_fine s k).there; marked = λ m. ap (λ (x : Res Line). mark_line x m) (sym k) }

  pub put_marks : {r : ℕ} {form : Bor (List ℕ)} → l ≡ Ok (Put r form) → Marks s r
  unfolding mark_line FineLine FineAct
  put_marks {r} {form} e = go (arg tree 7 form.now) (sym h ∙ ap line_from e)
    where
      go : (g : Got Form) → read_line s ≡ put_of r g → Marks s r
      go (got f n) k = record { there = (read_line_fine s k).0; marked = λ m. ap (λ (x : Res Line). mark_line x m) (sym k) }
      go bad k = not_stop (sym k ∙ R.reads)

  pub hold_marks : {r : ℕ} {range : Interval} → l ≡ Ok (Hold r range) → (m : List Bool) → m ≡ mark_line (read_line s) m
  unfolding mark_line
  hold_marks e m = ap (λ (x : Res Line). mark_line x m) (sym (ap line_from e) ∙ h)

  pub refused_marks : {c : Cause} → l ≡ Err c → (m : List Bool) → m ≡ mark_line (read_line s) m
  unfolding mark_line
  refused_marks e m = ap (λ (x : Res Line). mark_line x m) (sym (ap line_from e) ∙ h)

-- ---- line by line: the lines that are left read as those of a sheet, and with them the marks are those of the text

pub record Marking (t : List ℕ) (bs : List (List ℕ)) (marks : List Bool) : Type 0 where
  pub left : List Line
  pub each : Each bs left
  pub marks_are : marks_after bs marks ≡ marks_of t

pub marking_start : (t : List ℕ) {n : ℕ} → IsSheet t n → Marking t (lines t) (replicate registers false)
marking_start t s = record { left = s.lines; each = each_sheet t s.reads; marks_are = refl }

module _ (t b : List ℕ) (bs : List (List ℕ)) (marks : List Bool) (g : Marking t (b ∷ bs) marks) where
  next : Next b bs g.left
  next = each_next b bs g.left g.each

  pub marking_readable : Readable b
  marking_readable = record { line = next.line; reads = next.reads_it }

  pub marking_next : {after : List Bool} → after ≡ mark_line (read_line b) marks → Marking t bs after
  unfolding marks_after
  marking_next a = record { left = next.left; each = next.each; marks_are = ap (marks_after bs) a ∙ g.marks_are }

pub marking_done : (t : List ℕ) (marks : List Bool) → Marking t [] marks → marks ≡ marks_of t
unfolding marks_after
marking_done t marks g = g.marks_are
