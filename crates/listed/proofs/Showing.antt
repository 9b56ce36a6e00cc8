-- What a text that passes shows, and its pieces: as the lines and the sets of the check have them, and written one after the other. Assumes nothing.
use lib.ListN.{get_or}
use mathlib.Core.Path.{◌≡◌, refl, sym, ap, ◌∙◌}
use mathlib.Core.Bool.{Bool, true, false, cond}
use mathlib.Core.List.{List, [], ◌++◌}
use Prim.Native.Nat.{ℕ, zero, suc, ◌+◌, ◌-◌, ◌≤◌, ◌<◌}
use native.Mathlib.Omega.{arith}
use native.Mathlib.Numerals.{add-one}
use Rattle.std.specs.Prelude.{Option, None, Ok}
use Rattle.meaning.specs.NumberIntervals.{Set}
use Rattle.meaning.specs.Sheet.{registers}
use Rattle.meaning.specs.Text.{read}
use Rattle.meaning.specs.Check.{at, interval_limit, check, check_text, text_by}
use Rattle.meaning.specs.Listing.{listed}
use Rattle.laws.proofs.Work.{judge_worked}
use Rattle.writer.specs.declared.Writer.{Writer}
use Rattle.writer.specs.Written.{Fits, Appends}
use Rattle.writer.proofs.Partly.{Partly, partly_as, partly_fits, partly_next, partly_done}
use Rattle.sheet.specs.Judging.{IsSheet}
use Rattle.set_values.specs.Value.{sets_of, bands_of}
use Rattle.sheet_check.specs.Checked.{Checked}
use Rattle.sheet_check.specs.declared.Passed.{Passed}
use Rattle.listed.specs.declared.Shown.{Shown}
use Rattle.listed.specs.Marks.{marks_of}
use Rattle.listed.specs.Showing.{if_shown, shown, piece, pieces, whole, Shows}
use Rattle.listed.proofs.Marks.{marks_listed}

-- ---- a text that passes

module _ (t : List ℕ) (p : Passed) (e : Checked (Ok p) (check_text interval_limit t)) where
  pub passed_sheet : IsSheet t p.count
  unfolding text_by
  passed_sheet = let w = judge_worked (check interval_limit) (read t) e in record { lines = w.lines; reads = w.reads; count = w.count }

  pub passed_shows : {m : List Bool} → m ≡ marks_of t → Shows t (record { count = p.count; marks = m; registers = p.registers })
  unfolding text_by
  passed_shows {m} h =
      let w = judge_worked (check interval_limit) (read t) e in
      record {
        lines = w.lines;
        bands = bands_of p.registers;
        reads = w.reads;
        passes = w.gives;
        counts = w.count;
        shows = λ r k. ap (λ (b : Bool). if_shown b (at (sets_of p.registers) r)) (ap (λ (m : List Bool). get_or m r false) h ∙ marks_listed t w.reads r k);
      }

-- ---- its pieces are those of the lines and the sets

piece_shown : {A : Type 0} (make : ℕ → Set → List A) (r : ℕ) (is : Bool) (s : Set) → piece make r (if_shown is s) ≡ cond is (make r s) []
piece_shown make r true s = refl
piece_shown make r false s = refl

module _ {A : Type 0} {t : List ℕ} {s : Shown} (k : Shows t s) (make : ℕ → Set → List A) (all : ℕ → ℕ → List A) (none : (r : ℕ) → all r 0 ≡ [])
    (more : (r n : ℕ) → all r (suc n) ≡ cond (listed k.lines r) (make r (at k.bands.sets r)) [] ++ all (suc r) n) where
  pieces_are : (n r : ℕ) → r + n ≤ registers → pieces make s r n ≡ all r n
  unfolding pieces
  pieces_are zero r h = sym (none r)
  pieces_are (suc n) r h =
      let e = pieces_are n (suc r) (omega arith) in
      let p = ap (piece make r) (k.shows r (omega arith)) ∙ piece_shown make r (listed k.lines r) (at k.bands.sets r) in
      (λ i. p i ++ e i) ∙ sym (more r n)

  pub whole_is : whole make s ≡ all 0 registers
  whole_is = pieces_are registers 0 (omega arith)

-- ---- one after the other

module _ {A : Type 0} (make : ℕ → Set → List A) (s : Shown) (r : ℕ) where
  pub pieces_step : r < registers → pieces make s r (registers - r) ≡ piece make r (shown s r) ++ pieces make s (r + 1) (registers - (r + 1))
  unfolding pieces
  pieces_step h =
      let e : registers - r ≡ suc (registers - (r + 1)) = omega arith in
      ap (pieces make s r) e ∙ ap (λ (q : ℕ). piece make r (shown s r) ++ pieces make s q (registers - (r + 1))) (sym (add-one r))

  pub pieces_none : registers ≤ r → pieces make s r (registers - r) ≡ []
  unfolding pieces
  pieces_none h = let e : registers - r ≡ 0 = omega arith in ap (pieces make s r) e

  -- with the pieces of the registers below r written
  abbrev pub Below : Writer A → Writer A → Type 0
  Below new old = Partly (whole make s) (pieces make s r (registers - r)) new old

  module _ {new old : Writer A} (p : Below new old) where
    pub all_below : registers ≤ r → Appends (whole make s) new old
    all_below h = partly_done (partly_as (pieces_none h) p)

    module _ (h : r < registers) {o : Option Set} (e : o ≡ shown s r) where
      turned : Partly (whole make s) (piece make r o ++ pieces make s (r + 1) (registers - (r + 1))) new old
      turned = partly_as (pieces_step h ∙ ap (λ (o : Option Set). piece make r o ++ pieces make s (r + 1) (registers - (r + 1))) (sym e)) p

      pub piece_fits : Fits (whole make s) old → Fits (piece make r o) new
      piece_fits f = partly_fits (piece make r o) (pieces make s (r + 1) (registers - (r + 1))) turned f

      pub piece_next : {n : Writer A} → Appends (piece make r o) n new → Partly (whole make s) (pieces make s (r + 1) (registers - (r + 1))) n old
      piece_next w = partly_next (piece make r o) (pieces make s (r + 1) (registers - (r + 1))) turned w

    pub piece_none : r < registers → None ≡ shown s r → Partly (whole make s) (pieces make s (r + 1) (registers - (r + 1))) new old
    piece_none h e = turned h e
