-- Request (v) of document 02: crowded sheets get an answer. Sheets with another result than 9 keep it, sets included, and so do their listing and every part for sheets that pass; what was 9 is something else, and
-- the lines before it give the same sets. The theorem is `other_than_nine` of laws/proofs/OtherThanNine.antt. Assumes nothing.
use Rattle.std.specs.Prelude.{ltb, ℤ, length, ◌≡◌, cond, ◌⊎◌, List, ◌∷◌, ◌++◌, ℕ, suc}
use Rattle.meaning.specs.Refusals.{crowded, zero_divisor}
use Rattle.meaning.specs.Bytes.{bytes}
use Rattle.meaning.specs.NumberIntervals.{Set}
use Rattle.meaning.specs.Outcome.{Outcome, ok, stop, done, stopped}
use Rattle.meaning.specs.Sheet.{Form, put, Line, act}
use Rattle.meaning.specs.Text.{Read, sheet, no_sheet, read}
use Rattle.meaning.specs.Run.{Judged, worked, verdict}
use Rattle.meaning.specs.Check.{Bands, Settling, check_by, check, text_by, check_text, interval_limit, call_by, check_call, sets_left_by, check_sets, work_left_by, check_work}
use Rattle.meaning.specs.Composing.{Composed, finding, refusal, if_passed}
use Rattle.meaning.specs.Listing.{trouble_line, outcome_text, listing}

-- ---- the check as it was: where a gap is closed now, it was 9

-- 20 if the flag is set, else 9 if the set has over `limit` intervals
unfoldable pub settle_with_nine : ℕ → Settling
settle_with_nine limit s flag = cond flag (stop zero_divisor) (cond (ltb limit (length s)) (stop crowded) (ok s))

abbrev pub check_with_nine : ℕ → List Line → Outcome Bands
check_with_nine limit = check_by (settle_with_nine limit)

abbrev pub text_with_nine : ℕ → List ℕ → Judged Bands
text_with_nine limit = text_by (settle_with_nine limit)

abbrev pub call_with_nine : List ℕ → List ℤ → List ℤ → Judged Bands
call_with_nine = call_by (settle_with_nine interval_limit)

-- numbers from 20 on were findings, those below refusals, in the listing and in every part for sheets that pass
abbrev pub word_with_nine : ℕ → List ℕ
word_with_nine k = cond (ltb k zero_divisor) (bytes "refused ") (bytes "stop ")

abbrev pub outcome_with_nine : List Line → Outcome Bands → List ℕ
outcome_with_nine ls (done B) = outcome_text ls (done B)
outcome_with_nine ls (stopped k l B) = trouble_line (word_with_nine k) k l

abbrev pub listing_with_nine : Read → List ℕ
listing_with_nine (sheet ls) = outcome_with_nine ls (check_with_nine interval_limit ls)
listing_with_nine (no_sheet k l) = trouble_line (word_with_nine k) k l

abbrev pub by_check_with_nine : (List Line → List Set → Composed) → List Line → Outcome Bands → Composed
by_check_with_nine part ls (done B) = part ls B.sets
by_check_with_nine part ls (stopped k l B) = cond (ltb k zero_divisor) (refusal k l) (finding k l)

abbrev pub part_with_nine : (List Line → List Set → Composed) → Read → Composed
part_with_nine part (sheet ls) = by_check_with_nine part ls (check_with_nine interval_limit ls)
part_with_nine part (no_sheet k l) = refusal k l

-- ---- what altered

-- the lines passed, as they do now and with the same sets, until a put that came to 9
pub record NineAt (limit : ℕ) (ls : List Line) : Type 0 where
  pub before : List Line
  pub register : ℕ
  pub form : Form
  pub after : List Line
  pub lines : ls ≡ before ++ act (put register form) ∷ after
  pub bands : Bands
  pub passed : check_with_nine limit before ≡ done bands
  pub passes : check limit before ≡ done bands
  pub came : check_with_nine limit ls ≡ stopped crowded (suc (length before)) bands

-- of a text
pub record TextNine (limit : ℕ) (t : List ℕ) : Type 0 where
  pub lines : List Line
  pub reads : read t ≡ sheet lines
  pub nine : NineAt limit lines
  pub came : text_with_nine limit t ≡ worked (length lines) (stopped crowded (suc (length nine.before)) nine.bands)

-- a number that is not 9
abbrev pub NotNine : Judged Bands → Type 0
NotNine j = (verdict j).number ≡ crowded → ⊥

pub record OtherThanNine : Type 0 where
  -- just what was 9 altered
  pub alters : (limit : ℕ) (ls : List Line) → (check_with_nine limit ls ≡ check limit ls) ⊎ NineAt limit ls
  pub text_alters : (limit : ℕ) (t : List ℕ) → (text_with_nine limit t ≡ check_text limit t) ⊎ TextNine limit t
  -- another result than 9 is kept
  pub keeps : (limit : ℕ) (t : List ℕ) → NotNine (text_with_nine limit t) → check_text limit t ≡ text_with_nine limit t
  pub call_keeps : (t : List ℕ) (sets work : List ℤ) → NotNine (call_with_nine t sets work) → check_call t sets work ≡ call_with_nine t sets work
  pub sets_kept : (t : List ℕ) (sets work : List ℤ) → NotNine (call_with_nine t sets work) → check_sets t sets work ≡ sets_left_by sets (call_with_nine t sets work)
  pub work_kept : (t : List ℕ) (sets work : List ℤ) → check_work t sets work ≡ work_left_by work (call_with_nine t sets work)
  pub listing_keeps : (t : List ℕ) → NotNine (text_with_nine interval_limit t) → listing t ≡ listing_with_nine (read t)
  pub part_keeps : (part : List Line → List Set → Composed) (t : List ℕ) → NotNine (text_with_nine interval_limit t) → if_passed part t ≡ part_with_nine part (read t)
  -- what was 9 is something else
  pub no_nine : (limit : ℕ) (t : List ℕ) → NotNine (check_text limit t)
