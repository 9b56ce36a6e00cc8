-- What the number of a verdict says: which numbers reading, run, check, page and listing can give. Of check and run 0 is success and nothing else, and 9 is none of the numbers (02, (v)). The theorem is
-- `verdicts` of laws/proofs/Troubles.antt. Assumes nothing.
use Rattle.std.specs.Prelude.{ℤ, length, ◌≡◌, true, List, [], ◌∷◌, ◌++◌, ℕ}
use Rattle.meaning.specs.Refusals.{too_short, no_room, misshapen, ungrammatical, far_literal, misplaced, crowded, zero_divisor, hold_broken, outside_in}
use Rattle.meaning.specs.Bytes.{bytes}
use Rattle.meaning.specs.Outcome.{done, stopped}
use Rattle.meaning.specs.Sheet.{registers, Line}
use Rattle.meaning.specs.Text.{among, sheet, no_sheet, read}
use Rattle.meaning.specs.Run.{worked, verdict, run_call}
use Rattle.meaning.specs.Check.{Bands, check, interval_limit, check_call}
use Rattle.meaning.specs.Composing.{text_returns}
use Rattle.meaning.specs.Listing.{trouble_line, pass_line, register_lines, listing, listing_part}
use Rattle.meaning.specs.Page.{page}

-- k is one of the numbers
abbrev pub Among : ℕ → List ℕ → Type 0
Among k ns = among k ns ≡ true

-- reading: 5, 6, 7, 8
abbrev pub reading_refuses : List ℕ
reading_refuses = misshapen ∷ ungrammatical ∷ far_literal ∷ misplaced ∷ []

-- the check's findings: 20, 21
abbrev pub check_finds : List ℕ
check_finds = zero_divisor ∷ hold_broken ∷ []

-- what stops a run: 20, 21, 22
abbrev pub run_stops : List ℕ
run_stops = zero_divisor ∷ hold_broken ∷ outside_in ∷ []

-- what the listing of a text says, by what the check comes to: a pass, or one line with the number and line of a finding or of a refusal
pub data Says (t : List ℕ) : Type 0 where
  passes : (ls : List Line) (B : Bands) → read t ≡ sheet ls → check interval_limit ls ≡ done B → listing t ≡ pass_line (length ls) ++ register_lines ls B.sets 0 registers → Says t
  stops : (ls : List Line) (k l : ℕ) (B : Bands) → read t ≡ sheet ls → check interval_limit ls ≡ stopped k l B → Among k check_finds → listing t ≡ trouble_line (bytes "stop ") k l → Says t
  refuses : (k l : ℕ) → read t ≡ no_sheet k l → Among k reading_refuses → listing t ≡ trouble_line (bytes "refused ") k l → Says t

pub record Verdicts : Type 0 where
  -- a check that returns 0 has passed, and its sets are those that it came to
  pub zero_passes : (t : List ℕ) (sets work : List ℤ) → (verdict (check_call t sets work)).number ≡ 0 → (n : ℕ) × (B : Bands) × (check_call t sets work ≡ worked n (done B))
  -- a run that returns 0 is done
  pub zero_done : (t : List ℕ) (lent : List ℤ) → (verdict (run_call t lent)).number ≡ 0 → (n : ℕ) × (s : List ℤ) × (run_call t lent ≡ worked n (done s))
  -- the numbers of each call
  pub reading_numbers : (t : List ℕ) (k n : ℕ) → read t ≡ no_sheet k n → Among k reading_refuses
  pub run_numbers : (t : List ℕ) (lent : List ℤ) → Among (verdict (run_call t lent)).number (0 ∷ too_short ∷ reading_refuses ++ run_stops)
  pub check_numbers : (t : List ℕ) (sets work : List ℤ) → Among (verdict (check_call t sets work)).number (0 ∷ too_short ∷ reading_refuses ++ check_finds)
  pub page_numbers : (t out : List ℕ) → Among (text_returns (page t) out).number (0 ∷ no_room ∷ reading_refuses ++ check_finds)
  pub listing_numbers : (t out : List ℕ) → Among (text_returns (listing_part t) out).number (0 ∷ no_room ∷ [])
  pub listing_says : (t : List ℕ) → Says t
  -- 9 occurs no longer
  pub check_no_nine : (t : List ℕ) (sets work : List ℤ) → (verdict (check_call t sets work)).number ≡ crowded → ⊥
  pub page_no_nine : (t out : List ℕ) → (text_returns (page t) out).number ≡ crowded → ⊥
  pub listing_no_nine : (t : List ℕ) (l : ℕ) → listing t ≡ trouble_line (bytes "refused ") crowded l → ⊥
