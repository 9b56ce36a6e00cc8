-- Parts that write text (02, (i), "Here and in each later part that writes text"): what a part makes of its input, what its call then returns, and what it leaves in its output. Assumes nothing.
use Rattle.std.specs.Prelude.{ltb, length, ◌≡◌, cond, List, ℕ}
use Rattle.meaning.specs.Refusals.{no_room}
use Rattle.meaning.specs.Lists.{over}
use Rattle.meaning.specs.Outcome.{Outcome, done, stopped}
use Rattle.meaning.specs.NumberIntervals.{Set}
use Rattle.meaning.specs.Sheet.{Line}
use Rattle.meaning.specs.Text.{Read, sheet, no_sheet, read}
use Rattle.meaning.specs.Run.{Verdict, verdict}
use Rattle.meaning.specs.Check.{Bands, check, check_text, interval_limit}

-- a text to be written, or a finding or refusal with its number and its line
pub data Composed : Type 0 where
  text : List ℕ → Composed
  finding : ℕ → ℕ → Composed
  refusal : ℕ → ℕ → Composed

-- success returns how many bytes were written; a short output is 4 (line 0), judged last
unfoldable pub text_returns : Composed → List ℕ → Verdict
text_returns (text x) out = cond (ltb (length out) (length x)) (record { number = no_room; line = 0; count = 0 }) (record { number = 0; line = 0; count = length x })
text_returns (finding k l) out = record { number = k; line = l; count = 0 }
text_returns (refusal k l) out = record { number = k; line = l; count = 0 }

-- the text at the front of the output and the rest as lent; a refusal or finding leaves the output untouched
unfoldable pub text_leaves : Composed → List ℕ → List ℕ
text_leaves (text x) out = cond (ltb (length out) (length x)) out (over x out)
text_leaves (finding k l) out = out
text_leaves (refusal k l) out = out

-- ---- a part for sheets that pass: one that does not answers as the check does

-- what stops the check at a line is a finding
abbrev pub by_check : (List Line → List Set → Composed) → List Line → Outcome Bands → Composed
by_check part ls (done B) = part ls B.sets
by_check part ls (stopped k l B) = finding k l

abbrev pub by_read : (List Line → List Set → Composed) → Read → Composed
by_read part (sheet ls) = by_check part ls (check interval_limit ls)
by_read part (no_sheet k l) = refusal k l

-- `part` is what is made of the lines and of the sets that the check gave
unfoldable pub if_passed : (List Line → List Set → Composed) → List ℕ → Composed
if_passed part t = by_read part (read t)

-- what such a call returns for a sheet that does not pass is what the check returns, and its output is as lent; the theorem is `as_check` of laws/proofs/Composing.antt
abbrev pub AsCheck : Type 0
AsCheck =
    (part : List Line → List Set → Composed) (t out : List ℕ) → ((verdict (check_text interval_limit t)).number ≡ 0 → ⊥)
    → (text_returns (if_passed part t) out ≡ verdict (check_text interval_limit t)) × (text_leaves (if_passed part t) out ≡ out)
