-- What each answer of the code says, in the words of `meaning`. Assumes nothing.
use Rattle.std.specs.Prelude.{length, ◌≡◌, List, ℕ, Result}
use Rattle.meaning.specs.Text.{Read, sheet, no_sheet, read}
use Rattle.meaning.specs.Run.{Verdict}
use Rattle.refusals.specs.declared.Trouble.{Trouble}
use Rattle.refusals.specs.Endings.{Ending, success, refusal, ending_of, verdict_of}

-- what reading a text comes to: its number and line, or the count of its lines
abbrev pub read_verdict : Read → Verdict
read_verdict (sheet ls) = record { number = 0; line = 0; count = length ls }
read_verdict (no_sheet k n) = record { number = k; line = n; count = 0 }

-- how the answer that says so ends
abbrev pub judgement_for : Read → Ending
judgement_for (sheet ls) = success (length ls)
judgement_for (no_sheet k n) = refusal k n

-- a text judged: what the answer says, and that its case goes by it
pub record Judges (t : List ℕ) (r : Result ℕ Trouble) : Type 0 where
  pub verdict_is : verdict_of r ≡ read_verdict (read t)
  pub answer_is : ending_of r ≡ judgement_for (read t)
