-- What an answer says by numbers: nothing but success or a row's number, and of a call on a text its count, or the row's number and the line. Assumes nothing.
use Rattle.std.specs.Prelude.{ℕ, Result, Ok, Err}
use Rattle.meaning.specs.Run.{Verdict}
use Rattle.refusals.specs.declared.Cause.{Cause}
use Rattle.refusals.specs.declared.Trouble.{Trouble}
use Rattle.refusals.specs.declared.Trouble.TheVariants.{Refused, Stopped}
use Rattle.refusals.specs.Numbers.{number_of}

-- 0 for success, else the number of the row
abbrev pub code_of : {A : Type 0} → Result A Cause → ℕ
code_of (Ok a) = 0
code_of (Err cause) = number_of cause

-- how a call on a text ends
pub data Ending : Type 0 where
  success : ℕ → Ending
  stop : ℕ → ℕ → Ending
  refusal : ℕ → ℕ → Ending

-- an answer tells its ending, and no two answers have the same
abbrev pub ending_of : Result ℕ Trouble → Ending
ending_of (Ok n) = success n
ending_of (Err (Stopped cause line)) = stop (number_of cause) line
ending_of (Err (Refused cause line)) = refusal (number_of cause) line

-- a success has number 0, line 0 and its count, anything else its number and its line
abbrev pub verdict_of : Result ℕ Trouble → Verdict
verdict_of (Ok n) = record { number = 0; line = 0; count = n }
verdict_of (Err (Stopped cause line)) = record { number = number_of cause; line = line; count = 0 }
verdict_of (Err (Refused cause line)) = record { number = number_of cause; line = line; count = 0 }
