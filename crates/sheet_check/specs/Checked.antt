-- What the answer of a check says of what the check of the text comes to. Assumes nothing.
use Rattle.std.specs.Prelude.{ℤ, ◌≡◌, List, ℕ, Result, Ok, Err}
use Rattle.meaning.specs.Outcome.{done, stopped}
use Rattle.meaning.specs.Run.{Judged, refused, worked}
use Rattle.meaning.specs.Check.{Bands, layout}
use Rattle.refusals.specs.declared.Trouble.{Trouble}
use Rattle.refusals.specs.declared.Trouble.TheVariants.{Refused, Stopped}
use Rattle.refusals.specs.Numbers.{number_of}
use Rattle.set_values.specs.declared.registers.Registers.{Registers}
use Rattle.set_values.specs.Value.{sets_of, bands_of}
use Rattle.sheet_check.specs.declared.Passed.{Passed}

-- the lines and the registers' sets after the last one, or what stops a line, and which one, or what reading meets
abbrev pub Checked : Result Passed Trouble → Judged Bands → Type 0
Checked (Ok passed) x = x ≡ worked passed.count (done (bands_of passed.registers))
Checked (Err (Stopped cause line)) x = (n : ℕ) × (B : Bands) × (x ≡ worked n (stopped (number_of cause) line B))
Checked (Err (Refused cause line)) x = x ≡ refused (number_of cause) line

-- the same of a count, with the registers as they are left
abbrev pub passed : Result ℕ Trouble → Registers → Result Passed Trouble
passed (Ok count) registers = Ok (record { count = count; registers = registers })
passed (Err e) registers = Err e

-- the numbers that show the registers, on a pass alone
abbrev pub shown : Result ℕ Trouble → Registers → List ℤ → List ℤ
shown (Ok count) registers sets = layout (sets_of registers)
shown (Err e) registers sets = sets
