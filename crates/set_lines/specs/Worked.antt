-- What a line does to the registers' sets, in the words of `meaning`. Assumes nothing.
use Rattle.std.specs.Prelude.{Bool, cond, List, ℕ, Result, Ok, Err}
use Rattle.meaning.specs.Refusals.{hold_broken}
use Rattle.meaning.specs.Outcome.{Res, ok, stop, bind}
use Rattle.meaning.specs.Reading.{read_line}
use Rattle.meaning.specs.Check.{Bands, check_line, interval_limit}
use Rattle.refusals.specs.declared.Cause.{Cause}
use Rattle.refusals.specs.Numbers.{number_of}
use Rattle.set_values.specs.declared.registers.Registers.{Registers}
use Rattle.set_values.specs.Value.{bands_of}

-- the number of a hold: `held` says whether no value is outside
abbrev pub hold_number : Bool → ℕ
hold_number held = cond held 0 hold_broken

-- what a line does to the sets
unfoldable pub line_check : Bands → List ℕ → Res Bands
line_check B s = bind (read_line s) (check_line interval_limit B)

-- what a line leaves: the registers' sets, or the number of its trouble
abbrev pub line_left : Result (Unit {0}) Cause → Registers → Res Bands
line_left (Ok u) registers = ok (bands_of registers)
line_left (Err cause) registers = stop (number_of cause)
