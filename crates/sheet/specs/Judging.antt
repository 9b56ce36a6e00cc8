-- What is remembered of the lines so far, as the code keeps it, and what a text that is a sheet reads as. Assumes nothing.
use Rattle.std.specs.Prelude.{length, get_or, ◌≡◌, ◌<◌, false, List, ℕ, Result, Ok, Err}
use Rattle.meaning.specs.Outcome.{Res, ok, stop}
use Rattle.meaning.specs.Sheet.{registers, Line}
use Rattle.meaning.specs.Text.{Seen, among, Taken, sheet, read}
use Rattle.refusals.specs.declared.Cause.{Cause}
use Rattle.refusals.specs.Numbers.{number_of}
use Rattle.sheet.specs.declared.Seen.{Seen as Kept}

-- the text reads as a sheet of n lines
pub record IsSheet (t : List ℕ) (n : ℕ) : Type 0 where
  pub lines : List Line
  pub reads : read t ≡ sheet lines
  pub count : length lines ≡ n

-- the code keeps of the lines what was seen of them: a register is marked where it has an `in`
pub record Notes (kept : Kept) (seen : Seen) : Type 0 where
  pub size : length kept.taken ≡ registers
  pub other : kept.other ≡ seen.other
  pub each : (r : ℕ) → r < registers → get_or kept.taken r false ≡ among r seen.taken

-- one more line: it is taken, and what was seen with it is kept, or it is refused by its number
abbrev pub Reads : Result (Unit {0}) Cause → Kept → Res Taken → Type 0
Reads (Ok u) kept r = (t : Taken) × (r ≡ ok t) × Notes kept t.seen
Reads (Err cause) kept r = r ≡ stop (number_of cause)
