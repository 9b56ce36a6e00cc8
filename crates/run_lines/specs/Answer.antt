-- What each answer of the code says, in the words of `meaning`. Assumes nothing.
use Rattle.std.specs.Prelude.{ℤ, List, ◌≡◌, ℕ, Result, Ok, Err}
use Rattle.meaning.specs.Outcome.{Res, ok, stop, bind}
use Rattle.meaning.specs.Reading.{read_line}
use Rattle.meaning.specs.Run.{run_line}
use Rattle.refusals.specs.declared.Cause.{Cause}
use Rattle.refusals.specs.Numbers.{number_of}

-- what a line does to the state
unfoldable pub line_run : List ℤ → List ℤ → List ℕ → Res (List ℤ)
line_run lent state s = bind (read_line s) (run_line lent state)

-- the line's result: the state after it, or the number that stopped it
abbrev pub step_of : Result (Unit {0}) Cause → List ℤ → Res (List ℤ)
step_of (Ok u) state = ok state
step_of (Err cause) state = stop (number_of cause)

-- the state that a line leaves: a stop leaves the state before it
abbrev pub state_left : List ℤ → Res (List ℤ) → List ℤ
state_left state (ok s) = s
state_left state (stop k) = state

-- what the code says of a line: its step, and the state that it leaves
pub record Stepped (k : Result (Unit {0}) Cause) (after before : List ℤ) (r : Res (List ℤ)) : Type 0 where
  pub step : step_of k after ≡ r
  pub left : after ≡ state_left before r
