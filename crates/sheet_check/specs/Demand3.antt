-- Demand 3 for the calls, with their contracts put in: what `check` and `run` answer and leave in their slices, whatever else these held. A call is what its contract says of it:
-- `Called` for the check, `Ran` for the run. The theorem is `demand3` of proofs/Demand3.antt. Assumes nothing.
use Rattle.std.specs.Prelude.{ℤ, pos, get_or, length, take, ◌≡◌, List, ℕ, ◌<◌, ◌≤◌, Result, Ok}
use Rattle.meaning.specs.Outcome.{done}
use Rattle.meaning.specs.NumberIntervals.{◌∈◌}
use Rattle.meaning.specs.Sheet.{registers, Line}
use Rattle.meaning.specs.Text.{cut, sheet, read}
use Rattle.meaning.specs.Run.{state_after, LentInside}
use Rattle.meaning.specs.Check.{set_in}
use Rattle.meaning.specs.Demand3Calls.{Enough}
use Rattle.refusals.specs.declared.Trouble.{Trouble}
use Rattle.run.specs.Answer.{Ran}
use Rattle.sheet_check.specs.Answer.{Called}

-- after line m of t, which reads as ls
pub record SafeAfter (lent : List ℤ) (t : List ℕ) (ls : List Line) (m : ℕ) : Type 0 where
  -- one number a register
  pub state : List ℤ
  pub sized : length state ≡ registers
  pub reaches : state_after lent ls m ≡ done state
  -- the check passes the cut sheet, and in the numbers that it leaves each register's number is in the register's set
  pub passes : (sets work : List ℤ) (r : Result ℕ Trouble) (sets' work' : List ℤ) → Enough sets work → Called (cut t m) sets work r sets' work' → r ≡ Ok m
  pub members : (sets work : List ℤ) (r : Result ℕ Trouble) (sets' work' : List ℤ) → Enough sets work → Called (cut t m) sets work r sets' work'
      → (q : ℕ) → q < registers → get_or state q (pos 0) ∈ set_in sets' q
  -- the run of the cut sheet is done, and leaves that state
  pub runs : (r : Result ℕ Trouble) (lent' : List ℤ) → Ran (cut t m) lent r lent' → r ≡ Ok m
  pub leaves : (r : Result ℕ Trouble) (lent' : List ℤ) → Ran (cut t m) lent r lent' → take registers lent' ≡ state

-- `sets` is what the check that passed t left
pub record SafeCalls (lent : List ℤ) (t : List ℕ) (sets : List ℤ) (n : ℕ) : Type 0 where
  pub lines : List Line
  pub reads : read t ≡ sheet lines
  pub count : length lines ≡ n
  -- before the first line, and after each line
  pub each : (m : ℕ) → m ≤ n → SafeAfter lent t lines m
  -- the sheet cut after its last line is the sheet
  pub whole : cut t n ≡ t
  -- the run is done, with the state after the last line, and each register's number is in the set that the check left
  pub state : List ℤ
  pub last : state_after lent lines n ≡ done state
  pub ends : (r : Result ℕ Trouble) (lent' : List ℤ) → Ran t lent r lent' → r ≡ Ok n
  pub leaves : (r : Result ℕ Trouble) (lent' : List ℤ) → Ran t lent r lent' → take registers lent' ≡ state
  pub members : (q : ℕ) → q < registers → get_or state q (pos 0) ∈ set_in sets q

-- for every text that a call of the check passes, and every call of the run on it: whatever number was left in a register, if inside the register's `in` line where it has one.
-- That these numbers are from MIN to MAX is what the call of the run promises of its slice
abbrev pub Demand3 : Type 0
Demand3 =
    (t : List ℕ) (sets work sets' work' lent lent' : List ℤ) (n : ℕ) (r : Result ℕ Trouble) → Enough sets work → registers ≤ length lent → Called t sets work (Ok n) sets' work'
    → Ran t lent r lent' → LentInside lent t → SafeCalls lent t sets' n
