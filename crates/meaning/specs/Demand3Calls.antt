-- Demand 3 for the calls: the same statement about what `check` and `run` return and leave in their slices, wherever these are long enough and whatever else they held.
-- The theorem is `demand3_calls` of laws/proofs/Demand3Calls.antt. Assumes nothing.
use Rattle.std.specs.Prelude.{ℤ, pos, get_or, length, take, ◌≡◌, List, ℕ, ◌<◌, ◌≤◌}
use Rattle.meaning.specs.Outcome.{done}
use Rattle.meaning.specs.NumberIntervals.{◌∈◌}
use Rattle.meaning.specs.Sheet.{registers, Line}
use Rattle.meaning.specs.Text.{cut, sheet, read}
use Rattle.meaning.specs.Run.{Verdict, verdict, run_call, run_lent, state_after, LentInside}
use Rattle.meaning.specs.Demand3.{Numbers}
use Rattle.meaning.specs.Check.{sets_need, work_need, check_call, check_sets, set_in}

-- what a pass of n lines, or a run of n lines that is done, returns
abbrev pub fulfilled : ℕ → Verdict
fulfilled n = record { number = 0; line = 0; count = n }

-- the slices lent to the check are long enough
pub record Enough (sets work : List ℤ) : Type 0 where
  pub sets_long : sets_need ≤ length sets
  pub work_long : work_need ≤ length work

-- after line m of t, which reads as ls
pub record CallsSafeAt (lent : List ℤ) (t : List ℕ) (ls : List Line) (m : ℕ) : Type 0 where
  -- one number a register
  pub state : List ℤ
  pub sized : length state ≡ registers
  pub reaches : state_after lent ls m ≡ done state
  -- the check passes the cut sheet, and in the numbers that it leaves each register's number is in the register's set
  pub passes : (sets work : List ℤ) → Enough sets work → verdict (check_call (cut t m) sets work) ≡ fulfilled m
  pub members : (sets work : List ℤ) → Enough sets work → (r : ℕ) → r < registers → get_or state r (pos 0) ∈ set_in (check_sets (cut t m) sets work) r
  -- the run of the cut sheet is done, and leaves that state
  pub runs : verdict (run_call (cut t m) lent) ≡ fulfilled m
  pub leaves : take registers (run_lent (cut t m) lent) ≡ state

-- `sets` and `work` were lent to the check that passed t
pub record CallsSafe (lent : List ℤ) (t : List ℕ) (sets work : List ℤ) (n : ℕ) : Type 0 where
  pub lines : List Line
  pub reads : read t ≡ sheet lines
  pub count : length lines ≡ n
  -- before the first line, and after each line
  pub each : (m : ℕ) → m ≤ n → CallsSafeAt lent t lines m
  -- the sheet cut after its last line is the sheet
  pub whole : cut t n ≡ t
  -- the run is done, with the state after the last line, and each register's number is in the set that the check left
  pub state : List ℤ
  pub last : state_after lent lines n ≡ done state
  pub ends : verdict (run_call t lent) ≡ fulfilled n
  pub leaves : take registers (run_lent t lent) ≡ state
  pub members : (r : ℕ) → r < registers → get_or state r (pos 0) ∈ set_in (check_sets t sets work) r

-- for every text that the check passes, and every number left in a register, if inside the register's `in` line where it has one
abbrev pub CallsSafety : Type 0
CallsSafety =
    (t : List ℕ) (sets work lent : List ℤ) (n : ℕ) → Enough sets work → Numbers lent → verdict (check_call t sets work) ≡ fulfilled n → LentInside lent t
    → CallsSafe lent t sets work n
