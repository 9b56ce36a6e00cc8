-- Demand 3 (01, "What demand 3 compares"): one statement about all the lines of a sheet that the check passes. The theorem is `demand3` of laws/proofs/Demand3.antt. Assumes nothing.
use Rattle.std.specs.Prelude.{ℤ, pos, get_or, length, ◌≡◌, List, [], ℕ, ◌<◌, ◌≤◌}
use Rattle.meaning.specs.Lists.{All}
use Rattle.meaning.specs.Number.{InRange}
use Rattle.meaning.specs.Outcome.{done}
use Rattle.meaning.specs.NumberIntervals.{Set, ◌∈◌}
use Rattle.meaning.specs.Sheet.{registers, Line}
use Rattle.meaning.specs.Text.{cut, sheet, read}
use Rattle.meaning.specs.Run.{worked, start_numbers, run_text, state_after, LentInside}
use Rattle.meaning.specs.Check.{Bands, check_text}

-- each register's number is in the register's set
pub record Members (state : List ℤ) (sets : List Set) : Type 0 where
  pub member : (r : ℕ) → r < registers → get_or state r (pos 0) ∈ get_or sets r []

-- after line n: the check passes the sheet cut there, the plain run has come past that line, in the whole sheet as in the cut one, and each number is in the set given there
pub record SafeAt (limit : ℕ) (lent : List ℤ) (t : List ℕ) (ls : List Line) (n : ℕ) : Type 0 where
  pub bands : Bands
  pub state : List ℤ
  pub passes : check_text limit (cut t n) ≡ worked n (done bands)
  pub reaches : state_after lent ls n ≡ done state
  pub runs : run_text lent (cut t n) ≡ worked n (done state)
  pub members : Members state bands.sets

-- the check passes t, which has n lines, with `bands`
pub record Safe (limit : ℕ) (lent : List ℤ) (t : List ℕ) (n : ℕ) (bands : Bands) : Type 0 where
  -- what t reads as
  pub lines : List Line
  pub reads : read t ≡ sheet lines
  pub count : length lines ≡ n
  -- before the first line and after each line
  pub each : (m : ℕ) → m ≤ n → SafeAt limit lent t lines m
  -- the sheet cut after its last line is the sheet
  pub whole : cut t n ≡ t
  -- the run is done, with the state after the last line
  pub state : List ℤ
  pub ends : run_text lent t ≡ worked n (done state)
  pub last : state_after lent lines n ≡ done state
  pub members : Members state bands.sets

-- what a run is lent: a number for each register
pub record Numbers (lent : List ℤ) : Type 0 where
  pub enough : registers ≤ length lent
  pub ranged : All InRange (start_numbers lent)

-- for every text that the check passes, and every number left in a register, if inside the register's `in` line where it has one
abbrev pub Safety : Type 0
Safety = (limit : ℕ) (t : List ℕ) (n : ℕ) (bands : Bands) (lent : List ℤ) → check_text limit t ≡ worked n (done bands) → Numbers lent → LentInside lent t → Safe limit lent t n bands
