-- The run's answer and the numbers that it leaves are just the plain run's (01, "Plain run", as request (vi) of document 02 amends it): the state after the last line, or the first trouble with its line and the state before it.
-- The theorem is `plain_run` of laws/proofs/PlainRun.antt. Assumes nothing.
use Rattle.std.specs.Prelude.{ℤ, length, get_or, take, ◌≡◌, List, [], ℕ, suc, ◌<◌, ◌≤◌}
use Rattle.meaning.specs.Refusals.{outside_in}
use Rattle.meaning.specs.Lists.{over}
use Rattle.meaning.specs.Outcome.{stop, done, stopped}
use Rattle.meaning.specs.Sheet.{registers, Line}
use Rattle.meaning.specs.Text.{sheet, read}
use Rattle.meaning.specs.Run.{run_line, run, state_after, worked, run_call, run_lent}
use Rattle.meaning.specs.CheckSets.{state_of}

-- line l stops with k on s, the state after the line before it; d stands for a line past the last one, and is never asked for
pub record StopsAt (lent : List ℤ) (ls : List Line) (k l : ℕ) (s : List ℤ) : Type 0 where
  pub before : ℕ
  pub line_is : l ≡ suc before
  pub there : before < length ls
  pub reached : state_after lent ls before ≡ done s
  pub trouble : (d : Line) → run_line lent s (get_or ls before d) ≡ stop k

pub record PlainRun : Type 0 where
  -- the run of the first n lines comes to the state after line n
  pub runs : (lent : List ℤ) (ls : List Line) (n : ℕ) → n ≤ length ls → run lent (take n ls) ≡ state_after lent ls n
  -- a state has one number a register, also one that the run is stopped with, where a number was lent for each
  pub sized : (lent : List ℤ) (ls : List Line) (n : ℕ) → n ≤ length ls → registers ≤ length lent → length (state_of (state_after lent ls n)) ≡ registers
  -- it is stopped just where a line meets trouble on the state before it: with that trouble, that line and that state
  pub stops : (lent : List ℤ) (ls : List Line) (k l : ℕ) (s : List ℤ) → StopsAt lent ls k l s → state_after lent ls (length ls) ≡ stopped k l s
  pub stops_only : (lent : List ℤ) (ls : List Line) (k l : ℕ) (s : List ℤ) → state_after lent ls (length ls) ≡ stopped k l s → StopsAt lent ls k l s
  -- a call on a text that reads as ls, lent enough numbers, returns what the plain run comes to, and leaves its state
  pub returns : (t : List ℕ) (ls : List Line) (lent : List ℤ) → read t ≡ sheet ls → registers ≤ length lent → run_call t lent ≡ worked (length ls) (state_after lent ls (length ls))
  pub leaves : (t : List ℕ) (ls : List Line) (lent : List ℤ) → read t ≡ sheet ls → registers ≤ length lent → run_lent t lent ≡ over (state_of (state_after lent ls (length ls))) lent
  -- every number stays as lent where an `in` line stops the run, and where no line is run
  pub outside_leaves : (t : List ℕ) (lent : List ℤ) (n l : ℕ) (s : List ℤ) → run_call t lent ≡ worked n (stopped outside_in l s) → run_lent t lent ≡ lent
  pub empty_leaves : (lent : List ℤ) → run_lent [] lent ≡ lent
