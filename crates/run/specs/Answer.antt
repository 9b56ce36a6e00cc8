-- What each answer of the code says, in the words of `meaning`. Assumes nothing.
use Rattle.std.specs.Prelude.{ℤ, List, ◌≡◌, ℕ, Result, Ok, Err}
use Rattle.meaning.specs.Outcome.{Outcome, done, stopped}
use Rattle.meaning.specs.Run.{verdict, Judged, refused, worked, run_call, run_lent, Ranged}
use Rattle.refusals.specs.declared.Trouble.{Trouble}
use Rattle.refusals.specs.Endings.{Ending, success, stop, refusal, ending_of, verdict_of}

-- how the answer for what the run comes to ends: 3 and 5 to 8 refuse, 20, 21 and 22 stop a line
abbrev pub answer_for : Judged (List ℤ) → Ending
answer_for (refused k l) = refusal k l
answer_for (worked n (done s)) = success n
answer_for (worked n (stopped k l s)) = stop k l

-- the state after the last line, or before the line that stopped the run
abbrev pub last_state : Outcome (List ℤ) → List ℤ
last_state (done s) = s
last_state (stopped k l s) = s

-- n lines that are all worked answer their count
abbrev pub counted : ℕ → Result (Unit {0}) Trouble → Result ℕ Trouble
counted n (Ok u) = Ok n
counted n (Err e) = Err e

-- the lines of a sheet worked: what the code answers, and the state that it leaves
pub record Worked (n : ℕ) (r : Result ℕ Trouble) (state : List ℤ) (o : Outcome (List ℤ)) : Type 0 where
  pub ends : ending_of r ≡ answer_for (worked n o)
  pub leaves : state ≡ last_state o

-- a call of the run: what it answers, what it leaves in its slice, and that it started from numbers of i64
pub record Ran (t : List ℕ) (lent : List ℤ) (r : Result ℕ Trouble) (lent' : List ℤ) : Type 0 where
  pub verdict_is : verdict_of r ≡ verdict (run_call t lent)
  pub answer_is : ending_of r ≡ answer_for (run_call t lent)
  pub lent_left : lent' ≡ run_lent t lent
  pub ranged : Ranged t lent
