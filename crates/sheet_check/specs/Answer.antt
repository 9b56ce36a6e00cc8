-- What the answers of the check say, in the words of `meaning`. Assumes nothing.
use Rattle.std.specs.Prelude.{ℤ, ◌≡◌, List, ℕ, Result}
use Rattle.meaning.specs.Outcome.{done, stopped}
use Rattle.meaning.specs.Run.{verdict, Judged, refused, worked}
use Rattle.meaning.specs.Check.{Bands, check_call, check_sets, check_work}
use Rattle.refusals.specs.declared.Trouble.{Trouble}
use Rattle.refusals.specs.Endings.{Ending, success, stop, refusal, ending_of, verdict_of}

-- how the answer for what the check comes to ends: what stops a line is a stop
abbrev pub answer_for : Judged Bands → Ending
answer_for (refused k l) = refusal k l
answer_for (worked n (done B)) = success n
answer_for (worked n (stopped k l B)) = stop k l

-- a call of the check: what it answers, and what it leaves in its slices
pub record Called (t : List ℕ) (sets work : List ℤ) (r : Result ℕ Trouble) (sets' work' : List ℤ) : Type 0 where
  pub verdict_is : verdict_of r ≡ verdict (check_call t sets work)
  pub answer_is : ending_of r ≡ answer_for (check_call t sets work)
  pub sets_left : sets' ≡ check_sets t sets work
  pub work_left : work' ≡ check_work t sets work
