-- What a set call returns, in the words of `meaning`, and what it returns and leaves, in one word. Assumes nothing.
use Rattle.std.specs.Prelude.{ℤ, ◌≡◌, Bool, List, [], ℕ, Result, Ok, Err}
use Rattle.meaning.specs.NumberIntervals.{Set}
use Rattle.meaning.specs.SetCalls.{Returned, written, refused, call_returns, call_out, call_work}
use Rattle.refusals.specs.declared.Cause.{Cause}
use Rattle.refusals.specs.Numbers.{number_of}
use Rattle.replies.specs.declared.Written.{Written}

-- what an answer says: number 0, the count and the flag, or the number of the refusal
abbrev pub returned : Result Written Cause → Returned
returned (Ok w) = written w.count w.flag
returned (Err cause) = refused (number_of cause)

-- the three equations of a contract; `r` says what the call returned, `o` and `w` are what it left
abbrev pub Ended : (k need : ℕ) → Set → Bool → (out work : List ℤ) → (r : Returned) (o w : List ℤ) → Type 0
Ended k need answer flag out work r o w = (r ≡ call_returns k need answer flag out work) × (o ≡ call_out k need answer flag out work) × (w ≡ call_work k need answer flag out work)

-- a call that takes no work
abbrev pub Handed : (k need : ℕ) → Set → Bool → (out : List ℤ) → (r : Returned) (o : List ℤ) → Type 0
Handed k need answer flag out r o = (r ≡ call_returns k need answer flag out []) × (o ≡ call_out k need answer flag out [])
