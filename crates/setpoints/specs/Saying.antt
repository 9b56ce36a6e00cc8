-- What `nearest` answers, as a number and a member, and what it finds. Assumes nothing.
use Rattle.std.specs.Prelude.{◌≡◌, ℤ, true, false, Option, Result, Ok, Err, MatchOption}
use Rattle.meaning.specs.NumberIntervals.{Set, filled}
use Rattle.meaning.specs.Setpoints.{nearest, ReturnedMember, given, withheld}
use Rattle.refusals.specs.declared.Cause.{Cause}
use Rattle.refusals.specs.Numbers.{number_of}

-- what an answer says: number 0 and the member, or the number of the refusal
abbrev pub member_of : Result ℤ Cause → ReturnedMember
member_of (Ok m) = given m
member_of (Err cause) = withheld (number_of cause)

-- the member of s closest to x, and none of an empty set
abbrev pub IsClosest : Option ℤ → Set → ℤ → Type 0
IsClosest r s x = MatchOption r (filled s ≡ false) (λ m. (filled s ≡ true) × (m ≡ nearest s x))
