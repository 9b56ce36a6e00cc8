-- What each answer of the code says, in the words of `meaning`. Assumes nothing.
use Rattle.std.specs.Prelude.{◌≡◌, eqb, ℤ, length, get_or, drop, Bool, true, false, ◌&&◌, List, ℕ, ◌+◌, Result, Ok, Err}
use Prim.Native.Char.{code}
use Rattle.meaning.specs.Outcome.{Res, ok, stop}
use Rattle.meaning.specs.Sheet.{Form, put, hold, Line as Read, input, act}
use Rattle.meaning.specs.Reading.{Got, got, bad, arg, tree, value}
use Rattle.refusals.specs.declared.Cause.{Cause}
use Rattle.refusals.specs.Numbers.{number_of}
use Rattle.interval.specs.declared.Interval.{Interval}
use Rattle.lines.specs.declared.Line.{Line}
use Rattle.lines.specs.declared.Line.TheVariants.{In, Put, Hold}

-- the closing bracket is at i, and nothing stands behind it
unfoldable pub ends : List ℕ → ℕ → Bool
ends s i = eqb (get_or s i 0) (code ")") && eqb (i + 1) (length s)

-- (in R LO HI) or (hold R LO HI)
abbrev pub ranged : Bool → ℕ → ℤ → ℤ → Read
ranged true r lo hi = act (hold r lo hi)
ranged false r lo hi = input r lo hi

-- the line of register r with the range
abbrev pub range_from : Bool → ℕ → Result Interval Cause → Res Read
range_from held r (Ok range) = ok (ranged held r range.lo range.hi)
range_from held r (Err cause) = stop (number_of cause)

-- the line of the register with the range
abbrev pub pair_from : Bool → Result (ℕ × Interval) Cause → Res Read
pair_from held (Ok p) = ok (ranged held p.0 p.1.lo p.1.hi)
pair_from held (Err cause) = stop (number_of cause)

-- what is read behind the register r of a put, from i on
abbrev pub put_at : List ℕ → ℕ → ℕ → Got Read
put_at s r i = value tree (λ e. act (put r e)) 7 s i

-- no line is refused with 0: an answer Put is a form that can be read
abbrev pub put_of : ℕ → Got Form → Res Read
put_of r (got e n) = ok (act (put r e))
put_of r bad = stop 0

-- the line that an answer says: Put holds the text from its form on
abbrev pub line_from : Result Line Cause → Res Read
line_from (Ok (In r range)) = ok (input r range.lo range.hi)
line_from (Ok (Put r form)) = put_of r (arg tree 7 form.now)
line_from (Ok (Hold r range)) = ok (act (hold r range.lo range.hi))
line_from (Err cause) = stop (number_of cause)

-- the form of a put is what the text s has from some place on
abbrev pub Part : List ℕ → Line → Type 0
Part s (In r range) = Unit {0}
Part s (Put r form) = (j : ℕ) × (form.now ≡ drop j s)
Part s (Hold r range) = Unit {0}
