-- What each answer of the code says, in the words of `meaning`. Assumes nothing.
use Rattle.std.specs.Prelude.{ℤ, pos, get_or, List, Result, Ok, Err}
use Rattle.meaning.specs.Refusals.{zero_divisor}
use Rattle.meaning.specs.Outcome.{Res, ok, stop, bind, or_stop}
use Rattle.meaning.specs.Number.{Op1, Op2, point1, point2}
use Rattle.meaning.specs.Reading.{Algebra}
use Rattle.literals.specs.Answer.{kept}
use Rattle.refusals.specs.declared.Cause.{Cause}
use Rattle.refusals.specs.Numbers.{number_of}

-- a value, or the number of what stopped it
abbrev pub res_of : {A : Type 0} → Result A Cause → Res A
res_of (Ok a) = ok a
res_of (Err cause) = stop (number_of cause)

-- an operation on what its arguments came to
unfoldable pub with1 : Op1 → Res ℤ → Res ℤ
with1 o a = bind a (λ x. ok (point1 o x))

unfoldable pub with2 : Op2 → Res ℤ → Res ℤ → Res ℤ
with2 o a b = bind a (λ x. bind b (λ y. or_stop zero_divisor (point2 o x y)))

-- the value of a form while it is read; a literal beyond MIN..MAX, which no line of a sheet has, counts as 0
abbrev pub points : List ℤ → Algebra (Res ℤ)
points state = record { on_lit = λ z. ok (kept z); on_reg = λ r. ok (get_or state r (pos 0)); on1 = with1; on2 = with2 }
