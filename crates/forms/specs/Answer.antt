-- What each answer of the code says, in the words of `meaning`. Assumes nothing.
use Rattle.std.specs.Prelude.{Bool, false, ◌||◌, Option, Some, None}
use Rattle.meaning.specs.Refusals.{ungrammatical}
use Rattle.meaning.specs.Outcome.{Res, stop}
use Rattle.meaning.specs.Number.{Op1, neg, abs, not', Op2, add, sub, mul, div, rem, le, lt, ne, and, or}
use Rattle.meaning.specs.Sheet.{beyond}
use Rattle.meaning.specs.Reading.{Got, got, bad, Head, is_reg, is1, is2, is_none, Algebra}
use Rattle.forms.specs.declared.Op1.{Op1 as Unary}
use Rattle.forms.specs.declared.Op1.TheVariants as unary
use Rattle.forms.specs.declared.Op2.{Op2 as Binary}
use Rattle.forms.specs.declared.Op2.TheVariants as binary
use Rattle.forms.specs.declared.Head.{Head as Opening}
use Rattle.forms.specs.declared.Head.TheVariants as opening

abbrev pub op1_of : Unary → Op1
op1_of unary.Neg = neg
op1_of unary.Abs = abs
op1_of unary.Not = not'

abbrev pub op2_of : Binary → Op2
op2_of binary.Add = add
op2_of binary.Sub = sub
op2_of binary.Mul = mul
op2_of binary.Div = div
op2_of binary.Rem = rem
op2_of binary.Le = le
op2_of binary.Lt = lt
op2_of binary.Ne = ne
op2_of binary.And = and
op2_of binary.Or = or

abbrev pub head_of : Option Opening → Head
head_of (Some opening.Reg) = is_reg
head_of (Some (opening.One o)) = is1 (op1_of o)
head_of (Some (opening.Two o)) = is2 (op2_of o)
head_of None = is_none

-- is some literal beyond MIN..MAX?
abbrev pub sizes : Algebra Bool
sizes = record { on_lit = beyond; on_reg = λ r. false; on1 = λ o a. a; on2 = λ o a b. a || b }

-- what a whole argument came to, or d where none can be read
abbrev pub value_or : {A : Type 0} → A → Got A → A
value_or d (got a n) = a
value_or d bad = d

-- the same of results: a form that cannot be read is refused
abbrev pub put_value : {A : Type 0} → Got (Res A) → Res A
put_value g = value_or (stop ungrammatical) g
