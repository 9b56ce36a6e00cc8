-- A form's set, and those of the registers, in the words of `meaning`. Assumes nothing.
use Rattle.std.specs.Prelude.{ℤ, length, take, ◌≡◌, Bool, false, List, ◌≤◌, Result, Ok, Err}
use Rattle.std.specs.Prelude.{Option, None, Some}
use Rattle.meaning.specs.Outcome.{Res, ok, stop, bind}
use Rattle.meaning.specs.Number.{Op1, Op2, add, sub, mul, div, rem}
use Rattle.meaning.specs.Interval.{only}
use Rattle.meaning.specs.NumberIntervals.{Set, set1, set2, flag1, flag2, flat, intervals}
use Rattle.meaning.specs.Sheet.{registers}
use Rattle.meaning.specs.Reading.{Algebra}
use Rattle.meaning.specs.Check.{Bands, at, settle, interval_limit}
use Rattle.meaning.specs.CheckSets.{SoundSet}
use Rattle.closing.specs.Gaps.{Ends}
use Rattle.literals.specs.Answer.{kept}
use Rattle.refusals.specs.declared.Cause.{Cause}
use Rattle.refusals.specs.Numbers.{number_of}
use Rattle.replies.specs.declared.Written.{Written}
use Rattle.cores.specs.declared.Op.TheVariants as op
use Rattle.cores.specs.Operation.{op2_of as relation_op}
use Rattle.set_values.specs.declared.form_set.FormSet.{FormSet}
use Rattle.set_values.specs.declared.registers.Registers.{Registers}
use Rattle.set_values.specs.declared.Kind.{Kind}
use Rattle.set_values.specs.declared.Kind.TheVariants.{Joined, Related}
use Rattle.set_values.specs.Held.{shown}
use Rattle.set_values.specs.Slots.{sets_in}

-- the set that a value holds
abbrev pub set_of : FormSet → Set
set_of f = shown f.count f.ends

-- a form's result: its set, or the number of its trouble
abbrev pub result_of : Result FormSet Cause → Res Set
result_of (Ok f) = ok (set_of f)
result_of (Err cause) = stop (number_of cause)

-- the registers' sets, register 0 first
abbrev pub sets_of : Registers → List Set
sets_of r = sets_in registers r.numbers

abbrev pub bands_of : Registers → Bands
bands_of r = record { sets = sets_of r }

-- a result that passes is normal, not empty, and of at most 16 intervals
abbrev pub SoundResult : Res Set → Type 0
SoundResult (ok s) = SoundSet interval_limit s
SoundResult (stop k) = Unit {0}

-- the answer of an operation on results
unfoldable pub answer1 : Op1 → Res Set → Res Set
answer1 o a = bind a (λ s. settle interval_limit (set1 o s) (flag1 o false))

unfoldable pub answer2 : Op2 → Res Set → Res Set → Res Set
answer2 o a b = bind a (λ s. bind b (λ t. settle interval_limit (set2 o s t) (flag2 o false s t)))

-- what is made of a form while its bytes are read; a literal beyond MIN..MAX counts as 0
abbrev pub values : List Set → Algebra (Res Set)
values S = record { on_lit = λ z. ok (only (kept z)); on_reg = λ r. ok (at S r); on1 = answer1; on2 = answer2 }

-- what an operation leaves in the work slice: the joined set at its front, how many numbers it has, and its flag
pub record Left (answer : Set) (flag : Bool) (new : List ℤ) (c : Written) : Type 0 where
  pub count : c.count ≡ length (flat answer)
  pub room : c.count ≤ length new
  pub front : take c.count new ≡ flat answer
  pub flagged : c.flag ≡ flag

-- what the judgement on an operation's answer asks: the ends of a normal set at the front of the work slice, and a sound result
pub record Settles (c : Written) (work : List ℤ) : Type 0 where
  pub room : c.count ≤ length work
  pub ends : Ends (take c.count work)
  pub sound : SoundResult (settle interval_limit (intervals (take c.count work)) c.flag)

-- the operation on two sets that a kind stands for
abbrev pub kind_of : Kind → Option Op2
kind_of (Joined op.Neg) = None
kind_of (Joined op.Abs) = None
kind_of (Joined op.Add) = Some add
kind_of (Joined op.Sub) = Some sub
kind_of (Joined op.Mul) = Some mul
kind_of (Joined op.Div) = Some div
kind_of (Joined op.Rem) = Some rem
kind_of (Related o) = Some (relation_op o)
