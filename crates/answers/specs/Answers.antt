-- What the structs for C say, in the words of `meaning`. Assumes nothing.
use Rattle.std.specs.Prelude.{ℤ, pos, true, false}
use Rattle.std.specs.Prelude.{Option, None, Some}
use Rattle.meaning.specs.SetCalls.{Returned}
use Rattle.meaning.specs.Setpoints.{ReturnedMember}
use Rattle.meaning.specs.Run as run
use Rattle.answers.specs.declared.Maybe.{Maybe}
use Rattle.answers.specs.declared.Answer.{Answer}
use Rattle.answers.specs.declared.Member.{Member}
use Rattle.answers.specs.declared.Verdict.{Verdict}
use Rattle.answers.specs.declared.Text.{Text}

-- a number and true, or 0 and false
abbrev pub maybe_for : Option ℤ → Maybe
maybe_for None = record { number = pos 0; there = false }
maybe_for (Some x) = record { number = x; there = true }

-- the fields of a set call's answer, each for its own
abbrev pub answer_of : Answer → Returned
answer_of a = record { number = a.number; count = a.count; flag = a.flag }

-- and of a member
abbrev pub member_of : Member → ReturnedMember
member_of a = record { number = a.number; member = a.member }

-- and of a verdict
abbrev pub verdict_of : Verdict → run.Verdict
verdict_of r = record { number = r.number; line = r.line; count = r.count }

-- and of a text's answer
abbrev pub text_of : Text → run.Verdict
text_of r = record { number = r.number; line = r.line; count = r.count }
