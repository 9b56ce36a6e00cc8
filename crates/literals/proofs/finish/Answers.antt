-- `literals::finish` meets its contract: what does not fit an i64 is beyond MIN..MAX.
use mathlib.Core.Path.{ap, ◌∙◌}
use lib.IntN.{pos, neg_ℤ, +ℤ_idl}
use Rattle.literals.specs.Answer.{held}
use Rattle.literals.proofs.Literals.{held_is, held_some}
use Rattle.literals.proofs.finish.Goals as goal

pub returns-then-negated : goal.returns-then-negated
returns-then-negated c =
    rw c.if-negated.true (held_some _ _ c.checked_sub_unsigned.ensures ∙ ap held (+ℤ_idl (neg_ℤ (pos c.args.m))))

pub returns-else-negated : goal.returns-else-negated
returns-else-negated c = rw c.if-negated.false (c.ok.ensures.value ∙ held_is _ _ c.try_from.ensures)
