-- A refused argument, or the opposite of what the set may be, handed out. Assumes nothing.
use Rattle.std.proofs.Common.{refl, ap, ◌∙◌}
use Rattle.std.proofs.lemmas.Result.{err_from_is_err_and}
use Rattle.meaning.specs.Number as point
use Rattle.meaning.specs.Bools.{not_bools}
use Rattle.meaning.specs.NumberIntervals.{of_bools, set1, flag1}
use Rattle.meaning.specs.SetCalls.{factor1}
use Rattle.refusals.proofs.Rows.{number_not_zero}
use Rattle.set_calls.proofs.Accepted.{argument_is}
use Rattle.set_calls.proofs.Right.{gives1_refused, gives1_bools}
use Rattle.truth_calls.proofs.not.Goals as goal

pub returns-in_err-accept : goal.returns-in_err-accept
returns-in_err-accept c =
    let p = err_from_is_err_and c.from_residual.result c.from_residual.ensures.1 in
    let e = c.in_err-accept.ensures.refused in
    let h = number_not_zero _ in
    rw (p.1, p.2) record { gives1 = gives1_refused _ _ e h point.not'; argument = λ z. absurd (h (e ∙ z)) }

pub returns : goal.returns
unfolding set1 flag1 factor1
returns c =
    let a = c.in_ok-accept.ensures in
    let k = argument_is c.in_ok-accept.field-0 a.same in
    record { gives1 = gives1_bools point.not' _ _ _ (ap of_bools (c.not.ensures ∙ ap not_bools c.of_set.ensures)) refl refl a.refused k c.hand_bools.ensures; argument = λ _. k }
