-- A refused argument, or the closest member, if there is one. Assumes nothing.
use Rattle.std.proofs.Common.{ℤ, List, subst, arith}
use Rattle.std.proofs.lemmas.Result.{err_from_is_err_and}
use mir.Facts.{to_z-of_z}
use Rattle.meaning.specs.NumberIntervals.{intervals}
use Rattle.meaning.specs.Setpoints.{setpoint_refusal}
use Rattle.refusals.proofs.Rows.{number_not_zero}
use Rattle.set_calls.proofs.Accepted.{argument_is}
use Rattle.setpoints.specs.Saying.{IsClosest}
use Rattle.setpoints.proofs.Giving.{nears_refused, nears_found}
use Rattle.setpoints.proofs.nearest.Goals as goal

pub returns-in_err-accept : goal.returns-in_err-accept
unfolding setpoint_refusal
returns-in_err-accept c =
    let p = err_from_is_err_and c.from_residual.result c.from_residual.ensures.1 in
    let e = c.in_err-accept.ensures.refused in
    rw (p.1, p.2) record { nears = nears_refused _ _ (grind (arith, number_not_zero, e)) (number_not_zero _) }

pub returns : goal.returns
returns c =
    let a = c.in_ok-accept.ensures in
    let found = subst (λ (w : List ℤ × ℤ). IsClosest c.closest.result (intervals w.0) w.1) (λ i. (a.same i, to_z-of_z c.ranges.x i)) c.closest.ensures in
    rw c.ok_or.ensures.value record { nears = nears_found _ _ a.refused (argument_is c.in_ok-accept.field-0 a.same) c.closest.result found }
