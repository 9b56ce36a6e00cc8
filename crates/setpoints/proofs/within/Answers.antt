-- A refused argument, or the members within the distance handed out. Assumes nothing.
use Rattle.std.proofs.Common.{sym, ◌∙◌}
use Rattle.std.proofs.lemmas.Result.{err_from_is_err_and}
use mir.Facts.{to_z-of_z}
use Rattle.meaning.specs.NumberIntervals.{flat, intervals}
use Rattle.meaning.specs.Setpoints.{near}
use Rattle.refusals.proofs.Rows.{number_not_zero}
use Rattle.set_calls.proofs.Accepted.{argument_is}
use Rattle.set_calls.proofs.Calls.{handed_refused, written_is, call_handed}
use Rattle.setpoints.proofs.Giving.{reaches}
use Rattle.setpoints.proofs.within.Goals as goal

pub returns-in_err-operand : goal.returns-in_err-operand
returns-in_err-operand c =
    let p = err_from_is_err_and c.from_residual.result c.from_residual.ensures.1 in
    let e = c.in_err-operand.ensures.refused in
    let h = number_not_zero _ in
    rw (p.1, p.2) record { reaches = reaches _ _ _ _ (handed_refused _ _ _ _ _ _ e h) (λ z. absurd (h (e ∙ z))) }

pub returns : goal.returns
returns c =
    let a = c.in_ok-operand.ensures in
    let e = written_is c.new-near.ensures c.near_into.ensures c.written.ensures ∙ (λ i. flat (near (intervals (a.same i)) (to_z-of_z c.ranges.x i) c.args.distance)) in
    record { reaches = reaches _ _ _ _ (call_handed _ _ _ _ e (sym a.refused) c.hand_out.ensures.0 c.hand_out.ensures.1) (λ _. argument_is c.in_ok-operand.operand a.same) }
