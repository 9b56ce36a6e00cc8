-- A refused argument, or the answer of one walk, handed out. Assumes nothing.
use Rattle.std.proofs.Common.{sym, ◌∙◌}
use Rattle.std.proofs.lemmas.Result.{err_from_is_err_and}
use Rattle.meaning.specs.NumberIntervals.{flat, intervals, intersect}
use Rattle.refusals.proofs.Rows.{number_not_zero}
use Rattle.set_calls.proofs.Accepted.{arguments_are}
use Rattle.set_calls.proofs.Calls.{written_is, call_handed}
use Rattle.set_calls.proofs.Right.{meets, meets_refused}
use Rattle.member_calls.proofs.intersect.Goals as goal

pub returns-in_err-left : goal.returns-in_err-left
returns-in_err-left c =
    let p = err_from_is_err_and c.from_residual.result c.from_residual.ensures.1 in
    let e = c.in_err-left.ensures.refused in
    let h = number_not_zero _ in
    rw (p.1, p.2) record { meets = meets_refused _ _ _ e h; arguments = λ z. absurd (h (e ∙ z)) }

pub returns : goal.returns
returns c =
    let a = c.in_ok-left.ensures in
    let e = written_is c.new-common.ensures c.meet.ensures c.written.ensures ∙ (λ i. flat (intersect (intervals (a.same.0 i)) (intervals (a.same.1 i)))) in
    let k = arguments_are c.in_ok-left.left c.in_ok-left.right a.same in
    record { meets = meets _ _ _ (call_handed _ _ _ _ e (sym a.refused) c.hand_out.ensures.0 c.hand_out.ensures.1) (λ _. k); arguments = λ _. k }
