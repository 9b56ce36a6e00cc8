-- A refused argument, or what the relation may give, handed out. Assumes nothing.
use Rattle.std.proofs.Common.{false, length, ◌/◌, sym, ap, ◌∙◌}
use Rattle.std.proofs.lemmas.Result.{err_from_is_err_and}
use Rattle.meaning.specs.NumberIntervals.{intervals, of_bools}
use Rattle.refusals.proofs.Rows.{number_not_zero}
use Rattle.cores.specs.Operation.{relation_of}
use Rattle.cores.proofs.Operations.{relation_is}
use Rattle.set_calls.proofs.Calls.{handed_refused, handed_as, no_need2}
use Rattle.set_calls.proofs.related.Goals as goal

pub returns-in_err-left-clause-answered : goal.returns-in_err-left-clause-answered
returns-in_err-left-clause-answered c =
    let p = err_from_is_err_and c.from_residual.result c.from_residual.ensures.1 in
    rw (p.1, p.2) (handed_refused _ _ _ _ _ _ c.in_err-left.ensures.refused (number_not_zero _))

pub returns-clause-answered : goal.returns-clause-answered
returns-clause-answered c =
    let a = c.in_ok-left.ensures in
    let l = c.args.left.now in
    let r = c.args.right.now in
    let is = relation_is c.args.op false (intervals l) (intervals r) in
    let gives = ap of_bools (c.relate.ensures ∙ (λ i. relation_of c.args.op (intervals (a.same.0 i)) (intervals (a.same.1 i)))) in
    handed_as _ a.refused (sym (no_need2 is.2 (length l / 2) (length r / 2))) (gives ∙ is.0) is.1 c.hand_bools.ensures
