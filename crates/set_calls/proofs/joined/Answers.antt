-- A refused argument, too little work, or the core's answer handed out. Assumes nothing.
use Rattle.std.proofs.Common.{refl, sym, arith}
use Rattle.std.proofs.lemmas.Result.{err_from_is_err_and}
use Rattle.refusals.proofs.Rows.{number_not_zero}
use Rattle.cores.proofs.Operations.{factor_le}
use Rattle.set_calls.proofs.Accepted.{arguments_are}
use Rattle.set_calls.proofs.Calls.{call_refused, call_short, call_ended, need_as, cored_as, enough, end_asks}
use Rattle.set_calls.proofs.joined.Goals as goal

pub returns-in_err-left-clause-ended : goal.returns-in_err-left-clause-ended
returns-in_err-left-clause-ended c =
    let p = err_from_is_err_and c.from_residual.result c.from_residual.ensures.1 in
    rw (p.1, p.2) (call_refused _ _ _ _ _ _ _ c.in_err-left.ensures.refused (number_not_zero _))

pub need-needed-requires : goal.need-needed-requires
need-needed-requires c = (omega (arith, c.factor.ensures, factor_le c.args.op), c.in_ok-left.left.few, c.in_ok-left.right.few)

pub returns-then-work-needed-clause-ended : goal.returns-then-work-needed-clause-ended
returns-then-work-needed-clause-ended c =
    let e = need_as c.in_ok-left.ensures.same c.factor.ensures c.need-needed.ensures in
    call_short _ _ _ _ _ _ (sym c.in_ok-left.ensures.refused) (omega (arith, e, c.if-work-needed.true))

pub answer-written-requires : goal.answer-written-requires
answer-written-requires c =
    enough (need_as (refl, refl) c.factor.ensures c.need-needed.ensures) c.if-work-needed.false

pub finish-requires : goal.finish-requires
finish-requires c =
    end_asks _ (need_as (refl, refl) c.factor.ensures c.need-needed.ensures) c.answer-written.ensures.room c.if-work-needed.false c.answer-written.auto.work

pub returns-clause-ended : goal.returns-clause-ended
returns-clause-ended c =
    let same = c.in_ok-left.ensures.same in
    let w = cored_as same c.args.op c.args.flag _ _ _ c.answer-written.ensures in
    call_ended _ _ _ _ _ _ (sym c.in_ok-left.ensures.refused) _ (need_as same c.factor.ensures c.need-needed.ensures) c.if-work-needed.false c.answer-written.auto.work w
    c.finish.ensures.0 c.finish.ensures.1 c.finish.ensures.2

pub returns-clause-arguments : goal.returns-clause-arguments
returns-clause-arguments c _ = arguments_are c.in_ok-left.left c.in_ok-left.right c.in_ok-left.ensures.same
