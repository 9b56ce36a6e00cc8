-- 3 comes first, then the check of the text; on a pass the sets are written. Assumes nothing.
use Rattle.std.proofs.Common.{◌≡◌, refl, rules, Err, None}
use Rattle.std.proofs.lemmas.Result.{err_from_is_err_and}
use Rattle.meaning.specs.Check.{interval_limit, check_text}
use Rattle.refusals.specs.declared.Cause.TheVariants.{TooShort}
use Rattle.refusals.specs.declared.Trouble.TheVariants.{Refused}
use Rattle.sheet_check.proofs.Walking.{text_refused, called_short_sets, called_short_work, called_failed, called_sheet, whole, work_whole}
use Rattle.sheet_check.proofs.check.Goals as goal

pub returns-in_err-sets : goal.returns-in_err-sets
returns-in_err-sets c =
    let n : c.first_chunk_mut.result ≡ None = c.in_err-sets.ensures.ok_part in
    let v = rw n at c.in_err-sets.ensures.value in
    let k : c.in_err-sets.field-0.0 ≡ TooShort = cc in
    let x : c.from_residual.result ≡ Err (Refused c.in_err-sets.field-0.0 0) = search rules in
    rw (x, k) (called_short_sets c.args.text.now c.args.sets.now c.args.work.now (rw n at c.first_chunk_mut.ensures.cases))

pub returns-in_err-work : goal.returns-in_err-work
returns-in_err-work c =
    let s = rw (c.in_ok-sets.ensures.ok_part) at c.first_chunk_mut.ensures.cases in
    let n : c.first_chunk_mut-2.result ≡ None = c.in_err-work.ensures.ok_part in
    let v = rw n at c.in_err-work.ensures.value in
    let k : c.in_err-work.field-0.0 ≡ TooShort = cc in
    let x : c.from_residual-in_err-work.result ≡ Err (Refused c.in_err-work.field-0.0 0) = search rules in
    rw (x, k) (called_short_work c.args.text.now c.args.sets.now c.args.work.now s.enough (rw n at c.first_chunk_mut-2.ensures.cases) (whole c.args.sets.now 528 s.same))

pub returns-in_err-lines : goal.returns-in_err-lines
returns-in_err-lines c =
    let s = rw (c.in_ok-sets.ensures.ok_part) at c.first_chunk_mut.ensures.cases in
    let w = rw (c.in_ok-work.ensures.ok_part) at c.first_chunk_mut-2.ensures.cases in
    let p = err_from_is_err_and c.from_residual-in_err-lines.result c.from_residual-in_err-lines.ensures.1 in
    let x = text_refused c.args.text.now c.judge_text.ensures.answer_is c.in_err-lines.was in
    let d = work_whole c.args.work.now w.enough w.same (check_text interval_limit c.args.text.now) (x.1 _) in
    rw (p.1, p.2) (called_failed c.args.text.now c.args.sets.now c.args.work.now s.enough w.enough d c.in_err-lines.field-0.0 x.0 (whole c.args.sets.now 528 s.same))

pub returns : goal.returns
returns c =
    let s = rw (c.in_ok-sets.ensures.ok_part) at c.first_chunk_mut.ensures.cases in
    let w = rw (c.in_ok-work.ensures.ok_part) at c.first_chunk_mut-2.ensures.cases in
    let d = work_whole c.args.work.now w.enough w.same (check_text interval_limit c.args.text.now) c.check_sets.ensures.left in
    let a = c.check_sets.ensures.answer in
    called_sheet c.args.text.now c.args.sets.now c.args.work.now s.enough w.enough d c.check_sets.result a.0 a.1 a.2 s.same refl
