-- What is left behind k lines is the text without its first k lines, so it starts where these end. Assumes nothing.
use Rattle.std.proofs.Common.{arith, ap, ◌≡◌, length, length-drop}
use Rattle.meaning.specs.Text.{Split, cut}
use Rattle.sheet.proofs.Feeds.{none_first, some_first, behind_next, behind_end, cut_le}
use Rattle.std.proofs.lemmas.Grind.{common_steps}
use Rattle.sheet.proofs.line_start.Goals as goal

pub loop-i-preserved : goal.loop-i-preserved
loop-i-preserved c =
    let f = some_first c.loop-i.rest.now c.first_lf.ensures c.in-Some.is in
    let e = behind_next c.args.text.now c.loop-i._i c.loop-i.invariant f in grind (arith, common_steps)

pub returns-in_default : goal.returns-in_default
returns-in_default c =
    let n = ap (λ (x : Split). x.lines) (none_first c.loop-i.rest.now c.first_lf.ensures c.in_default.is) in
    behind_end c.args.text.now c.loop-i._i c.loop-i.invariant n c.args.k (omega arith)

pub returns : goal.returns
returns c =
    let k : c.loop-i._i ≡ c.args.k = omega arith in
    rw (← k) (omega (arith, ap length c.loop-i.invariant, length-drop (length (cut c.args.text.now c.loop-i._i)) c.args.text.now, cut_le c.args.text.now c.loop-i._i))
