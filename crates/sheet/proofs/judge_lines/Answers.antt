-- `sheet::judge_lines` meets its contract. The invariant: what is left to read is judged as the whole is.
use Rattle.std.proofs.Common.{◌≡◌, rules, Ok}
use Rattle.meaning.specs.Text.{lines}
use Rattle.sheet.proofs.Judging.{going_done, going_stop, going_next}
use Rattle.sheet.proofs.judge_lines.Goals as goal

pub loop-line-preserved : goal.loop-line-preserved
loop-line-preserved c =
    let g = rw c.in-Some.ensures.steps at c.loop-line.invariant in
    let r : c.read.result ≡ Ok tt = search rules in
    let h = rw r at (c.read.ensures g.seen g.notes) in
    going_next c.args.text.now c.loop-line.seen c.loop-line.count c.in-Some.line.now (lines c.next.new.self.rest.now) g h

pub returns-in_err-map_err : goal.returns-in_err-map_err
returns-in_err-map_err c =
    let g = rw c.in-Some.ensures.steps at c.loop-line.invariant in
    going_stop c.args.text.now c.loop-line.seen c.loop-line.count c.in-Some.line.now (lines c.next.new.self.rest.now) g c.read.new.self (search rules) (c.read.ensures g.seen g.notes)

pub returns : goal.returns
returns c = let g = rw c.in-None.ensures.steps.0 at c.loop-line.invariant in going_done c.args.text.now c.loop-line.seen c.loop-line.count g
