-- Each turn works one line, and what is left is worked from there. Assumes nothing.
use Rattle.std.proofs.Common.{◌≡◌, ap, sym, ◌∙◌, rules, Ok}
use Rattle.std.specs.Iterator.Adapters.{enumerate_source, enumerate_count}
use Rattle.meaning.specs.Text.{lines}
use Rattle.sheet.specs.declared.Lines.{Lines}
use Rattle.run.proofs.Steps.{running_start, running_next, running_stop, running_done}
use Rattle.run.proofs.work.Goals as goal

pub loop-n-init : goal.loop-n-init
loop-n-init c =
    let i = c.into_iter-n-iterator.ensures.into_iter_gives in
    let text : c.into_iter-n-iterator.result.iter.rest.now ≡ c.args.text.now = ap (λ (it : Lines). it.rest.now) (ap enumerate_source i ∙ c.enumerate-n-items.ensures.source) ∙ c.of.ensures in
    let count : c.into_iter-n-iterator.result.count ≡ 0 = ap enumerate_count i ∙ c.enumerate-n-items.ensures.count in
    rw (count, text) (λ n s. running_start c.args.text.now c.args.lent.now c.args.state.now s)

pub loop-n-preserved : goal.loop-n-preserved
loop-n-preserved c =
    let s = c.in-Some.ensures.steps in
    let g = rw (s.0, sym s.1) at c.loop-n.invariant in
    let r : c.run_line.result ≡ Ok tt = search rules in
    let h = rw r at c.run_line.ensures in
    rw (s.2, sym s.1) (λ n t. running_next c.args.lent.now c.args.state.now c.loop-n.state t.lines c.in-Some.n c.in-Some.line.now (lines c.next.new.self.iter.rest.now) (g n t) h)

pub returns-in_err-map_err : goal.returns-in_err-map_err
returns-in_err-map_err c n t =
    let s = c.in-Some.ensures.steps in
    let g = rw (s.0, sym s.1) at c.loop-n.invariant in
    running_stop c.args.lent.now c.args.state.now c.loop-n.state t.lines c.in-Some.n c.in-Some.line.now (lines c.next.new.self.iter.rest.now) (g n t) (search rules) c.run_line.ensures

pub returns : goal.returns
returns c n t = running_done c.args.lent.now c.args.state.now c.loop-n.state t.lines c.loop-n.n-iterator.count (rw c.in-None.ensures.steps.0.0 at c.loop-n.invariant n t)
