-- Each turn works one line, and what is left is worked from there. Assumes nothing.
use Rattle.std.proofs.Common.{◌≡◌, ap, sym, ◌∙◌, rules, Ok}
use Rattle.std.specs.Iterator.Adapters.{enumerate_source, enumerate_count}
use Rattle.meaning.specs.Text.{lines}
use Rattle.sheet.specs.declared.Lines.{Lines}
use Rattle.sheet_check.proofs.Walking.{going_start, going_next, going_stop, going_done}
use Rattle.sheet_check.proofs.check_lines.Goals as goal

pub loop-n-init : goal.loop-n-init
loop-n-init c =
    let i = c.into_iter-n-iterator.ensures.into_iter_gives in
    let text : c.into_iter-n-iterator.result.iter.rest.now ≡ c.args.text.now = ap (λ (it : Lines). it.rest.now) (ap enumerate_source i ∙ c.enumerate-n-items.ensures.source) ∙ c.of.ensures in
    let count : c.into_iter-n-iterator.result.count ≡ 0 = ap enumerate_count i ∙ c.enumerate-n-items.ensures.count in
    rw (count, text) (going_start c.args.text.now c.args.count c.args.registers.now c.requires.sheet c.requires.any)

pub loop-n-preserved : goal.loop-n-preserved
loop-n-preserved c =
    let s = c.in-Some.ensures.steps in
    let g = rw (s.0, sym s.1) at c.loop-n.invariant in
    let r : c.check_line.result ≡ Ok tt = search rules in
    rw (s.2, sym s.1) (going_next c.args.text.now c.args.count c.loop-n.registers c.in-Some.n c.in-Some.line.now (lines c.next.new.self.iter.rest.now) g (rw r at c.check_line.ensures))

pub returns-in_err-map_err : goal.returns-in_err-map_err
returns-in_err-map_err c =
    let s = c.in-Some.ensures.steps in
    let g = rw (s.0, sym s.1) at c.loop-n.invariant in
    going_stop c.args.text.now c.args.count c.loop-n.registers c.in-Some.n c.in-Some.line.now (lines c.next.new.self.iter.rest.now) g c.check_line.new.registers c.check_line.result c.check_line.ensures (search rules)

pub returns : goal.returns
returns c = going_done c.args.text.now c.args.count c.loop-n.registers c.loop-n.n-iterator.count (rw c.in-None.ensures.steps.0.0 at c.loop-n.invariant)
