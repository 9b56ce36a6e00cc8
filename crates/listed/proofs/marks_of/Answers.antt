-- Each turn marks one line more. Assumes nothing.
use Rattle.std.proofs.Common.{ap, ◌∙◌}
use Rattle.meaning.specs.Text.{lines}
use Rattle.sheet.specs.declared.Lines.{Lines}
use Rattle.listed.proofs.Marks.{marking_start, marking_readable, marking_next, marking_done}
use Rattle.listed.proofs.marks_of.Goals as goal

pub loop-line-init : goal.loop-line-init
loop-line-init c =
    let e = ap (λ (it : Lines). lines it.rest.now) c.into_iter-line-iterator.ensures.into_iter_gives ∙ ap lines c.of-line-items.ensures in
    rw e (marking_start c.args.text.now c.requires.1)

pub mark-requires : goal.mark-requires
mark-requires c =
    let g = rw c.in-Some.ensures.steps at c.loop-line.invariant in
    marking_readable c.args.text.now c.in-Some.line.now (lines c.next.new.self.rest.now) c.loop-line.marks g

pub loop-line-preserved : goal.loop-line-preserved
loop-line-preserved c =
    let g = rw c.in-Some.ensures.steps at c.loop-line.invariant in
    marking_next c.args.text.now c.in-Some.line.now (lines c.next.new.self.rest.now) c.loop-line.marks g c.mark.ensures

pub returns : goal.returns
returns c = marking_done c.args.text.now c.loop-line.marks (rw c.in-None.ensures.steps.0 at c.loop-line.invariant)
