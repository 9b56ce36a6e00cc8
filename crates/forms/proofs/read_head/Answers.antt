-- `forms::read_head` meets its contract: the word is told by the form's first five bytes.
use mathlib.Core.Path.{◌∙◌}
use Rattle.forms.proofs.Words.{head_none, head_short, head_long, head_open}
use Rattle.forms.proofs.read_head.Goals as goal

pub returns-then-at-ne40 : goal.returns-then-at-ne40
returns-then-at-ne40 c = head_none c.args.text.now c.at.ensures c.if-at-ne40.true

pub returns-then-c-eq32 : goal.returns-then-c-eq32
returns-then-c-eq32 c =
    c.short_word.ensures ∙ head_short c.args.text.now c.at.ensures c.if-at-ne40.false c.at-a.ensures
    c.at-b.ensures c.at-c.ensures c.if-c-eq32.true

pub returns-then-at-eq32 : goal.returns-then-at-eq32
returns-then-at-eq32 c =
    c.long_word.ensures ∙ head_long c.args.text.now c.at.ensures c.if-at-ne40.false c.at-a.ensures
    c.at-b.ensures c.at-c.ensures c.if-c-eq32.false c.at-2.ensures c.if-at-eq32.true

pub returns-else-at-eq32 : goal.returns-else-at-eq32
returns-else-at-eq32 c =
    head_open c.args.text.now c.at.ensures c.if-at-ne40.false c.at-a.ensures c.at-b.ensures
    c.at-c.ensures c.if-c-eq32.false c.at-2.ensures c.if-at-eq32.false
