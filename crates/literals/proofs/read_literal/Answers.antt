-- `literals::read_literal` meets its contract: the sign is the definition's.
use mathlib.Core.Path.{◌∙◌}
use Rattle.literals.proofs.Literals.{literal_minus, literal_plus}
use Rattle.literals.proofs.read_literal.Goals as goal

pub returns-then-at-eq45 : goal.returns-then-at-eq45
returns-then-at-eq45 c = c.unsigned.ensures ∙ literal_minus c.args.text.now c.at.ensures c.if-at-eq45.true c.tail.ensures

pub returns-else-at-eq45 : goal.returns-else-at-eq45
returns-else-at-eq45 c = c.unsigned-else-at-eq45.ensures ∙ literal_plus c.args.text.now c.at.ensures c.if-at-eq45.false
