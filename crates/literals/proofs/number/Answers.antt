-- `literals::number` meets its contract: the fold is the definition.
use Rattle.std.proofs.Common.{rules}
use Rattle.literals.proofs.Literals.{capped_are}
use Rattle.literals.proofs.number.Goals as goal

pub returns : goal.returns
returns c = rw (← capped_are c.args.a c.args.text.now) (search rules)
