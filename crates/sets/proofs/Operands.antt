-- What an operand is, in one word. Assumes nothing.
use Rattle.sets.specs.Sets.{Argument}
use Rattle.sets.specs.declared.Operand.{Operand}

pub argument_of : (x : Operand) → Argument x.set.numbers.now
argument_of x = record { set = x.set.set; few = x.few }
