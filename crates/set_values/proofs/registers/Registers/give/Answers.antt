-- The set that is written is the register's. Assumes nothing.
use Rattle.set_values.proofs.Layouts.{give_slots, give_is}
use Rattle.set_values.proofs.Sets.{held_sized}
use Rattle.set_values.proofs.registers.Registers.give.Goals as goal

pub invariant_of-self : goal.invariant_of-self
invariant_of-self c = record { slots = give_slots c.args.self.now.slots c.args.r c.requires (held_sized c.args.value.now.held) c.show.ensures }

pub returns : goal.returns
returns c = give_is c.args.self.now.slots c.args.r c.requires (held_sized c.args.value.now.held) c.show.ensures
