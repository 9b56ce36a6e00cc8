-- The count and the ends are those of the register's set. Assumes nothing.
use mathlib.Core.Path.{ap, ◌∙◌}
use native.Mathlib.Omega.{arith}
use Rattle.meaning.specs.NumberIntervals.{intervals}
use Rattle.meaning.specs.Check.{at}
use Rattle.laws.proofs.Flat.{intervals_flat}
use Rattle.set_values.specs.Value.{sets_of}
use Rattle.set_values.proofs.Sets.{sized_few}
use Rattle.set_values.proofs.Layouts.{few_read, count_read, ends_read}
use Rattle.set_values.proofs.registers.Registers.set.Goals as goal

pub overflow_cast-count : goal.overflow_cast-count
overflow_cast-count c =
    let few = few_read c.args.self.now.slots c.args.r c.requires in
    rw (count_read c.args.self.now.slots c.args.r c.requires) (tt, record { fits = omega arith })

pub new-requires : goal.new-requires
new-requires c = rw (ends_read c.args.self.now.slots c.args.r c.requires) (sized_few (c.args.self.now.slots.each c.args.r))

pub returns : goal.returns
returns c =
    c.new.ensures
    ∙ ap intervals (ends_read c.args.self.now.slots c.args.r c.requires)
    ∙ intervals_flat (at (sets_of c.args.self.now) c.args.r)
