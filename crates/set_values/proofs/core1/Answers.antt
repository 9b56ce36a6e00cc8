-- The joined answer, or what the opposite may be. Assumes nothing.
use mathlib.Core.Path.{refl, ap, ◌∙◌}
use Rattle.meaning.specs.Bools.{not_bools}
use Rattle.meaning.specs.NumberIntervals.{of_bools, set1, flag1}
use Rattle.cores.specs.Operation.{neg_alone, abs_alone}
use Rattle.cores.proofs.Operations.{zero_ends}
use Rattle.set_values.proofs.Cores.{alone_left, left_as}
use Rattle.set_values.proofs.core1.Goals as goal

pub invariant_of-zero : goal.invariant_of-zero
invariant_of-zero c = record { set = zero_ends }

pub returns-in-Neg : goal.returns-in-Neg
returns-in-Neg c = rw c.in-Neg.is (alone_left _ _ _ c.join.ensures neg_alone refl)

pub returns-in-Abs : goal.returns-in-Abs
returns-in-Abs c = rw c.in-Abs.is (alone_left _ _ _ c.join-in-Abs.ensures abs_alone refl)

pub returns-in-Not : goal.returns-in-Not
unfolding set1 flag1
returns-in-Not c =
    rw c.in-Not.is (left_as (ap of_bools (c.not.ensures ∙ ap not_bools c.of_set.ensures)) refl c.put_bools.ensures)
