-- The ends, and zeros behind them. Assumes nothing.
use lib.IntN.{pos}
use lib.ListN.{length, replicate}
use lib.Seq.{length-take-le}
use mathlib.Core.Path.{sym}
use Rattle.set_values.proofs.Sets.{few_length, few_shown, few_held}
use Rattle.set_values.proofs.form_set.FormSet.new.Goals as goal

pub slice_bounds-room-end : goal.slice_bounds-room-end
slice_bounds-room-end c = few_length c.requires

pub slice_bounds-copy_from_slice-end : goal.slice_bounds-copy_from_slice-end
slice_bounds-copy_from_slice-end c = sym (length-take-le (length c.args.ends.now) (replicate 32 (pos 0)) (few_length c.requires))

pub copy_from_slice-requires : goal.copy_from_slice-requires
copy_from_slice-requires c = length-take-le (length c.args.ends.now) (replicate 32 (pos 0)) (few_length c.requires)

pub invariant_of-result : goal.invariant_of-result
invariant_of-result c = record { held = rw c.copy_from_slice.ensures.after (few_held c.requires) }

pub returns : goal.returns
returns c = rw c.copy_from_slice.ensures.after (few_shown c.requires)
