-- The call stays within MIN..MAX. Assumes nothing.
use Rattle.setpoints.proofs.Windows.{low_end}
use Rattle.setpoints.proofs.lowest.Goals as goal

pub returns : goal.returns
returns c = low_end c.ranges.x c.saturating_sub_unsigned.type_inv c.args.d c.saturating_sub_unsigned.ensures
