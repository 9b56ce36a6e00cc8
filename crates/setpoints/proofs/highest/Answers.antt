-- The call stays within MIN..MAX. Assumes nothing.
use Rattle.setpoints.proofs.Windows.{high_end}
use Rattle.setpoints.proofs.highest.Goals as goal

pub returns : goal.returns
returns c = high_end c.ranges.x c.saturating_add_unsigned.type_inv c.args.d c.saturating_add_unsigned.ensures
