-- Three steps to each turn of `rem_with`. Assumes nothing.
use Rattle.std.proofs.Common.{◌+◌, ◌*◌}
use Rattle.remainders.proofs.+cutting.Given as goal

abbrev pub decreases-cut_left : goal.decreases-cut_left
decreases-cut_left l = 3 * l.n + 1

abbrev pub decreases-cut_right : goal.decreases-cut_right
decreases-cut_right l = 3 * l.n + 1

abbrev pub decreases-cut_both : goal.decreases-cut_both
decreases-cut_both l = 3 * l.n + 2

abbrev pub decreases-rem_with : goal.decreases-rem_with
decreases-rem_with l = 3 * l.n
