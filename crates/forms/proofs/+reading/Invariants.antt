use Prim.Native.Nat.{◌+◌}
use Rattle.forms.proofs.+reading.Given as goal

abbrev pub decreases-read_arg : goal.decreases-read_arg
decreases-read_arg g l = l.depth + l.depth

abbrev pub decreases-read_form : goal.decreases-read_form
decreases-read_form g l = l.depth + l.depth + 1
