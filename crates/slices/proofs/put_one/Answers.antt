-- The numbers stored are the ends. Assumes nothing.
use Rattle.std.proofs.Common.{to_z-of_z}
use Rattle.slices.proofs.Behind.{adds_stored}
use Rattle.slices.proofs.put_one.Goals as goal

pub returns : goal.returns
returns c = rw (to_z-of_z c.ranges.a, to_z-of_z c.ranges.b) (adds_stored c.args.out.now c.args.a c.args.b c.requires)
