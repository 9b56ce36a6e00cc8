-- The part that is lent becomes the part that is written. Assumes nothing.
use mathlib.Core.Path.{refl}
use native.Mathlib.Omega.{arith}
use Rattle.writer.proofs.Chain.{appends_put}
use Rattle.writer.proofs.Writer.push.Goals as goal

pub returns : goal.returns
returns g c = appends_put c.args.self.now c.copy.ensures (omega arith) refl c.requires
