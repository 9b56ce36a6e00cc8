-- Where it may be neither, nothing is written. Assumes nothing.
use native.Mathlib.Omega.{arith}
use Rattle.meaning.specs.NumberIntervals.{of_bools}
use Rattle.slices.proofs.Behind.{adds_none}
use Rattle.bools.proofs.put.Goals as goal

pub returns-in-false-false : goal.returns-in-false-false
unfolding of_bools
returns-in-false-false c = rw (c.in-false-false.is-0, c.in-false-false.is-1) (adds_none c.args.out.now (omega (arith, c.requires)))
