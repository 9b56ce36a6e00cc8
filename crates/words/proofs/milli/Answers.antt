-- A quotient by 1000 is always in range.
-- Assumes nothing.
use Rattle.std.proofs.Common.{w64, SFits}
use Rattle.meaning.specs.Number.{ONE}
use Rattle.laws.proofs.Integers.{zarith}
use Rattle.laws.proofs.Machine.{lit, quot_ok}
use Rattle.words.proofs.milli.Goals as goal

scale : SFits w64 ONE
scale = lit _ tt

pub nonzero_div-result : goal.nonzero_div-result
nonzero_div-result c = quot_ok c.ranges.x scale (λ e. omega zarith) (λ e. omega zarith)
