-- It is the wrapped product, divided by 1000, as the definition has it.
-- Assumes nothing.
use Rattle.std.proofs.Common.{◌*ℤ◌, ap, ◌∙◌, to_z-of_z}
use Rattle.meaning.specs.Number.{product, thousandth, wrap}
use Rattle.laws.proofs.Machine.{ok}
use Rattle.number.proofs.mul.Goals as goal

pub returns : goal.returns
unfolding product
returns c =
    to_z-of_z (ok c.milli.type_inv) ∙ c.milli.ensures
    ∙ ap thousandth (to_z-of_z (ok c.wrapping_mul.type_inv) ∙ c.wrapping_mul.ensures ∙ (λ i. wrap (to_z-of_z c.ranges.x i *ℤ to_z-of_z c.ranges.y i)))
