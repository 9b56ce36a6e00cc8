-- The bits of the quotient are read as its wrapped value. Assumes nothing.
use Rattle.std.proofs.Common.{◌∙◌, to_z, of_z, w64, to_z-of_z}
use lib.Signed.{quot_z}
use Rattle.laws.proofs.Machine.{back}
use Rattle.words.proofs.Signed.{quotient_is}
use Rattle.words.proofs.quot.Goals as goal

pub returns : goal.returns
returns c =
    let w = c.ranges in
    back _ c.wrapping_div.type_inv ∙ c.wrapping_div.ensures
    ∙ (λ i. to_z w64 (of_z w64 (quot_z (to_z-of_z w.x i) (to_z-of_z w.y i))))
    ∙ quotient_is c.args.x c.args.y w.x
