-- The magnitude as a word is read as its wrapped value. Assumes nothing.
use Rattle.std.proofs.Common.{◌∙◌, to_z-of_z, to_z, w64, nat_abs}
use Rattle.meaning.specs.Number.{absolute}
use Rattle.laws.proofs.Machine.{back, num}
use Rattle.laws.proofs.Integers.{zarith, abs_parts}
use Rattle.words.proofs.Signed.{signed_is}
use Rattle.number.proofs.abs.Goals as goal

pub returns : goal.returns
unfolding absolute
returns c =
    let f = c.ranges.x in
    back _ c.wrapping_abs.type_inv ∙ c.wrapping_abs.ensures ∙ (λ i. to_z w64 (nat_abs (to_z-of_z f i))) ∙ signed_is (nat_abs c.args.x) (omega (zarith, num f, abs_parts c.args.x))
