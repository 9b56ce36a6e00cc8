-- The negative of MIN, 2^63, wraps to MIN; any other negative is in range and is its own wrapped value. Assumes nothing.
use Rattle.std.proofs.Common.{◌∙◌, ◌-◌, ◌%◌, ◌^◌, to_z, of_z, w64, to_z-of_z}
use Rattle.words.proofs.Signed.{negative_is}
use Rattle.laws.proofs.Machine.{back}
use Rattle.words.proofs.neg.Goals as goal

pub returns : goal.returns
returns c = back _ c.wrapping_neg.type_inv ∙ c.wrapping_neg.ensures ∙ (λ i. to_z w64 ((2 ^ 64 - of_z w64 (to_z-of_z c.ranges.x i)) % 2 ^ 64)) ∙ negative_is _ c.ranges.x
