-- A word is read as its wrapped value. Assumes nothing.
use Rattle.std.proofs.Common.{◌∙◌}
use Rattle.laws.proofs.Machine.{back}
use Rattle.words.proofs.Signed.{signed_is}
use Rattle.words.proofs.of_bits.Goals as goal

pub returns : goal.returns
returns c = back _ c.cast_signed.type_inv ∙ c.cast_signed.ensures ∙ signed_is _ c.ranges.w.fits
