-- The bits of a number from MIN to MAX are its residue. Assumes nothing.
use Rattle.std.proofs.Common.{sym, ap, ◌∙◌, of_z, w64, to_z-of_z}
use Rattle.laws.proofs.Wrapping.{low_bits}
use Rattle.words.proofs.bits.Goals as goal

pub returns : goal.returns
returns c = c.cast_unsigned.ensures ∙ ap (of_z w64) (to_z-of_z c.ranges.x) ∙ sym (low_bits _ c.ranges.x)
