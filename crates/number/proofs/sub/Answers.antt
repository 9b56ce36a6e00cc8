-- The difference of the bits modulo 2^64 has the bits of the wrapped difference. Assumes nothing.
use Rattle.std.proofs.Common.{ℤ, pos, negsuc, ◌+◌, ◌-◌, ◌%◌, ◌^◌, ◌<◌, ◌∙◌, of_z, w64, SFits, arith}
use Rattle.meaning.specs.Number.{difference}
use Rattle.laws.proofs.Wrapping.{low_bits, wrap_sub}
use Rattle.words.proofs.Signed.{signed_is}
use Rattle.number.proofs.sub.Goals as goal

-- the bits are a word
is_word : (z : ℤ) → SFits w64 z → of_z w64 z < 2 ^ 64
is_word (pos n) f = omega (arith, f.sfits)
is_word (negsuc n) f = omega arith

pub returns : goal.returns
unfolding difference
returns c =
    let x = c.args.x in
    let y = c.args.y in
    let f = c.ranges.x in
    let g = c.ranges.y in
    signed_is _ (omega arith)
    ∙ wrap_sub x y f g ((of_z w64 x + (2 ^ 64 - of_z w64 y)) % 2 ^ 64) (omega (arith, low_bits x f, low_bits y g, is_word x f, is_word y g))
