-- The sum of the bits modulo 2^64 has the bits of the wrapped sum. Assumes nothing.
use Rattle.std.proofs.Common.{◌+◌, ◌%◌, ◌^◌, pos, sym, ◌∙◌, arith}
use Rattle.meaning.specs.Number.{sum, wrap}
use Rattle.laws.proofs.Wrapping.{low_bits, wrap_add}
use Rattle.words.proofs.Signed.{signed_is}
use Rattle.number.proofs.add.Goals as goal

pub returns : goal.returns
unfolding sum
returns c =
    let f = c.ranges.x in
    let g = c.ranges.y in
    signed_is _ (omega arith)
    ∙ sym (λ i. wrap (pos ((low_bits c.args.x f i + low_bits c.args.y g i) % 2 ^ 64)))
    ∙ wrap_add c.args.x c.args.y f g
