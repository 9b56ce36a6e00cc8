-- The wrapped value of a word less 2^63 is in range. Assumes nothing.
use Rattle.std.proofs.Common.{◌+◌, ◌%◌, ◌^◌, pos}
use Rattle.laws.proofs.Integers.{zarith, add_parts}
use Rattle.laws.proofs.Machine.{num, ok, rd}
use Rattle.laws.proofs.Wrapping.{wrap_parts}
use Rattle.wide.proofs.word.unword.Goals as goal

pub returns : goal.returns
returns c =
    let r = c.of_bits.result in
    omega (zarith, c.of_bits.ensures, num {z = r} (ok c.of_bits.type_inv), wrap_parts (pos ((c.args.w + 2 ^ 63) % 2 ^ 64)), add_parts (rd r) (pos (2 ^ 63)))
