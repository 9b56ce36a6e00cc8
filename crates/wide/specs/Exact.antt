-- The exact number that two words hold: hi·2^64 + lo, less 2^127 + 2^63. Assumes nothing.
use Rattle.std.specs.Prelude.{ℕ, ◌+◌, ◌*◌, ◌^◌, ℤ}
use Rattle.std.proofs.Math.IntN.{sub_ℕ}
use Rattle.wide.specs.declared.product.Wide.{Wide}

unfoldable pub held : ℕ → ℕ → ℤ
held hi lo = sub_ℕ (hi * 2 ^ 64 + lo) (2 ^ 127 + 2 ^ 63)

abbrev pub number_of : Wide → ℤ
number_of w = held w.hi w.lo
