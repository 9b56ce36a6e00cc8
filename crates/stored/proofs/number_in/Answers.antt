-- The word is the eight bytes, each at its place, and `of_bits` reads it in two's complement.
use Rattle.std.proofs.Common.{◌≡◌, ℕ, List, pos, ap, ◌∙◌, arith, w64}
use Rattle.std.specs.Int.{from_le_bytes}
use mir.Facts.{to_z-of_z}
use Rattle.meaning.specs.Number.{wrap}
use Rattle.laws.proofs.Machine.{ok}
use Rattle.stored.specs.Stored.{bits_at}
use Rattle.stored.proofs.number_in.Goals as goal

eight : (s : List ℕ) → from_le_bytes w64 s ≡ bits_at 8 0 s
unfolding bits_at
eight s = omega arith

pub returns : goal.returns
returns c = to_z-of_z (ok c.of_bits.type_inv) ∙ c.of_bits.ensures ∙ ap (λ (n : ℕ). wrap (pos n)) (c.from_le_bytes.ensures ∙ eight c.args.b.now)
