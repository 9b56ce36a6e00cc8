-- The product is the sum of the four products of halves at their columns, and the columns from 2^64 up fall out. Assumes nothing.
use Rattle.std.proofs.Common.{ℕ, ◌*◌, ◌/◌, ◌%◌, ◌^◌, sym, ap, ◌∙◌}
use Rattle.words.proofs.Halves.{whole_product, low_columns}
use Rattle.words.proofs.wrapping_mul_u64.Goals as goal

pub returns : goal.returns
returns c =
    let a = c.args.a in
    let b = c.args.b in
    low_columns (a / 2 ^ 32 * (b / 2 ^ 32)) (a / 2 ^ 32 * (b % 2 ^ 32)) (a % 2 ^ 32 * (b / 2 ^ 32)) (a % 2 ^ 32 * (b % 2 ^ 32))
    ∙ ap (λ (n : ℕ). n % 2 ^ 64) (sym (whole_product a b))
