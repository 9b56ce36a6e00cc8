-- Each column of the long multiplication leaves room for the carry of the one before, and the columns add up to the product; the lower two are what is left
-- modulo 2^64.
-- Assumes nothing.
use mathlib.Core.Path.{◌≡◌, sym, ap, ◌∙◌}
use Prim.Native.Nat.{ℕ, ◌+◌, ◌*◌, ◌/◌, ◌%◌, ◌^◌, ◌<◌}
use native.Mathlib.Omega.{arith}
use Rattle.words.proofs.Halves.{whole_product, columns}
use Rattle.wide.proofs.product.full.Goals as goal

-- the lower word, by the upper one and some lower word
low_word : (h l n : ℕ) → l < 2 ^ 64 → h * 2 ^ 64 + l ≡ n → h * 2 ^ 64 + n % 2 ^ 64 ≡ n
low_word h l n k e = omega arith

pub returns : goal.returns
returns c =
    let a = c.args.a in
    let b = c.args.b in
    let h = a / 2 ^ 32 * (b / 2 ^ 32) in
    let m = a / 2 ^ 32 * (b % 2 ^ 32) in
    let n = a % 2 ^ 32 * (b / 2 ^ 32) in
    let l = a % 2 ^ 32 * (b % 2 ^ 32) in
    ap (λ (w : ℕ). (h + (m + l / 2 ^ 32) / 2 ^ 32 + (n + (m + l / 2 ^ 32) % 2 ^ 32) / 2 ^ 32) * 2 ^ 64 + w) c.wrapping_mul_u64-lo.ensures
    ∙ low_word (h + (m + l / 2 ^ 32) / 2 ^ 32 + (n + (m + l / 2 ^ 32) % 2 ^ 32) / 2 ^ 32) ((n + (m + l / 2 ^ 32) % 2 ^ 32) % 2 ^ 32 * 2 ^ 32 + l % 2 ^ 32) (a * b) (omega
    arith) (columns h m n l ∙ sym (whole_product a b))
