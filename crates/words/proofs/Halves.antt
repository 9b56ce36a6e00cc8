-- Two words by their halves, below 2^32 each, and long multiplication by them. `omega` stops at numbers of more than 38 digits, so no statement here has
-- 2^64 times a word beside a bound on it. Assumes nothing.
use Rattle.std.proofs.Common.{◌≡◌, ℕ, ◌+◌, ◌*◌, ◌/◌, ◌%◌, ◌^◌, ◌≤◌, ◌∙◌, ap₂, le_trans, mul-le-mul_right, mul-le-mul_left, arith}

pub mul_mono : {x y : ℕ} (m n : ℕ) → x ≤ m → y ≤ n → x * y ≤ m * n
mul_mono {x} {y} m n h k = le_trans (mul-le-mul_left x k) (mul-le-mul_right n h)

foil : (p q r s : ℕ) → (p * 2 ^ 32 + q) * (r * 2 ^ 32 + s) ≡ p * r * 2 ^ 64 + (p * s + q * r) * 2 ^ 32 + q * s
foil p q r s = omega arith

-- a product by the four products of halves
pub whole_product : (a b : ℕ) → a * b ≡ a / 2 ^ 32 * (b / 2 ^ 32) * 2 ^ 64 + (a / 2 ^ 32 * (b % 2 ^ 32) + a % 2 ^ 32 * (b / 2 ^ 32)) * 2 ^ 32 + a % 2 ^ 32 * (b % 2 ^ 32)
whole_product a b = ap₂ (λ (m n : ℕ). m * n) (omega arith) (omega arith) ∙ foil (a / 2 ^ 32) (a % 2 ^ 32) (b / 2 ^ 32) (b % 2 ^ 32)

-- four products added column by column, with their carries
pub columns : (h m n l : ℕ) →
    (h + (m + l / 2 ^ 32) / 2 ^ 32 + (n + (m + l / 2 ^ 32) % 2 ^ 32) / 2 ^ 32) * 2 ^ 64 + ((n + (m + l / 2 ^ 32) % 2 ^ 32) % 2 ^ 32 * 2 ^ 32 + l % 2 ^ 32)
    ≡ h * 2 ^ 64 + (m + n) * 2 ^ 32 + l
columns h m n l = omega arith

-- what they leave modulo 2^64
pub low_columns : (h m n l : ℕ) → (l + (m + n) % 2 ^ 64 % 2 ^ 32 * 2 ^ 32) % 2 ^ 64 ≡ (h * 2 ^ 64 + (m + n) * 2 ^ 32 + l) % 2 ^ 64
low_columns h m n l = omega arith
