-- Integers by words: `Is z a b` says that z is a − b. Sums, products and orders of ℤ are then equations and orders of the words, with what was added to
-- them kept apart. Assumes nothing.
use mathlib.Core.Path.{◌≡◌, ap, ◌∙◌}
use Prim.Native.Nat.{ℕ, ◌+◌, ◌*◌, ◌/◌, ◌^◌, ◌≤◌, ◌<◌}
use native.Mathlib.Omega.{arith}
use lib.IntN.{ℤ, pos, negsuc, ◌+ℤ◌, ◌-ℤ◌, ◌*ℤ◌, sub_ℕ}
use lib.Signed.{◌≤ℤ◌, mag}
use mir.Facts.{to_z-of_z}
use Rattle.meaning.specs.Number.{window, wrap}
use Rattle.laws.proofs.Integers.{up, down, le_in, eq_in, eq_out, up_neg, down_neg, subℕ_parts, add_parts, sub_parts, mul_parts}
use Rattle.laws.proofs.Machine.{rd, ok}
use Rattle.laws.proofs.Wrapping.{wrap_parts}
use Rattle.wide.specs.Exact.{held}

pub record Is (z : ℤ) (a b : ℕ) : Type 0 where
  pub is : up z + b ≡ a + down z

pub is_same : {x y : ℤ} {a b : ℕ} → Is x a b → Is y a b → x ≡ y
is_same h k = eq_out (omega arith)

pub is_lit : (n k : ℕ) → Is (pos n) (n + k) k
is_lit n k = omega arith

pub is_minus : {x y : ℤ} {a b c d : ℕ} → Is x a b → Is y c d → Is (x -ℤ y) (a + d) (b + c)
is_minus {x} {y} h k = omega (arith, sub_parts x y)

pub is_mul : {x y : ℤ} {a b c d : ℕ} → Is x a b → Is y c d → Is (x *ℤ y) (a * c + b * d) (a * d + b * c)
is_mul {x} {y} {a} {b} {c} {d} h k =
    omega (
      arith,
      mul_parts x y,
      ap (λ (n : ℕ). n * c) h.is,
      ap (λ (n : ℕ). n * d) h.is,
      ap (λ (n : ℕ). up x * n) k.is,
      ap (λ (n : ℕ). down x * n) k.is,
    )

-- numbers with the same amount added are in the same order
pub in_order : {x y : ℤ} {m n k : ℕ} → Is x m k → Is y n k → x ≤ℤ y → m ≤ n
in_order h l o = omega (arith, le_in o)

-- ---- the word of an i64

-- n is z + k
pub plus : (z : ℤ) {n k : ℕ} → pos n ≡ z +ℤ pos k → Is z n k
plus z {n} {k} e = omega (arith, add_parts z (pos k), eq_in e)

-- ---- the two words of an exact number

pub is_held : (hi lo : ℕ) → Is (held hi lo) (hi * 2 ^ 64 + lo) (2 ^ 127 + 2 ^ 63)
unfolding held
is_held hi lo = difference (hi * 2 ^ 64 + lo) (2 ^ 127 + 2 ^ 63)
  where
    difference : (a b : ℕ) → Is (sub_ℕ a b) a b
    difference a b = omega (arith, subℕ_parts a b)

pub held_is : {z : ℤ} (hi lo : ℕ) → Is z (hi * 2 ^ 64 + lo) (2 ^ 127 + 2 ^ 63) → held hi lo ≡ z
held_is hi lo i = is_same (is_held hi lo) i

-- z is k − l windows up from window 0, and there w − 2^63
pub is_window : {z : ℤ} (k l : ℕ) {w : ℕ} → Is z (k * 2 ^ 64 + w) (l * 2 ^ 64 + 2 ^ 63) → w < 2 ^ 64 → Is (window z) k l
unfolding window
is_window {z = pos n} k l h b = omega arith
is_window {z = negsuc n} k l h b = omega (arith, up_neg (pos ((n + 2 ^ 63) / 2 ^ 64)), down_neg (pos ((n + 2 ^ 63) / 2 ^ 64)))

pub is_wrap : {z : ℤ} (k l : ℕ) {w : ℕ} → Is z (k * 2 ^ 64 + w) (l * 2 ^ 64 + 2 ^ 63) → w < 2 ^ 64 → Is (wrap z) w (2 ^ 63)
is_wrap {z} k l {w} h b = omega (arith, wrap_parts z, is_window k l h b)

-- the window and the wrapped value of what two words hold
module _ (hi lo : ℕ) (b : lo < 2 ^ 64) where
  pub window_held : Is (window (held hi lo)) hi (2 ^ 63)
  window_held = is_window hi (2 ^ 63) (is_held hi lo) b

  pub wrap_held : Is (wrap (held hi lo)) lo (2 ^ 63)
  wrap_held = is_wrap hi (2 ^ 63) (is_held hi lo) b

-- the result of `unword` at the lower word
pub end_held : (hi lo : ℕ) (r : ℤ) → lo < 2 ^ 64 → mag r < 2 ^ 63 → pos lo ≡ r +ℤ pos (2 ^ 63) → rd r ≡ wrap (held hi lo)
end_held hi lo r b m e = to_z-of_z (ok m) ∙ is_same (plus r e) (wrap_held hi lo b)
