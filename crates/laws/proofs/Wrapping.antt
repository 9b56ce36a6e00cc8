-- Wrapping: a wrapped number is from MIN to MAX and differs from the exact one by a multiple of 2^64, and there is one such number only.
-- `wrap_parts z` and `num (wrap_fits z)` are what `omega` needs of wrap z. Assumes nothing.
use mathlib.Core.Path.{◌≡◌, refl, sym, ap, ◌∙◌}
use Prim.Native.Nat.{ℕ, suc, ◌+◌, ◌-◌, ◌*◌, ◌/◌, ◌%◌, ◌^◌, ◌<◌}
use native.Mathlib.Omega.{arith}
use lib.IntN.{ℤ, pos, negsuc, ◌+ℤ◌, ◌-ℤ◌, ◌*ℤ◌}
use lib.Signed.{◌≤ℤ◌}
use mir.Syntax.{w64}
use mir.Val.{SFits, of_z}
use Rattle.meaning.specs.Number.{InRange, window, wrap, InWindow, Windows}
use Rattle.laws.proofs.Integers.{up, down, zarith, add_parts, sub_parts, up_neg, down_neg, up_scale, down_scale}
use Rattle.laws.proofs.Machine.{num, fits_out, bits, sg, fits_range, range_fits}

pub wrap_parts : (z : ℤ) → up (wrap z) + down z + 2 ^ 64 * up (window z) ≡ down (wrap z) + up z + 2 ^ 64 * down (window z)
unfolding wrap
wrap_parts z = omega (arith, sub_parts z (pos (2 ^ 64) *ℤ window z), up_scale (2 ^ 64) (window z), down_scale (2 ^ 64) (window z))

pub wrap_fits : (z : ℤ) → SFits w64 (wrap z)
unfolding window
wrap_fits (pos n) = fits_out _ (omega (zarith, wrap_parts (pos n)))
wrap_fits (negsuc n) = fits_out _ (omega (zarith, wrap_parts (negsuc n), up_neg (pos ((n + 2 ^ 63) / 2 ^ 64)), down_neg (pos ((n + 2 ^ 63) / 2 ^ 64))))

pub wrap_is : (r z : ℤ) (i j : ℕ) → SFits w64 r → up r + down z + 2 ^ 64 * i ≡ down r + up z + 2 ^ 64 * j → r ≡ wrap z
wrap_is r z i j h e = omega (zarith, num h, num (wrap_fits z), wrap_parts z)

-- a number in range is its own wrapped value
pub wrap_id : (z : ℤ) → SFits w64 z → wrap z ≡ z
wrap_id z h = sym (wrap_is z z 0 0 h (omega arith))

pub wrap_cong : (a b : ℤ) (i j : ℕ) → up a + down b + 2 ^ 64 * i ≡ down a + up b + 2 ^ 64 * j → wrap a ≡ wrap b
wrap_cong a b i j e =
    wrap_is (wrap a) b (up (window a) + i) (down (window a) + j) (wrap_fits a) (omega (arith, wrap_parts a))

-- ---- the residue modulo 2^64: the two's complement bits of an i64
unfoldable pub low : ℤ → ℕ
low (pos n) = n % 2 ^ 64
low (negsuc n) = (2 ^ 64 - 1) - n % 2 ^ 64

pub low_bits : (z : ℤ) → SFits w64 z → low z ≡ of_z w64 z
unfolding low
low_bits (pos n) h = omega (arith, h.sfits)
low_bits (negsuc n) h = omega (arith, h.sfits)

-- sums and differences of the bits, modulo 2^64, are those of the numbers
module _ (x y : ℤ) (f : SFits w64 x) (g : SFits w64 y) where
  pub wrap_add : wrap (pos ((low x + low y) % 2 ^ 64)) ≡ wrap (x +ℤ y)
  wrap_add =
      wrap_cong _ _ ((low x + low y) / 2 ^ 64) (sg x + sg y)
      (omega (arith, add_parts x y, low_bits x f, low_bits y g, bits x f, bits y g))

  pub wrap_sub : (r : ℕ) → (r + low y) % 2 ^ 64 ≡ low x → wrap (pos r) ≡ wrap (x -ℤ y)
  wrap_sub r h =
      wrap_cong _ _ (sg y) (sg x + (r + low y) / 2 ^ 64)
      (omega (arith, sub_parts x y, low_bits x f, low_bits y g, bits x f, bits y g))

-- the product of the bits, modulo 2^64, is that of the numbers
low_pos : (n : ℕ) → SFits w64 (pos n) → low (pos n) ≡ n
low_pos n f = low_bits (pos n) f

low_neg : (n : ℕ) → SFits w64 (negsuc n) → low (negsuc n) + suc n ≡ 2 ^ 64
low_neg n f = omega (arith, low_bits (negsuc n) f, f.sfits)

-- (stated over m, since 2^64 times 2^64 is more than `omega` takes)
crossed : (a b p q m : ℕ) → a + p ≡ m → b + q ≡ m → a * b + m * q ≡ m * a + p * q
crossed a b p q m h k = omega (arith, ap (λ (n : ℕ). a * n) k, ap (λ (n : ℕ). n * q) h)

pub wrap_mul : (x y : ℤ) → SFits w64 x → SFits w64 y → wrap (pos ((low x * low y) % 2 ^ 64)) ≡ wrap (x *ℤ y)
wrap_mul (pos a) (pos b) f g =
    wrap_cong _ _ ((low (pos a) * low (pos b)) / 2 ^ 64) 0
    (omega (arith, ap (λ (n : ℕ). n * low (pos b)) (low_pos a f), ap (λ (n : ℕ). a * n) (low_pos b g)))
wrap_mul (pos a) (negsuc b) f g =
    wrap_cong _ _ ((low (pos a) * low (negsuc b)) / 2 ^ 64) a
    (omega (arith, ap (λ (n : ℕ). n * low (negsuc b)) (low_pos a f), ap (λ (n : ℕ). a * n) (low_neg b g), up_neg (pos (a * suc b)), down_neg (pos (a * suc b))))
wrap_mul (negsuc a) (pos b) f g =
    wrap_cong _ _ ((low (negsuc a) * low (pos b)) / 2 ^ 64) b
    (omega (arith, ap (λ (n : ℕ). low (negsuc a) * n) (low_pos b g), ap (λ (n : ℕ). n * b) (low_neg a f), up_neg (pos (suc a * b)), down_neg (pos (suc a * b))))
wrap_mul (negsuc a) (negsuc b) f g =
    wrap_cong _ _ ((low (negsuc a) * low (negsuc b)) / 2 ^ 64 + suc b) (low (negsuc a))
    (omega (arith, crossed (low (negsuc a)) (low (negsuc b)) (suc a) (suc b) (2 ^ 64) (low_neg a f) (low_neg b g)))

-- the difference of the bits, modulo 2^64, is the distance upward
pub dist_is : {s e : ℤ} → SFits w64 s → SFits w64 e → s ≤ℤ e → (r : ℕ) → r < 2 ^ 64 → (r + low s) % 2 ^ 64 ≡ low e → pos r ≡ e -ℤ s
dist_is {s} {e} f g h r l k =
    omega (zarith, num f, num g, sub_parts e s, low_bits s f, low_bits e g, bits s f, bits e g)

pub wrap_range : (z : ℤ) → InRange (wrap z)
wrap_range z = fits_range (wrap_fits z)

-- ---- what 01 says of windows and wrapped values

-- the ends of window k, for the list of `omega`
low_end : (k : ℤ) → up ((pos (2 ^ 64) *ℤ k) -ℤ pos (2 ^ 63)) + 2 ^ 64 * down k + 2 ^ 63 ≡ down ((pos (2 ^ 64) *ℤ k) -ℤ pos (2 ^ 63)) + 2 ^ 64 * up k
low_end k = omega (arith, sub_parts (pos (2 ^ 64) *ℤ k) (pos (2 ^ 63)), up_scale (2 ^ 64) k, down_scale (2 ^ 64) k)

high_end : (k : ℤ) → up ((pos (2 ^ 64) *ℤ k) +ℤ pos (2 ^ 63 - 1)) + 2 ^ 64 * down k ≡ down ((pos (2 ^ 64) *ℤ k) +ℤ pos (2 ^ 63 - 1)) + 2 ^ 64 * up k + (2 ^ 63 - 1)
high_end k = omega (arith, add_parts (pos (2 ^ 64) *ℤ k) (pos (2 ^ 63 - 1)), up_scale (2 ^ 64) k, down_scale (2 ^ 64) k)

in_window : (z : ℤ) → InWindow (window z) z
in_window z =
    let f = num (wrap_fits z) in
    record { above = omega (zarith, wrap_parts z, low_end (window z)); below = omega (zarith, wrap_parts z, high_end (window z)) }

one_window : (k z : ℤ) → InWindow k z → k ≡ window z
one_window k z h =
    let w = in_window z in
    omega (zarith, h.above, h.below, w.above, w.below, low_end k, high_end k, low_end (window z), high_end (window z))

less : (z : ℤ) → z -ℤ (pos (2 ^ 64) *ℤ window z) ≡ wrap z
unfolding wrap
less z = refl

pub windows : Windows
windows = record {
  in_window = in_window;
  one_window = one_window;
  wrap_range = wrap_range;
  wrap_less = λ k z h. sym (less z) ∙ ap (λ (j : ℤ). z -ℤ (pos (2 ^ 64) *ℤ j)) (sym (one_window k z h));
  wrap_only = λ k z w r e. wrap_is w z (up k) (down k) (range_fits r) (omega (zarith, e, sub_parts z (pos (2 ^ 64) *ℤ k), up_scale (2 ^ 64) k, down_scale (2 ^ 64) k));
}
