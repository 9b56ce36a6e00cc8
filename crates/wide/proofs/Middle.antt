-- An exact number z as two words, z + 2^127 + 2^63, from its sign and its magnitude h·2^64 + l. Assumes nothing.
use mathlib.Core.Path.{◌≡◌, ap, sym, ◌∙◌}
use Rattle.std.proofs.Common.{ltb}
use Rattle.std.proofs.lemmas.Bool.{ltb-true}
use Rattle.laws.proofs.Integers.{never, by_test}
use Prim.Native.Nat.{ℕ, suc, ◌+◌, ◌*◌, ◌/◌, ◌%◌}
use native.Mathlib.Nat.{div-add-mod'}
use native.Mathlib.Omega.{arith}
use mathlib.Core.Bool.{true, false, beq}
use lib.IntN.{ℤ, pos, negsuc, nat_abs, ◌*ℤ◌}
use lib.Signed.{lt_z}
use Rattle.wide.proofs.Words.{Is, is_mul}

-- with any M for 2^64 and any H for 2^63, so that `omega` sees no large number
pub is_above : (M H : ℕ) {z : ℤ} (h l : ℕ) {n p q : ℕ} → Is z n 0 → h * M + l ≡ n
    → (p ≡ h + H + (l + H) / M) × (q ≡ (l + H) % M) → Is z (p * M + q) (H * M + H)
is_above M H h l i e (ep, eq) = omega (arith, div-add-mod' (l + H) M, ap (λ (k : ℕ). k * M) ep)

pub is_below : (M H : ℕ) {z : ℤ} (h l p q : ℕ) {n : ℕ} → Is z 0 n → h * M + l ≡ n
    → (p + h + (q + l) / M ≡ H) × ((q + l) % M ≡ H) → Is z (p * M + q) (H * M + H)
is_below M H h l p q i e (ep, eq) = omega (arith, div-add-mod' (q + l) M, ap (λ (k : ℕ). k * M) ep)

-- the product of two numbers by their magnitudes, where their signs are equal and where they differ
from_pos : (n : ℕ) → Is (pos n) n 0
from_pos n = omega arith

from_neg : (n : ℕ) → Is (negsuc n) 0 (suc n)
from_neg n = omega arith

not_below : (a : ℕ) → lt_z (pos a) (pos 0) ≡ false
not_below a = by_test (ltb a 0) (λ p. absurd (omega (arith, ltb-true a 0 p))) (λ p. p)

pub is_up : (x y : ℤ) → beq (lt_z x (pos 0)) (lt_z y (pos 0)) ≡ true → Is (x *ℤ y) (nat_abs x * nat_abs y) 0
is_up (pos a) (pos b) e = omega (arith, is_mul (from_pos a) (from_pos b))
is_up (negsuc a) (negsuc b) e = omega (arith, is_mul (from_neg a) (from_neg b))
is_up (pos a) (negsuc b) e = never (sym e ∙ (λ i. beq (not_below a i) true))
is_up (negsuc a) (pos b) e = never (sym e ∙ (λ i. beq true (not_below b i)))

pub is_down : (x y : ℤ) → beq (lt_z x (pos 0)) (lt_z y (pos 0)) ≡ false → Is (x *ℤ y) 0 (nat_abs x * nat_abs y)
is_down (pos a) (pos b) e = never (sym (λ i. beq (not_below a i) (not_below b i)) ∙ e)
is_down (negsuc a) (negsuc b) e = never e
is_down (pos a) (negsuc b) e = omega (arith, is_mul (from_pos a) (from_neg b))
is_down (negsuc a) (pos b) e = omega (arith, is_mul (from_neg a) (from_pos b))
