-- Magnitudes, remainders by −1, the numbers beside a number, and a sum and a difference as the machine hands them on. Assumes nothing.
use Rattle.std.proofs.Common.{◌≡◌, ◌^◌, ◌<◌, ℤ, pos, negsuc, ◌+ℤ◌, ◌-ℤ◌, ◌<ℤ◌, sym, refl, ap, ◌∙◌, to_z-of_z, w64, SFits}
use lib.IntN.{suc_ℤ, pred_ℤ}
use lib.Signed.{mag, rem_z}
use Rattle.meaning.specs.Number.{wrap, negative, absolute, sum, difference}
use Rattle.laws.proofs.Integers.{zarith, add_parts, sub_parts, suc_parts, pred_parts, up_rem, down_rem}
use Rattle.laws.proofs.Machine.{rd, ok}

-- the magnitude of a number below 0
pub abs_neg : {x : ℤ} → x <ℤ pos 0 → negative x ≡ absolute x
unfolding negative absolute
abs_neg {x = pos n} h = omega zarith
abs_neg {x = negsuc n} h = refl

-- by −1
pub rem_minus : (x : ℤ) {y : ℤ} → y ≡ negsuc 0 → pos 0 ≡ rem_z x y
rem_minus x {y} e = at x ∙ ap (rem_z x) (sym e)
  where
    at : (x : ℤ) → pos 0 ≡ rem_z x (negsuc 0)
    at x = omega (zarith, up_rem x (negsuc 0), down_rem x (negsuc 0))

-- the numbers beside x
pub add_one_is : (x : ℤ) → x +ℤ pos 1 ≡ suc_ℤ x
add_one_is x = omega (zarith, add_parts x (pos 1), suc_parts x)

pub sub_one_is : (x : ℤ) → x -ℤ pos 1 ≡ pred_ℤ x
sub_one_is x = omega (zarith, sub_parts x (pos 1), pred_parts x)

-- what `add` and `sub` give, as the machine hands it on
module _ {x y r : ℤ} (f : SFits w64 x) (g : SFits w64 y) (h : mag r < 2 ^ 63) where
  pub add_gives : r ≡ sum (rd x) (rd y) → rd r ≡ wrap (x +ℤ y)
  unfolding sum
  add_gives e = to_z-of_z (ok h) ∙ e ∙ (λ i. wrap (to_z-of_z f i +ℤ to_z-of_z g i))

  pub sub_gives : r ≡ difference (rd x) (rd y) → rd r ≡ wrap (x -ℤ y)
  unfolding difference
  sub_gives e = to_z-of_z (ok h) ∙ e ∙ (λ i. wrap (to_z-of_z f i -ℤ to_z-of_z g i))
