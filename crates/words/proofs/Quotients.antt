-- The quotient by −1 is the negative. Assumes nothing.
use Rattle.std.proofs.Common.{◌≡◌, ℤ, negsuc, neg_ℤ, sym, ap, ◌∙◌}
use lib.Signed.{quot_z}
use Rattle.meaning.specs.Number.{wrap, negative}
use Rattle.laws.proofs.Integers.{zarith, up_neg, down_neg, up_quot_neg, down_quot_neg}

pub quot_minus : (x : ℤ) {y : ℤ} → y ≡ negsuc 0 → negative x ≡ wrap (quot_z x y)
unfolding negative
quot_minus x {y} e = ap wrap (at x ∙ ap (quot_z x) (sym e))
  where
    at : (x : ℤ) → neg_ℤ x ≡ quot_z x (negsuc 0)
    at x = omega (zarith, up_neg x, down_neg x, up_quot_neg x 0, down_quot_neg x 0)
