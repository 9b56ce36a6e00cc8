-- What is written is the rule, cut: no interval is dropped, and each end that the rule writes is cut to that of the range of products. Assumes nothing.
use lib.IntN.{ℤ, ◌*ℤ◌}
use mathlib.Core.Path.{◌≡◌, refl}
use Rattle.meaning.specs.Interval.{spread, least_corner, greatest_corner, uncut_pair, mul_pair}
use Rattle.laws.proofs.Products.{corners_ordered, cut_case}
use Rattle.products.specs.Thousandths.{thousandths}

pub thousandths_are : (s e t f : ℤ) → mul_pair s e t f ≡ thousandths (spread (least_corner ◌*ℤ◌ s e t f) (greatest_corner ◌*ℤ◌ s e t f))
unfolding mul_pair uncut_pair
thousandths_are s e t f =
    cut_case (λ r l. l ≡ thousandths r) refl (λ u v. refl) (λ u v. refl) (least_corner ◌*ℤ◌ s e t f) (greatest_corner ◌*ℤ◌ s e t f) (corners_ordered ◌*ℤ◌ s e t f)
