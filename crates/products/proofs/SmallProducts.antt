-- Products of narrow intervals: the corners are in range and in window 0, so that the spread is the interval of the corners. Assumes nothing.
use mathlib.Core.Path.{◌≡◌, sym, ap, ap₂, ◌∙◌}
use mathlib.Core.Bool.{true, false}
use Prim.Native.Nat.{suc, ◌*◌}
use lib.IntN.{ℤ, pos, negsuc, ◌*ℤ◌}
use mir.Syntax.{w64}
use mir.Val.{SFits}
use mir.Facts.{to_z-of_z}
use Rattle.meaning.specs.Number.{Between, eq_z, window, thousandth}
use Rattle.meaning.specs.Interval.{one, span, far, least_corner, greatest_corner, mul_pair}
use Rattle.laws.proofs.Integers.{zarith, up_neg, down_neg, sub_parts}
use Rattle.laws.proofs.Machine.{num, fits_out, rd}
use Rattle.laws.proofs.Wrapping.{wrap_parts, wrap_id}
use Rattle.laws.proofs.Spread.{spread_one}
use Rattle.laws.proofs.Products.{least_above, greatest_below, corners_ordered}
use Rattle.words.proofs.Halves.{mul_mono}
use Rattle.products.specs.Narrow.{Narrow}
use Rattle.products.specs.Thousandths.{thousandths}
use Rattle.products.proofs.Thousandths.{thousandths_are}

abbrev Small : ℤ → Type 0
Small z = Between (negsuc 2147483647) z (pos 2147483648)

abbrev Product : ℤ → Type 0
Product z = Between (negsuc 4611686018427387903) z (pos 4611686018427387904)

small_product : (x y : ℤ) → Small x → Small y → Product (x *ℤ y)
small_product (pos a) (pos b) h k =
    let m = mul_mono {x = a} {y = b} 2147483648 2147483648 (omega (zarith, h.below)) (omega (zarith, k.below)) in
    record { above = omega zarith; below = omega zarith }
small_product (pos a) (negsuc b) h k =
    let m = mul_mono {x = a} {y = suc b} 2147483648 2147483648 (omega (zarith, h.below)) (omega (zarith, k.above)) in
    let u = up_neg (pos (a * suc b)) in
    let d = down_neg (pos (a * suc b)) in
    record { above = omega zarith; below = omega zarith }
small_product (negsuc a) (pos b) h k =
    let m = mul_mono {x = suc a} {y = b} 2147483648 2147483648 (omega (zarith, h.above)) (omega (zarith, k.below)) in
    let u = up_neg (pos (suc a * b)) in
    let d = down_neg (pos (suc a * b)) in
    record { above = omega zarith; below = omega zarith }
small_product (negsuc a) (negsuc b) h k =
    let m = mul_mono {x = suc a} {y = suc b} 2147483648 2147483648 (omega (zarith, h.above)) (omega (zarith, k.above)) in
    record { above = omega zarith; below = omega zarith }

fits : {z : ℤ} → Product z → SFits w64 z
fits {z} h = fits_out z (omega (zarith, h.above, h.below), omega (zarith, h.above, h.below))

window_zero : (z : ℤ) → SFits w64 z → window z ≡ pos 0
window_zero z f = let e = wrap_id z f in omega (zarith, num f, wrap_parts z)

module _ {s e : ℤ} (h : Narrow s e) where
  start_small : Small s
  start_small = record { above = h.low; below = omega (zarith, h.ordered, h.high) }

  end_small : Small e
  end_small = record { above = omega (zarith, h.low, h.ordered); below = h.high }

module _ (s e t f : ℤ) (h : Narrow s e) (k : Narrow t f) where
  st : Product (s *ℤ t)
  st = small_product s t (start_small h) (start_small k)

  sf : Product (s *ℤ f)
  sf = small_product s f (start_small h) (end_small k)

  et : Product (e *ℤ t)
  et = small_product e t (end_small h) (start_small k)

  ef : Product (e *ℤ f)
  ef = small_product e f (end_small h) (end_small k)

  -- each corner is in range
  pub st_fits : SFits w64 (s *ℤ t)
  st_fits = fits st

  pub sf_fits : SFits w64 (s *ℤ f)
  sf_fits = fits sf

  pub et_fits : SFits w64 (e *ℤ t)
  et_fits = fits et

  pub ef_fits : SFits w64 (e *ℤ f)
  ef_fits = fits ef

  pub small_mul : span (thousandth (least_corner ◌*ℤ◌ s e t f)) (thousandth (greatest_corner ◌*ℤ◌ s e t f)) ≡ mul_pair s e t f
  small_mul =
      let p = least_corner ◌*ℤ◌ s e t f in
      let q = greatest_corner ◌*ℤ◌ s e t f in
      let a = least_above ◌*ℤ◌ s e t f st.above sf.above et.above ef.above in
      let b = greatest_below ◌*ℤ◌ s e t f st.below sf.below et.below ef.below in
      let o = corners_ordered ◌*ℤ◌ s e t f in
      let m : Product p = record { above = a; below = omega zarith } in
      let n : Product q = record { above = omega zarith; below = b } in
      let c : far p q ≡ false = omega (zarith, a, b, sub_parts q p) in
      let u = window_zero p (fits m) in
      let v = window_zero q (fits n) in
      let d : eq_z (window p) (window q) ≡ true = omega zarith in
      ap thousandths (ap₂ one (sym (wrap_id p (fits m))) (sym (wrap_id q (fits n))) ∙ sym (spread_one p q c d)) ∙ sym (thousandths_are s e t f)

-- a product in range, as the machine reads it back
pub product_read : {x y : ℤ} → SFits w64 x → SFits w64 y → SFits w64 (x *ℤ y) → rd (rd x *ℤ rd y) ≡ x *ℤ y
product_read f g h = (λ i. rd (to_z-of_z f i *ℤ to_z-of_z g i)) ∙ to_z-of_z h
