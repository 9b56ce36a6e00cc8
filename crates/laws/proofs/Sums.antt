-- add and sub of a pair: the exact sums go from the sum of the starts to the sum of the ends with none missing, and the split wraps them. Assumes nothing.
use lib.IntN.{ℤ, ◌+ℤ◌, ◌-ℤ◌}
use lib.ListN.{length}
use lib.Signed.{◌≤ℤ◌, ◌<ℤ◌, ≤ℤ_refl}
use mathlib.Core.Path.{◌≡◌, ap, ◌∙◌}
use Prim.Native.Nat.{◌≤◌}
use Rattle.meaning.specs.Number.{Between, wrap, sum, difference}
use Rattle.meaning.specs.Interval.{Proper, add_pair, sub_pair}
use Rattle.meaning.specs.NumberIntervals.{◌∈◌}
use Rattle.laws.proofs.Integers.{zarith, by_order, add_parts, sub_parts}
use Rattle.laws.proofs.Members.{AllProper, between}
use Rattle.laws.proofs.Splits.{split_holds, split_only, split_proper, split_few}

-- ---- every result is in

module _ {s x e t y f : ℤ} (bx : Between s x e) (by : Between t y f) where
  pub add_holds : sum x y ∈ add_pair s e t f
  unfolding sum add_pair
  add_holds =
      let m = add_parts x y in
      let l = add_parts s t in
      let h = add_parts e f in
      split_holds (between {lo = s +ℤ t} {z = x +ℤ y} {hi = e +ℤ f} (omega zarith) (omega zarith))

  pub sub_holds : difference x y ∈ sub_pair s e t f
  unfolding difference sub_pair
  sub_holds =
      let m = sub_parts x y in
      let l = sub_parts s f in
      let h = sub_parts e t in
      split_holds (between {lo = s -ℤ f} {z = x -ℤ y} {hi = e -ℤ t} (omega zarith) (omega zarith))

-- ---- every number in it is a result

-- members of [s,e] and [t,f] that give w
pub record From2 (op : ℤ → ℤ → ℤ) (s e t f w : ℤ) : Type 0 where
  pub left : ℤ
  pub right : ℤ
  pub left_in : Between s left e
  pub right_in : Between t right f
  pub gives : op left right ≡ w

module _ {s e t f w : ℤ} (p : Proper s e) (q : Proper t f) where
  -- an exact sum up to e + t has the right member t, one past it the left member e
  low_sum : (z : ℤ) → (s +ℤ t) ≤ℤ z → z ≤ℤ (e +ℤ t) → wrap z ≡ w → From2 sum s e t f w
  unfolding sum
  low_sum z h k g =
      let a = add_parts s t in
      let b = add_parts e t in
      let c = sub_parts z t in
      let d = add_parts (z -ℤ t) t in
      let i : (z -ℤ t) +ℤ t ≡ z = omega zarith in
      record { left = z -ℤ t; right = t; left_in = between (omega zarith) (omega zarith); right_in = between (≤ℤ_refl t) q.ordered; gives = ap wrap i ∙ g }

  high_sum : (z : ℤ) → (e +ℤ t) <ℤ z → z ≤ℤ (e +ℤ f) → wrap z ≡ w → From2 sum s e t f w
  unfolding sum
  high_sum z h k g =
      let a = add_parts e t in
      let b = add_parts e f in
      let c = sub_parts z e in
      let d = add_parts e (z -ℤ e) in
      let i : e +ℤ (z -ℤ e) ≡ z = omega zarith in
      record { left = e; right = z -ℤ e; left_in = between p.ordered (≤ℤ_refl e); right_in = between (omega zarith) (omega zarith); gives = ap wrap i ∙ g }

  pub add_only : w ∈ add_pair s e t f → From2 sum s e t f w
  unfolding add_pair
  add_only m =
      let a = add_parts s t in
      let b = add_parts e f in
      let o : (s +ℤ t) ≤ℤ (e +ℤ f) = omega (zarith, p.ordered, q.ordered) in
      let n = split_only o m in
      by_order (e +ℤ t) n.exact
      (λ h. high_sum n.exact h n.from_to.below n.wraps)
      (λ h. low_sum n.exact n.from_to.above h n.wraps)

  -- an exact difference up to e − f has the right member f, one past it the left member e
  low_difference : (z : ℤ) → (s -ℤ f) ≤ℤ z → z ≤ℤ (e -ℤ f) → wrap z ≡ w → From2 difference s e t f w
  unfolding difference
  low_difference z h k g =
      let a = sub_parts s f in
      let b = sub_parts e f in
      let c = add_parts z f in
      let d = sub_parts (z +ℤ f) f in
      let i : (z +ℤ f) -ℤ f ≡ z = omega zarith in
      record { left = z +ℤ f; right = f; left_in = between (omega zarith) (omega zarith); right_in = between q.ordered (≤ℤ_refl f); gives = ap wrap i ∙ g }

  high_difference : (z : ℤ) → (e -ℤ f) <ℤ z → z ≤ℤ (e -ℤ t) → wrap z ≡ w → From2 difference s e t f w
  unfolding difference
  high_difference z h k g =
      let a = sub_parts e f in
      let b = sub_parts e t in
      let c = sub_parts e z in
      let d = sub_parts e (e -ℤ z) in
      let i : e -ℤ (e -ℤ z) ≡ z = omega zarith in
      record { left = e; right = e -ℤ z; left_in = between p.ordered (≤ℤ_refl e); right_in = between (omega zarith) (omega zarith); gives = ap wrap i ∙ g }

  pub sub_only : w ∈ sub_pair s e t f → From2 difference s e t f w
  unfolding sub_pair
  sub_only m =
      let a = sub_parts s f in
      let b = sub_parts e t in
      let o : (s -ℤ f) ≤ℤ (e -ℤ t) = omega (zarith, p.ordered, q.ordered) in
      let n = split_only o m in
      by_order (e -ℤ f) n.exact
      (λ h. high_difference n.exact h n.from_to.below n.wraps)
      (λ h. low_difference n.exact n.from_to.above h n.wraps)

-- ---- their ends and number

module _ (s e t f : ℤ) where
  pub add_proper : AllProper (add_pair s e t f)
  unfolding add_pair
  add_proper = split_proper (s +ℤ t) (e +ℤ f)

  pub sub_proper : AllProper (sub_pair s e t f)
  unfolding sub_pair
  sub_proper = split_proper (s -ℤ f) (e -ℤ t)

  pub add_few : length (add_pair s e t f) ≤ 2
  unfolding add_pair
  add_few = split_few (s +ℤ t) (e +ℤ f)

  pub sub_few : length (sub_pair s e t f) ≤ 2
  unfolding sub_pair
  sub_few = split_few (s -ℤ f) (e -ℤ t)
