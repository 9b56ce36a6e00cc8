-- mul of a pair: every product lies between the least and the greatest corner product, since over one factor a product is greatest and least at an end; the spread does the rest.
-- The cut to the range of products loses no product. Assumes nothing.
use lib.IntN.{ℤ, pos, negsuc, ◌*ℤ◌, *ℤ_comm}
use lib.ListN.{length}
use lib.Signed.{le_z, ◌≤ℤ◌, ≤ℤ_refl}
use mathlib.Core.Path.{◌≡◌, refl, sym, ap, ap₂, subst}
use mathlib.Core.Bool.{true}
use mathlib.Core.List.{List, [], ◌++◌}
use Prim.Native.Nat.{suc, ◌≤◌}
use native.Mathlib.Nat.{mul-le-mul_right}
use native.Mathlib.Omega.{arith}
use Rattle.meaning.specs.Number.{MIN, MAX, Between, InRange, smaller, larger, wrap, thousandth, product, least_product, greatest_product}
use Rattle.meaning.specs.Interval.{Interval, span, Proper, each, meet_pair, cut_to, Spread, whole, one, two, pieces, spread, least_corner, greatest_corner, uncut_pair, mul_pair}
use Rattle.meaning.specs.NumberIntervals.{◌∈◌}
use Rattle.laws.proofs.Integers.{zarith, le_in, mul_parts, one_part, up_quot, down_quot, smaller_le, larger_ge, smaller_case, larger_case}
use Rattle.laws.proofs.Wrapping.{wrap_range}
use Rattle.laws.proofs.Members.{between, AllProper}
use Rattle.laws.proofs.Compare.{cut_holds, cut_only, cut_proper}
use Rattle.laws.proofs.Spread.{same_low, spread_case, thousandth_scale, spread_holds, spread_proper, spread_few}

-- ---- the four corners of any operation

pub record Corners (op : ℤ → ℤ → ℤ) (s e t f p q : ℤ) : Type 0 where
  pub low_st : p ≤ℤ op s t
  pub low_sf : p ≤ℤ op s f
  pub low_et : p ≤ℤ op e t
  pub low_ef : p ≤ℤ op e f
  pub high_st : op s t ≤ℤ q
  pub high_sf : op s f ≤ℤ q
  pub high_et : op e t ≤ℤ q
  pub high_ef : op e f ≤ℤ q

pub corners : (op : ℤ → ℤ → ℤ) (s e t f : ℤ) → Corners op s e t f (least_corner op s e t f) (greatest_corner op s e t f)
unfolding least_corner greatest_corner
corners op s e t f =
    let a = smaller_le (op s t) (op s f) in
    let b = smaller_le (op e t) (op e f) in
    let c = smaller_le (smaller (op s t) (op s f)) (smaller (op e t) (op e f)) in
    let g = larger_ge (op s t) (op s f) in
    let h = larger_ge (op e t) (op e f) in
    let k = larger_ge (larger (op s t) (op s f)) (larger (op e t) (op e f)) in
    record {
      low_st = omega (zarith, a, c);
      low_sf = omega (zarith, a, c);
      low_et = omega (zarith, b, c);
      low_ef = omega (zarith, b, c);
      high_st = omega (zarith, g, k);
      high_sf = omega (zarith, g, k);
      high_et = omega (zarith, h, k);
      high_ef = omega (zarith, h, k);
    }

pub corners_ordered : (op : ℤ → ℤ → ℤ) (s e t f : ℤ) → least_corner op s e t f ≤ℤ greatest_corner op s e t f
corners_ordered op s e t f = let c = corners op s e t f in omega (zarith, c.low_st, c.high_st)

-- what is at most all four corners, or at least all four
pub least_above : (op : ℤ → ℤ → ℤ) (s e t f : ℤ) {m : ℤ} → m ≤ℤ op s t → m ≤ℤ op s f → m ≤ℤ op e t → m ≤ℤ op e f → m ≤ℤ least_corner op s e t f
unfolding least_corner
least_above op s e t f {m} a b c d =
    smaller_case (λ z. m ≤ℤ z) (smaller (op s t) (op s f)) (smaller (op e t) (op e f))
    (λ _. smaller_case (λ z. m ≤ℤ z) (op s t) (op s f) (λ _. a) (λ _. b))
    (λ _. smaller_case (λ z. m ≤ℤ z) (op e t) (op e f) (λ _. c) (λ _. d))

pub greatest_below : (op : ℤ → ℤ → ℤ) (s e t f : ℤ) {m : ℤ} → op s t ≤ℤ m → op s f ≤ℤ m → op e t ≤ℤ m → op e f ≤ℤ m → greatest_corner op s e t f ≤ℤ m
unfolding greatest_corner
greatest_below op s e t f {m} a b c d =
    larger_case (λ z. z ≤ℤ m) (larger (op s t) (op s f)) (larger (op e t) (op e f))
    (λ _. larger_case (λ z. z ≤ℤ m) (op e t) (op e f) (λ _. d) (λ _. c))
    (λ _. larger_case (λ z. z ≤ℤ m) (op s t) (op s f) (λ _. b) (λ _. a))

-- ---- products over one factor y, for x from a to b

low_at : {m a b x : ℤ} (y : ℤ) → Between a x b → m ≤ℤ (a *ℤ y) → m ≤ℤ (b *ℤ y) → m ≤ℤ (x *ℤ y)
low_at {m} {a} {b} {x} (pos k) h i j = omega (zarith, i, mul_parts a (pos k), mul_parts x (pos k), mul-le-mul_right k (le_in h.above))
low_at {m} {a} {b} {x} (negsuc k) h i j = omega (zarith, j, mul_parts b (negsuc k), mul_parts x (negsuc k), mul-le-mul_right (suc k) (le_in h.below))

high_at : {m a b x : ℤ} (y : ℤ) → Between a x b → (a *ℤ y) ≤ℤ m → (b *ℤ y) ≤ℤ m → (x *ℤ y) ≤ℤ m
high_at {m} {a} {b} {x} (pos k) h i j = omega (zarith, j, mul_parts b (pos k), mul_parts x (pos k), mul-le-mul_right k (le_in h.below))
high_at {m} {a} {b} {x} (negsuc k) h i j = omega (zarith, i, mul_parts a (negsuc k), mul_parts x (negsuc k), mul-le-mul_right (suc k) (le_in h.above))

module _ {s e t f x y : ℤ} (h : Between s x e) (k : Between t y f) where
  pub corner_le : least_corner ◌*ℤ◌ s e t f ≤ℤ (x *ℤ y)
  corner_le =
      let c = corners ◌*ℤ◌ s e t f in
      low_at y h
      (rw (*ℤ_comm s y) (low_at s k (rw (*ℤ_comm t s) c.low_st) (rw (*ℤ_comm f s) c.low_sf)))
      (rw (*ℤ_comm e y) (low_at e k (rw (*ℤ_comm t e) c.low_et) (rw (*ℤ_comm f e) c.low_ef)))

  pub corner_ge : (x *ℤ y) ≤ℤ greatest_corner ◌*ℤ◌ s e t f
  corner_ge =
      let c = corners ◌*ℤ◌ s e t f in
      high_at y h
      (rw (*ℤ_comm s y) (high_at s k (rw (*ℤ_comm t s) c.high_st) (rw (*ℤ_comm f s) c.high_sf)))
      (rw (*ℤ_comm e y) (high_at e k (rw (*ℤ_comm t e) c.high_et) (rw (*ℤ_comm f e) c.high_ef)))

-- ---- the range of products: the scale of 1000 takes MIN and MAX to its ends

pub thousandth_range : {z : ℤ} → InRange z → Between least_product (thousandth z) greatest_product
thousandth_range {z} r =
    let u = up_quot z 1000 in
    let d = down_quot z 1000 in
    between (omega (zarith, r.above, r.below, one_part z)) (omega (zarith, r.above, r.below, one_part z))

pub product_range : (x y : ℤ) → Between least_product (product x y) greatest_product
unfolding product
product_range x y = thousandth_range (wrap_range (x *ℤ y))

pub proper_products : Proper least_product greatest_product
proper_products = record { low = omega zarith; ordered = omega zarith; high = omega zarith }

-- ---- the pair, before the cut

module _ (s e t f : ℤ) where
  pub uncut_proper : AllProper (uncut_pair s e t f)
  unfolding uncut_pair
  uncut_proper = spread_proper thousandth_scale (corners_ordered ◌*ℤ◌ s e t f)

  uncut_few : length (uncut_pair s e t f) ≤ 2
  unfolding uncut_pair
  uncut_few = spread_few thousandth (least_corner ◌*ℤ◌ s e t f) (greatest_corner ◌*ℤ◌ s e t f)

uncut_holds : {s e t f x y : ℤ} → Between s x e → Between t y f → product x y ∈ uncut_pair s e t f
unfolding uncut_pair product
uncut_holds h k = spread_holds thousandth_scale (between (corner_le h k) (corner_ge h k))

-- ---- the pair

-- just the members of the rule that are in the range of products
pub mul_in : (s e t f : ℤ) {z : ℤ} → z ∈ uncut_pair s e t f → Between least_product z greatest_product → z ∈ mul_pair s e t f
unfolding mul_pair
mul_in s e t f {z} m r = cut_holds least_product greatest_product z (uncut_pair s e t f) m r

pub mul_from : (s e t f : ℤ) {z : ℤ} → z ∈ mul_pair s e t f → (z ∈ uncut_pair s e t f) × Between least_product z greatest_product
unfolding mul_pair
mul_from s e t f {z} m = cut_only least_product greatest_product z (uncut_pair s e t f) m

pub mul_holds : {s e t f x y : ℤ} → Between s x e → Between t y f → product x y ∈ mul_pair s e t f
mul_holds {s} {e} {t} {f} {x} {y} h k = mul_in s e t f (uncut_holds h k) (product_range x y)

pub mul_proper : {s e t f : ℤ} → Proper s e → Proper t f → AllProper (mul_pair s e t f)
unfolding mul_pair
mul_proper {s} {e} {t} {f} o q = cut_proper least_product greatest_product proper_products (uncut_pair s e t f) (uncut_proper s e t f)

-- ---- what the cut leaves: the ends that the rule divides stay, and those that it writes become the ends of the range of products

abbrev Product : ℤ → Type 0
Product z = Between least_product z greatest_product

meet_is : (s e t f : ℤ) {l g : ℤ} → larger s t ≡ l → smaller e f ≡ g → l ≤ℤ g → meet_pair s e t f ≡ span l g
unfolding meet_pair
meet_is s e t f {l} {g} a b h = let c : le_z l g ≡ true = omega (zarith, h) in rw (a, b, c)

larger_left : (a b : ℤ) → b ≤ℤ a → larger a b ≡ a
larger_left a b h = larger_case (λ z. z ≡ a) a b (λ k. let q : b ≡ a = omega (zarith, h, k) in q) (λ _. refl)

smaller_left : (a b : ℤ) → a ≤ℤ b → smaller a b ≡ a
smaller_left a b h = smaller_case (λ z. z ≡ a) a b (λ _. refl) (λ k. absurd (omega (zarith, h, k)))

cut_inside : (u v : ℤ) → Product u → Product v → u ≤ℤ v → meet_pair u v least_product greatest_product ≡ span u v
cut_inside u v p q h = meet_is u v least_product greatest_product (larger_left u least_product p.above) (smaller_left v greatest_product q.below) h

cut_high : (u : ℤ) → Product u → meet_pair u MAX least_product greatest_product ≡ span u greatest_product
cut_high u p = meet_is u MAX least_product greatest_product (larger_left u least_product p.above) refl p.below

cut_low : (v : ℤ) → Product v → meet_pair MIN v least_product greatest_product ≡ span least_product v
cut_low v p = meet_is MIN v least_product greatest_product refl (smaller_left v greatest_product p.below) p.above

module _ {ℓ} (P : Spread → List Interval → Type ℓ) (all : P whole (span least_product greatest_product))
    (inside : (u v : ℤ) → P (one u v) (span (thousandth u) (thousandth v)))
    (ends : (u v : ℤ) → P (two u v) (span (thousandth u) greatest_product ++ span least_product (thousandth v))) where
  cut_ends : (p q : ℤ) → P (two (wrap p) (wrap q)) (cut_to least_product greatest_product (pieces thousandth (two (wrap p) (wrap q))))
  unfolding each pieces
  cut_ends p q =
      subst (P (two (wrap p) (wrap q))) (sym (ap₂ (λ (a b : List Interval). a ++ (b ++ [])) (cut_high (thousandth (wrap p)) (thousandth_range (wrap_range p))) (cut_low (thousandth (wrap q)) (thousandth_range (wrap_range q)))))
      (ends (wrap p) (wrap q))

  pub cut_case : (p q : ℤ) → p ≤ℤ q → P (spread p q) (cut_to least_product greatest_product (pieces thousandth (spread p q)))
  unfolding each pieces meet_pair
  cut_case p q h =
      spread_case p q (λ r. P r (cut_to least_product greatest_product (pieces thousandth r)))
      (λ _. all)
      (λ _ e. subst (P (one (wrap p) (wrap q))) (sym (ap (λ (a : List Interval). a ++ []) (cut_inside (thousandth (wrap p)) (thousandth (wrap q)) (thousandth_range (wrap_range p)) (thousandth_range (wrap_range q))
      (thousandth_scale.keeps (same_low (between h (≤ℤ_refl q)) e)))))
      (inside (wrap p) (wrap q)))
      (λ _ _ _. cut_ends q p)
      (λ _ _. cut_ends p q)

-- so none is dropped
pub mul_kept : (s e t f : ℤ) → length (mul_pair s e t f) ≡ length (uncut_pair s e t f)
unfolding mul_pair uncut_pair pieces
mul_kept s e t f =
    cut_case (λ r l. length l ≡ length (pieces thousandth r)) refl (λ u v. refl) (λ u v. refl) (least_corner ◌*ℤ◌ s e t f) (greatest_corner ◌*ℤ◌ s e t f) (corners_ordered ◌*ℤ◌ s e t f)

pub mul_few : (s e t f : ℤ) → length (mul_pair s e t f) ≤ 2
mul_few s e t f = omega (arith, mul_kept s e t f, uncut_few s e t f)
