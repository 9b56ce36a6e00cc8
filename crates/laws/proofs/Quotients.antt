-- div of a pair: a quotient toward 0 lies between the quotients at the ends, over the dividend as over a divisor that keeps its sign, so in a plain case the hull of the four corner
-- quotients holds all; MIN by −1 is the one quotient that wraps, and its rule cuts it out. Assumes nothing.
use lib.IntN.{ℤ, pos, negsuc, neg_ℤ, ◌*ℤ◌}
use lib.ListN.{length, length-append}
use lib.Signed.{quot_z, ◌≤ℤ◌, ≤ℤ_refl}
use mathlib.Core.Path.{◌≡◌, refl, sym, ◌∙◌, subst}
use mathlib.Core.Bool.{false, ◌&&◌}
use mathlib.Core.Logic.{◌⊎◌, inl, inr, ⊎_elim}
use mathlib.Core.List.{List, ◌++◌}
use Prim.Native.Nat.{ℕ, zero, suc, ◌+◌, ◌/◌, ◌^◌, ◌≤◌, ◌<◌}
use native.Mathlib.Nat.{le_trans, div-zero, div-mul-le_self, le-div_iff_mul-le, mul-le-mul_left, zero-lt-suc}
use native.Mathlib.Omega.{arith}
use mir.Syntax.{w64}
use mir.Val.{SFits}
use Rattle.meaning.specs.Number.{MIN, MAX, ONE, Between, within, InRange, window, wrap, ratio}
use Rattle.meaning.specs.Interval.{Interval, only, Proper, each, without, Spread, whole, one, two, pieces, spread, unscaled, least_corner, greatest_corner, div_plain, div_piece, div_spread, div_part, div_pair}
use Rattle.meaning.specs.NumberIntervals.{◌∈◌, here, there}
use Rattle.laws.proofs.Integers.{up, down, zarith, clash, and_yes, cond_case, equal_or_not, is_within, one_part, ne_in, up_neg, down_neg, up_quot, down_quot, up_quot_neg, down_quot_neg, scale_le, ≤ℤ_trans}
use Rattle.laws.proofs.Machine.{num, quot_fits, fits_range, range_fits}
use Rattle.laws.proofs.Wrapping.{wrap_id, wrap_range}
use Rattle.laws.proofs.Members.{between, in_span, in_left, in_right, in_each, all_append, all_each, length_each, AllProper}
use Rattle.laws.proofs.Parts.{Part, parts, part_proper, in_without, two_parts, one_above, one_below, OneSign, one_sign, part_sign}
use Rattle.laws.proofs.Spread.{unscaled_scale, spread_holds, spread_proper, proper_whole}
use Rattle.laws.proofs.Products.{corners, corners_ordered, least_above, greatest_below}

-- ---- natural quotients fall with the divisor and grow with the dividend

div_right : (k : ℕ) {a b : ℕ} → a ≤ b → a / k ≤ b / k
div_right zero {a} {b} h = omega (arith, div-zero a, div-zero b)
div_right (suc k) {a} h = (le-div_iff_mul-le (zero-lt-suc k)).1 (le_trans (div-mul-le_self a (suc k)) h)

div_left : (n : ℕ) {k l : ℕ} → 0 < k → k ≤ l → n / l ≤ n / k
div_left n {k} {l} p h = (le-div_iff_mul-le p).1 (le_trans (mul-le-mul_left (n / l) h) (div-mul-le_self n l))

-- ---- over the dividend

le_sides : {a b : ℤ} → a ≤ℤ b → (up a ≤ up b) × (down b ≤ down a)
le_sides {a} {b} h = omega (zarith, one_part a, one_part b)

low_dividend : {m a b x : ℤ} (y : ℤ) → Between a x b → m ≤ℤ quot_z a y → m ≤ℤ quot_z b y → m ≤ℤ quot_z x y
low_dividend {m} {a} {b} {x} (pos k) h i j =
    let l = le_sides h.above in
    omega (zarith, i, up_quot a k, down_quot a k, up_quot x k, down_quot x k, div_right k l.0, div_right k l.1)
low_dividend {m} {a} {b} {x} (negsuc k) h i j =
    let l = le_sides h.below in
    omega (zarith, j, up_quot_neg b k, down_quot_neg b k, up_quot_neg x k, down_quot_neg x k, div_right (suc k) l.0, div_right (suc k) l.1)

high_dividend : {m a b x : ℤ} (y : ℤ) → Between a x b → quot_z a y ≤ℤ m → quot_z b y ≤ℤ m → quot_z x y ≤ℤ m
high_dividend {m} {a} {b} {x} (pos k) h i j =
    let l = le_sides h.below in
    omega (zarith, j, up_quot b k, down_quot b k, up_quot x k, down_quot x k, div_right k l.0, div_right k l.1)
high_dividend {m} {a} {b} {x} (negsuc k) h i j =
    let l = le_sides h.above in
    omega (zarith, i, up_quot_neg a k, down_quot_neg a k, up_quot_neg x k, down_quot_neg x k, div_right (suc k) l.0, div_right (suc k) l.1)

-- ---- over the divisor, which keeps its sign

-- q is from a to b, or from b to a
Amid : ℤ → ℤ → ℤ → Type 0
Amid a q b = Between a q b ⊎ Between b q a

neg_parts_of : (n : ℕ) → (up (neg_ℤ (pos n)) ≡ 0) × (down (neg_ℤ (pos n)) ≡ n)
neg_parts_of n = (up_neg (pos n), down_neg (pos n))

positive : (x : ℤ) {k j l : ℕ} → 0 < k → k ≤ j → j ≤ l → Amid (quot_z x (pos k)) (quot_z x (pos j)) (quot_z x (pos l))
unfolding Amid
positive (pos n) {k} {j} {l} p h₁ h₂ = inr (between (omega (zarith, div_left n {k = j} {l = l} (omega arith) h₂)) (omega (zarith, div_left n p h₁)))
positive (negsuc n) {k} {j} {l} p h₁ h₂ =
    let a = neg_parts_of (suc n / k) in
    let b = neg_parts_of (suc n / j) in
    let c = neg_parts_of (suc n / l) in
    inl (between (omega (zarith, a, b, div_left (suc n) p h₁)) (omega (zarith, b, c, div_left (suc n) {k = j} {l = l} (omega arith) h₂)))

-- by −(k + 1) to −(l + 1)
negative : (x : ℤ) {k j l : ℕ} → j ≤ k → l ≤ j → Amid (quot_z x (negsuc k)) (quot_z x (negsuc j)) (quot_z x (negsuc l))
unfolding Amid
negative (pos n) {k} {j} {l} h₁ h₂ =
    let a = neg_parts_of (n / suc k) in
    let b = neg_parts_of (n / suc j) in
    let c = neg_parts_of (n / suc l) in
    inr (between (omega (zarith, b, c, div_left n {k = suc l} {l = suc j} (omega arith) (omega arith))) (omega (zarith, a, b, div_left n {k = suc j} {l = suc k} (omega arith) (omega arith))))
negative (negsuc n) {k} {j} {l} h₁ h₂ =
    inl (between (omega (zarith, div_left (suc n) {k = suc j} {l = suc k} (omega arith) (omega arith))) (omega (zarith, div_left (suc n) {k = suc l} {l = suc j} (omega arith) (omega arith))))

divisor : (x t y f : ℤ) → OneSign t f → t ≤ℤ y → y ≤ℤ f → Amid (quot_z x t) (quot_z x y) (quot_z x f)
divisor x (pos k) (pos j) (pos l) (inl p) h₁ h₂ = positive x (omega zarith) (omega zarith) (omega zarith)
divisor x (pos k) (pos j) (pos l) (inr p) h₁ h₂ = absurd p.le
divisor x (pos k) (pos j) (negsuc l) s h₁ h₂ = absurd h₂.le
divisor x (pos k) (negsuc j) f s h₁ h₂ = absurd h₁.le
divisor x (negsuc k) y f (inl p) h₁ h₂ = absurd p.le
divisor x (negsuc k) y (pos l) (inr p) h₁ h₂ = absurd p.le
divisor x (negsuc k) (pos j) (negsuc l) (inr p) h₁ h₂ = absurd h₂.le
divisor x (negsuc k) (negsuc j) (negsuc l) (inr p) h₁ h₂ = negative x (omega zarith) (omega zarith)

amid_low : {m a q b : ℤ} → Amid a q b → m ≤ℤ a → m ≤ℤ b → m ≤ℤ q
unfolding Amid
amid_low (inl w) h k = ≤ℤ_trans h w.above
amid_low (inr w) h k = ≤ℤ_trans k w.above

amid_high : {m a q b : ℤ} → Amid a q b → a ≤ℤ m → b ≤ℤ m → q ≤ℤ m
unfolding Amid
amid_high (inl w) h k = ≤ℤ_trans w.below k
amid_high (inr w) h k = ≤ℤ_trans w.below h

above_min : (x : ℤ) → SFits w64 x → (x ≡ MIN → ⊥) → down x < 2 ^ 63 + up x
above_min x f n = omega (zarith, num f, ne_in x MIN n)

-- ---- a plain case: the divisor has one sign, and MIN is not in [s,e] or −1 not in [t,f]

pub record Plain (s e t f : ℤ) : Type 0 where
  pub left : Proper s e
  pub right : t ≤ℤ f
  pub sign : OneSign t f
  pub apart : s ≡ MIN → f ≡ negsuc 0 → ⊥

module _ {s e t f x y : ℤ} (p : Plain s e t f) (h : Between s x e) (k : Between t y f) where
  not_turned : x ≡ MIN → y ≡ negsuc 0 → ⊥
  not_turned i j =
      ⊎_elim (λ q. absurd (omega (zarith, q, k.above, j)))
      (λ q. p.apart (omega (zarith, h.above, p.left.low)) (omega (zarith, q, k.below)))
      p.sign

  in_range : InRange x
  in_range = between (≤ℤ_trans p.left.low h.above) (≤ℤ_trans h.below p.left.high)

  pub plain_fits : SFits w64 (quot_z x y)
  plain_fits = quot_fits x y (range_fits in_range) (λ j. equal_or_not x MIN (λ i. absurd (not_turned i j)) (λ n. above_min x (range_fits in_range) n))

  pub plain_low : least_corner quot_z s e t f ≤ℤ quot_z x y
  plain_low =
      let c = corners quot_z s e t f in
      low_dividend y h (amid_low (divisor s t y f p.sign k.above k.below) c.low_st c.low_sf) (amid_low (divisor e t y f p.sign k.above k.below) c.low_et c.low_ef)

  pub plain_high : quot_z x y ≤ℤ greatest_corner quot_z s e t f
  plain_high =
      let c = corners quot_z s e t f in
      high_dividend y h (amid_high (divisor s t y f p.sign k.above k.below) c.high_st c.high_sf) (amid_high (divisor e t y f p.sign k.above k.below) c.high_et c.high_ef)

  plain_holds : wrap (quot_z x y) ∈ div_plain s e t f
  plain_holds = subst (λ (z : ℤ). z ∈ div_plain s e t f) (sym (wrap_id (quot_z x y) plain_fits)) (here (between plain_low plain_high))

-- the ends are members
module _ {s e t f : ℤ} (p : Plain s e t f) where
  pub start_left : Between s s e
  start_left = between (≤ℤ_refl s) p.left.ordered

  pub end_left : Between s e e
  end_left = between p.left.ordered (≤ℤ_refl e)

  pub start_right : Between t t f
  start_right = between (≤ℤ_refl t) p.right

  pub end_right : Between t f f
  end_right = between p.right (≤ℤ_refl f)

  plain_proper : AllProper (div_plain s e t f)
  plain_proper =
      let st = fits_range (plain_fits p start_left start_right) in
      let sf = fits_range (plain_fits p start_left end_right) in
      let et = fits_range (plain_fits p end_left start_right) in
      let ef = fits_range (plain_fits p end_left end_right) in (
        record {
          low = least_above quot_z s e t f st.above sf.above et.above ef.above;
          ordered = corners_ordered quot_z s e t f;
          high = greatest_below quot_z s e t f st.below sf.below et.below ef.below;
        },
        tt,
      )

-- ---- a spread piece D = [a,b]

-- MIN by −1 wraps to MIN
turned : wrap (quot_z MIN (negsuc 0)) ≡ MIN
unfolding wrap window
turned = refl

module _ {a b t f : ℤ} (o : Proper a b) (r : t ≤ℤ f) (g : OneSign t f) where
  pub plain_both : (within a MIN b && within t (negsuc 0) f) ≡ false → Plain a b t f
  plain_both e =
      record {
        left = o;
        right = r;
        sign = g;
        apart = λ i j. clash (and_yes (is_within {s = a} {z = MIN} {e = b} (omega (zarith, i)) (omega (zarith, o.ordered, i))) (is_within {s = t} {z = negsuc 0} {e = f} (omega (zarith, j)) (omega (zarith, j)))) e;
      }

  pub plain_left : {u v : ℤ} → Part MIN a b u v → Plain u v t f
  plain_left {u} {v} q =
      record {
        left = part_proper o q;
        right = r;
        sign = g;
        apart = λ i j. clash (is_within {s = u} {z = MIN} {e = v} (omega (zarith, i)) (omega (zarith, q.ordered, i))) q.gone;
      }

  pub plain_right : {u v : ℤ} → Part (negsuc 0) t f u v → Plain a b u v
  plain_right {u} {v} q =
      record {
        left = o;
        right = q.ordered;
        sign = part_sign g q;
        apart = λ i j. clash (is_within {s = u} {z = negsuc 0} {e = v} (omega (zarith, q.ordered, j)) (omega (zarith, j))) q.gone;
      }

  -- D without MIN by R, and D by R without −1
  abbrev lefts : List Interval
  lefts = each (λ u v. div_plain u v t f) (without MIN a b)

  abbrev rights : List Interval
  rights = each (div_plain a b) (without (negsuc 0) t f)

  piece_holds : {x y : ℤ} → Between a x b → Between t y f → wrap (quot_z x y) ∈ div_piece a b t f
  unfolding div_piece
  piece_holds {x} {y} h k =
      cond_case (λ l. wrap (quot_z x y) ∈ l) (within a MIN b && within t (negsuc 0) f) (only MIN ++ (lefts ++ rights)) (div_plain a b t f)
      (λ _. equal_or_not x MIN
      (λ i. equal_or_not y (negsuc 0)
      (λ j. let w : wrap (quot_z x y) ≡ MIN = (λ n. wrap (quot_z (i n) (j n))) ∙ turned in here (between (omega (zarith, w)) (omega (zarith, w))))
      (λ j. in_right (only MIN) (in_right lefts
      (in_each (Part (negsuc 0) t f) (div_plain a b) (without (negsuc 0) t f) (parts (negsuc 0) r) (in_without j k) (λ u v q i. plain_holds (plain_right q) h i)))))
      (λ i. in_right (only MIN) (in_left rights
      (in_each (Part MIN a b) (λ u v. div_plain u v t f) (without MIN a b) (parts MIN o.ordered) (in_without i h) (λ u v q j. plain_holds (plain_left q) j k)))))
      (λ e. plain_holds (plain_both e) h k)

  piece_proper : AllProper (div_piece a b t f)
  unfolding div_piece
  piece_proper =
      cond_case AllProper (within a MIN b && within t (negsuc 0) f) (only MIN ++ (lefts ++ rights)) (div_plain a b t f)
      (λ _. (
        record { low = omega zarith; ordered = omega zarith; high = omega zarith },
        all_append Proper lefts rights
            (all_each (Part MIN a b) Proper (λ u v. div_plain u v t f) (without MIN a b) (parts MIN o.ordered) (λ u v q. plain_proper (plain_left q)))
            (all_each (Part (negsuc 0) t f) Proper (div_plain a b) (without (negsuc 0) t f) (parts (negsuc 0) r) (λ u v q. plain_proper (plain_right q))),
      ))
      (λ e. plain_proper (plain_both e))

  without_one : length (without (negsuc 0) t f) ≤ 1
  without_one = ⊎_elim (λ h. one_above f (≤ℤ_trans {b = pos 1} (record { le = tt }) h)) (λ h. one_below t h) g

  piece_few : length (div_piece a b t f) ≤ 3
  unfolding div_piece
  piece_few =
      cond_case (λ l. length l ≤ 3) (within a MIN b && within t (negsuc 0) f) (only MIN ++ (lefts ++ rights)) (div_plain a b t f)
      (λ _. omega (
        arith,
        length-append lefts rights,
        length_each (Part MIN a b) 1 (λ u v. div_plain u v t f) (without MIN a b) (parts MIN o.ordered) (λ u v q. omega arith),
        length_each (Part (negsuc 0) t f) 1 (div_plain a b) (without (negsuc 0) t f) (parts (negsuc 0) r) (λ u v q. omega arith),
        one_above b o.low,
        without_one,
      ))
      (λ _. omega arith)

-- ---- the pieces of a spread

module _ {t f : ℤ} (r : t ≤ℤ f) (g : OneSign t f) where
  spread_divides : {w y : ℤ} (s : Spread) → AllProper (pieces unscaled s) → w ∈ pieces unscaled s → Between t y f → wrap (quot_z w y) ∈ div_spread s t f
  unfolding pieces
  spread_divides {w} {y} whole o m k = here (wrap_range (quot_z w y))
  spread_divides (one u v) o m k = piece_holds o.0 r g (in_span m) k
  spread_divides (two u v) o (here b) k = in_left (div_piece MIN v t f) (piece_holds o.0 r g b k)
  spread_divides (two u v) o (there m) k = in_right (div_piece u MAX t f) (piece_holds o.1.0 r g (in_span m) k)

  spread_quotients : (s : Spread) → AllProper (pieces unscaled s) → AllProper (div_spread s t f)
  unfolding pieces
  spread_quotients whole o = (proper_whole, tt)
  spread_quotients (one u v) o = piece_proper o.0 r g
  spread_quotients (two u v) o = all_append Proper (div_piece u MAX t f) (div_piece MIN v t f) (piece_proper o.0 r g) (piece_proper o.1.0 r g)

  spread_count : (s : Spread) → AllProper (pieces unscaled s) → length (div_spread s t f) ≤ 6
  unfolding pieces
  spread_count whole o = omega arith
  spread_count (one u v) o = omega (arith, piece_few o.0 r g)
  spread_count (two u v) o = omega (arith, length-append (div_piece u MAX t f) (div_piece MIN v t f), piece_few o.0 r g, piece_few o.1.0 r g)

-- ---- the pair

pub thousands_proper : {s e : ℤ} → s ≤ℤ e → AllProper (pieces unscaled (spread (ONE *ℤ s) (ONE *ℤ e)))
thousands_proper h = spread_proper unscaled_scale (scale_le 1000 h)

-- every quotient of members, wrapped, is in one of the intervals
pub div_holds : {s e t f x y : ℤ} → Between s x e → Between t y f → (y ≡ pos 0 → ⊥) → ratio x y ∈ div_pair s e t f
unfolding div_pair div_part
div_holds {s} {e} {t} {f} {x} {y} h k n =
    in_each (Part (pos 0) t f) (div_part s e) (without (pos 0) t f) (parts (pos 0) (≤ℤ_trans k.above k.below)) (in_without n k)
    (λ a b q i. spread_divides q.ordered (one_sign q.gone) (spread (ONE *ℤ s) (ONE *ℤ e)) (thousands_proper (≤ℤ_trans h.above h.below))
    (spread_holds unscaled_scale (between (scale_le 1000 h.above) (scale_le 1000 h.below))) i)

pub div_proper : {s e t f : ℤ} → Proper s e → Proper t f → AllProper (div_pair s e t f)
unfolding div_pair div_part
div_proper {s} {e} {t} {f} o p =
    all_each (Part (pos 0) t f) Proper (div_part s e) (without (pos 0) t f) (parts (pos 0) p.ordered)
    (λ a b q. spread_quotients q.ordered (one_sign q.gone) (spread (ONE *ℤ s) (ONE *ℤ e)) (thousands_proper o.ordered))

pub div_few : {s e t f : ℤ} → Proper s e → Proper t f → length (div_pair s e t f) ≤ 12
unfolding div_pair div_part
div_few {s} {e} {t} {f} o p =
    omega (
      arith,
      two_parts (pos 0) t f,
      length_each (Part (pos 0) t f) 6 (div_part s e) (without (pos 0) t f) (parts (pos 0) p.ordered)
          (λ a b q. spread_count q.ordered (one_sign q.gone) (spread (ONE *ℤ s) (ONE *ℤ e)) (thousands_proper o.ordered)),
    )
