-- The rules of rem: which one fits, that each self-call loses one of five tests, and rule (f) on magnitudes. Assumes nothing.
use lib.Arith.{digits_mod}
use lib.Dec.{leb, eqb, leb→le, nleb→lt}
use lib.IntN.{ℤ, pos, negsuc, neg_ℤ, nat_abs, ◌-ℤ◌}
use lib.ListN.{length, length-append}
use lib.Signed.{lt_z, rem_z, ≤ℤ_refl}
use borrow.Author.Tests.{eqb-true, eqb-false}
use mathlib.Core.Path.{◌≡◌, refl, ap, ◌∙◌, subst}
use mathlib.Core.Bool.{Bool, true, false, cond, ◌&&◌}
use mathlib.Core.Logic.{inl, inr}
use mathlib.Core.List.{List, [], ◌++◌}
use Prim.Native.Nat.{ℕ, zero, suc, ◌+◌, ◌-◌, ◌*◌, ◌/◌, ◌%◌, ◌^◌, ◌≤◌, ◌<◌, min}
use native.Mathlib.Nat.{mod-lt, div-add-mod', suc-mul}
use native.Mathlib.Omega.{arith}
use Rattle.meaning.specs.Number.{MIN, Between, within}
use Rattle.meaning.specs.Interval.{Interval, span, only, Proper, without, PairOp, cut_left, cut_right, least_magnitude, greatest_magnitude, rule_a, rule_b, rule_c, against, rule_d, rule_e, signed_span, rem_magnitudes, rule_f, rem_step}
use Rattle.meaning.specs.NumberIntervals.{◌∈◌, here}
use Rattle.laws.proofs.Integers.{up, down, zarith, true_T, false_T, by_test, cond_case, cond_same, within_case, is_within, and_both, one_part, abs_parts, up_neg, down_neg}
use Rattle.laws.proofs.Members.{between, in_left, in_right, all_append, each_same, AllProper}
use Rattle.laws.proofs.Parts.{Part, parts, part_proper, OneSign}

-- ---- the first rule that fits

module _ (g : PairOp) (s e t f : ℤ) where
  pub step_a : within t (pos 0) f ≡ true → rem_step g s e t f ≡ rule_a g s e t f
  unfolding rem_step
  step_a a = rw a

  pub step_b : within t (pos 0) f ≡ false → (within s MIN e && within t (negsuc 0) f) ≡ true → rem_step g s e t f ≡ rule_b g s e t f
  unfolding rem_step
  step_b a b = rw (a, b)

  pub step_c : within t (pos 0) f ≡ false → (within s MIN e && within t (negsuc 0) f) ≡ false → within s (pos 0) e ≡ true → rem_step g s e t f ≡ rule_c g s e t f
  unfolding rem_step
  step_c a b c = rw (a, b, c)

  pub step_d : within t (pos 0) f ≡ false → (within s MIN e && within t (negsuc 0) f) ≡ false → within s (pos 0) e ≡ false → within t MIN f ≡ true → rem_step g s e t f ≡ rule_d g s e t f
  unfolding rem_step
  step_d a b c d = rw (a, b, c, d)

  pub step_e : within t (pos 0) f ≡ false → (within s MIN e && within t (negsuc 0) f) ≡ false → within s (pos 0) e ≡ false → within t MIN f ≡ false → within s MIN e ≡ true
      → rem_step g s e t f ≡ rule_e g s e t f
  unfolding rem_step
  step_e a b c d k = rw (a, b, c, d, k)

  pub step_f : within t (pos 0) f ≡ false → within s (pos 0) e ≡ false → within t MIN f ≡ false → within s MIN e ≡ false → rem_step g s e t f ≡ rule_f s e t f
  unfolding rem_step
  step_f a c d k = rw (a, k, c, d)

  -- all six at once
  pub step_case {ℓ} : (P : List Interval → Type ℓ)
      → (within t (pos 0) f ≡ true → P (rule_a g s e t f))
      → (within t (pos 0) f ≡ false → (within s MIN e && within t (negsuc 0) f) ≡ true → P (rule_b g s e t f))
      → (within t (pos 0) f ≡ false → (within s MIN e && within t (negsuc 0) f) ≡ false → within s (pos 0) e ≡ true → P (rule_c g s e t f))
      → (within t (pos 0) f ≡ false → within s (pos 0) e ≡ false → within t MIN f ≡ true → P (rule_d g s e t f))
      → (within t (pos 0) f ≡ false → within s (pos 0) e ≡ false → within t MIN f ≡ false → within s MIN e ≡ true → P (rule_e g s e t f))
      → (within t (pos 0) f ≡ false → within s (pos 0) e ≡ false → within t MIN f ≡ false → within s MIN e ≡ false → P (rule_f s e t f))
      → P (rem_step g s e t f)
  unfolding rem_step
  step_case P pa pb pc pd pe pf =
      cond_case P (within t (pos 0) f) _ _ pa
      (λ a. cond_case P (within s MIN e && within t (negsuc 0) f) _ _ (pb a)
      (λ b. cond_case P (within s (pos 0) e) _ _ (pc a b)
      (λ c. cond_case P (within t MIN f) _ _ (pd a c)
      (λ d. cond_case P (within s MIN e) _ _ (pe a c d) (pf a c d)))))

-- ---- the tests that can still fit

abbrev pub bit : Bool → ℕ
bit true = 1
bit false = 0

pub bit_le : (b : Bool) → bit b ≤ 1
bit_le true = omega arith
bit_le false = omega arith

-- how many of 0, −1 and MIN in R, and 0 and MIN in L hold
pub rank : ℤ → ℤ → ℤ → ℤ → ℕ
rank s e t f = bit (within t (pos 0) f) + bit (within t (negsuc 0) f) + bit (within t MIN f) + (bit (within s (pos 0) e) + bit (within s MIN e))

pub rank_le : (s e t f : ℤ) → rank s e t f ≤ 5
unfolding rank
rank_le s e t f = omega (arith, bit_le (within t (pos 0) f), bit_le (within t (negsuc 0) f), bit_le (within t MIN f), bit_le (within s (pos 0) e), bit_le (within s MIN e))

pub part_bit : {c s e a b : ℤ} → Part c s e a b → (k : ℤ) → bit (within a k b) ≤ bit (within s k e)
part_bit {c} {s} {e} {a} {b} p k =
    within_case (λ t. bit t ≤ bit (within s k e)) a k b
    (λ i j. omega (arith, ap bit (is_within {s = s} {z = k} {e = e} (omega (zarith, p.from)) (omega (zarith, p.to)))))
    (λ _. omega arith) (λ _. omega arith)

-- a part of L or of R without a number that is in it ranks lower
module _ (s e : ℤ) {t f u v : ℤ} where
  pub falls_zero_right : within t (pos 0) f ≡ true → Part (pos 0) t f u v → rank s e u v < rank s e t f
  unfolding rank
  falls_zero_right a p = omega (arith, ap bit a, ap bit p.gone, part_bit p (negsuc 0), part_bit p MIN)

  pub falls_one_right : within t (negsuc 0) f ≡ true → Part (negsuc 0) t f u v → rank s e u v < rank s e t f
  unfolding rank
  falls_one_right a p = omega (arith, ap bit a, ap bit p.gone, part_bit p (pos 0), part_bit p MIN)

  pub falls_min_right : within t MIN f ≡ true → Part MIN t f u v → rank s e u v < rank s e t f
  unfolding rank
  falls_min_right a p = omega (arith, ap bit a, ap bit p.gone, part_bit p (pos 0), part_bit p (negsuc 0))

module _ {s e u v : ℤ} (t f : ℤ) where
  pub falls_zero_left : within s (pos 0) e ≡ true → Part (pos 0) s e u v → rank u v t f < rank s e t f
  unfolding rank
  falls_zero_left a p = omega (arith, ap bit a, ap bit p.gone, part_bit p MIN)

  pub falls_min_left : within s MIN e ≡ true → Part MIN s e u v → rank u v t f < rank s e t f
  unfolding rank
  falls_min_left a p = omega (arith, ap bit a, ap bit p.gone, part_bit p (pos 0))

-- two operations that agree on all pairs of lower rank
module _ (g h : PairOp) {s e t f : ℤ} (o : Proper s e) (q : Proper t f) (k : (a b c d : ℤ) → Proper a b → Proper c d → rank a b c d < rank s e t f → g a b c d ≡ h a b c d) where
  same_left : (c : ℤ) → ((u v : ℤ) → Part c s e u v → rank u v t f < rank s e t f) → cut_left g c s e t f ≡ cut_left h c s e t f
  same_left c w = each_same (Part c s e) (λ a b. g a b t f) (λ a b. h a b t f) (without c s e) (parts c o.ordered) (λ u v p. k u v t f (part_proper o p) q (w u v p))

  same_right : (c : ℤ) → ((u v : ℤ) → Part c t f u v → rank s e u v < rank s e t f) → cut_right g c s e t f ≡ cut_right h c s e t f
  same_right c w = each_same (Part c t f) (g s e) (h s e) (without c t f) (parts c q.ordered) (λ u v p. k s e u v o (part_proper q p) (w u v p))

  pub step_same : rem_step g s e t f ≡ rem_step h s e t f
  unfolding rem_step
  step_same =
      cond_same (within t (pos 0) f) (λ a. same_right (pos 0) (λ u v p. falls_zero_right s e a p))
      (λ _. cond_same (within s MIN e && within t (negsuc 0) f)
      (λ b. let m = and_both (within s MIN e) (within t (negsuc 0) f) b in
      (λ i. same_left MIN (λ u v p. falls_min_left t f m.0 p) i ++ (same_right (negsuc 0) (λ u v p. falls_one_right s e m.1 p) i ++ only (pos 0))))
      (λ _. cond_same (within s (pos 0) e) (λ c. ap (λ (l : List Interval). l ++ only (pos 0)) (same_left (pos 0) (λ u v p. falls_zero_left t f c p)))
      (λ _. cond_same (within t MIN f) (λ d. ap (λ (l : List Interval). l ++ against s e) (same_right MIN (λ u v p. falls_min_right s e d p)))
      (λ _. cond_same (within s MIN e) (λ m. ap (λ (l : List Interval). l ++ span (pos 1 -ℤ pos (greatest_magnitude t f)) (pos 0)) (same_left MIN (λ u v p. falls_min_left t f m p))) (λ _. refl)))))

-- ---- magnitudes of an interval without 0

pub record Magnitudes (s e x : ℤ) : Type 0 where
  pub from : least_magnitude s e ≤ nat_abs x
  pub to : nat_abs x ≤ greatest_magnitude s e
  pub some : 0 < least_magnitude s e

-- a number is its magnitude up or down from 0
size : (a : ℤ) → (nat_abs a ≡ up a + down a) × (min (up a) (down a) ≡ 0)
size a = (abs_parts a, one_part a)

pub magnitudes : {s e x : ℤ} → OneSign s e → Between s x e → Magnitudes s e x
magnitudes {s} {e} {x} (inl g) b =
    let a = size s in
    let c = size e in
    let d = size x in
    record { from = omega zarith; to = omega zarith; some = omega zarith }
magnitudes {s} {e} {x} (inr g) b =
    let a = size s in
    let c = size e in
    let d = size x in
    record { from = omega zarith; to = omega zarith; some = omega zarith }

-- none is over 2^63
pub magnitude_fits : {s e : ℤ} → Proper s e → greatest_magnitude s e ≤ 2 ^ 63
magnitude_fits {s} {e} o = omega (zarith, o.low, o.ordered, o.high, size s, size e)

-- n, negated if L is negative
abbrev signed : Bool → ℕ → ℤ
signed negated n = cond negated (neg_ℤ (pos n)) (pos n)

in_signed : (negated : Bool) (n l h : ℕ) → l ≤ n → n ≤ h → signed negated n ∈ signed_span negated l h
in_signed true n l h i j =
    let a = up_neg (pos n) in
    let b = down_neg (pos n) in
    here (between {lo = neg_ℤ (pos h)} {z = neg_ℤ (pos n)} {hi = neg_ℤ (pos l)} (omega (zarith, up_neg (pos h), down_neg (pos h))) (omega (zarith, up_neg (pos l), down_neg (pos l))))
in_signed false n l h i j = here (between {lo = pos l} {z = pos n} {hi = pos h} (omega zarith) (omega zarith))

signed_proper : (negated : Bool) (l h : ℕ) → l ≤ h → h < 2 ^ 63 → AllProper (signed_span negated l h)
signed_proper true l h i j =
    let a = up_neg (pos l) in
    let b = down_neg (pos l) in
    let c = up_neg (pos h) in
    let d = down_neg (pos h) in
    (record { low = omega zarith; ordered = omega zarith; high = omega zarith }, tt)
signed_proper false l h i j = (record { low = omega zarith; ordered = omega zarith; high = omega zarith }, tt)

signed_one : (negated : Bool) (l h : ℕ) → length (signed_span negated l h) ≡ 1
signed_one true l h = refl
signed_one false l h = refl

-- ---- rule (f) by its cases

module _ (negated : Bool) (a b c d : ℕ) where
  pub magnitudes_case {ℓ} : (P : List Interval → Type ℓ) → P (signed_span negated 0 (d - 1))
      → (b - a < d → c ≡ d → a ≡ b / c * c → P (signed_span negated 0 (b % c) ++ []))
      → (b - a < d → c ≡ d → a < b / c * c → P (signed_span negated 0 (b % c) ++ signed_span negated (a % c) (c - 1)))
      → (b - a < d → c ≡ d → b / c * c < a → P (signed_span negated (a % c) (b % c)))
      → P (rem_magnitudes negated a b c d)
  unfolding rem_magnitudes
  magnitudes_case P any at over past =
      cond_case P (leb d (b - a)) _ _ (λ _. any)
      (λ n. let l = nleb→lt d (b - a) (false_T n) in
      cond_case P (eqb c d) _ _
      (λ i. let j = eqb-true c d i in
      cond_case P (leb a (b / c * c)) _ _
      (λ m. let k = leb→le a (b / c * c) (true_T m) in
      cond_case (λ x. P (signed_span negated 0 (b % c) ++ x)) (eqb a (b / c * c)) _ _
      (λ w. at l j (eqb-true a (b / c * c) w))
      (λ w. let x = eqb-false a (b / c * c) w in over l j (omega arith)))
      (λ m. past l j (nleb→lt a (b / c * c) (false_T m))))
      (λ _. any))

-- ---- remainders by the greatest multiple of c up to b

rest : (q c : ℕ) {x r : ℕ} → x ≡ q * c + r → r < c → x % c ≡ r
rest q c e h = ap (λ (n : ℕ). n % c) e ∙ digits_mod q h

-- at and above it
upper : (b c : ℕ) {x : ℕ} → 0 < c → b / c * c ≤ x → x ≤ b → x % c + b / c * c ≡ x
upper b c {x} p l h =
    let e = div-add-mod' b c in
    let m = mod-lt b p in
    let r = rest (b / c) c {x = x} {r = x - b / c * c} (omega arith) (omega arith) in
    omega arith

-- below it, and less than c below b
lower : (q c : ℕ) {x : ℕ} → x < q * c → q * c < x + c → x % c + q * c ≡ x + c
lower zero c {x} l h = absurd (omega arith)
lower (suc q) c {x} l h =
    let e = suc-mul q c in
    let r = rest q c {x = x} {r = x - q * c} (omega arith) (omega arith) in
    omega arith

-- ---- members of rule (f)

module _ (negated : Bool) {a b c d x y : ℕ} (p : 0 < c) (h₁ : a ≤ x) (h₂ : x ≤ b) (k₁ : c ≤ y) (k₂ : y ≤ d) where
  single : c ≡ d → x % y ≡ x % c
  single e = ap (λ (k : ℕ). x % k) {x = y} {y = c} (omega arith)

  magnitudes_hold : signed negated (x % y) ∈ rem_magnitudes negated a b c d
  magnitudes_hold =
      let m = div-add-mod' b c in
      magnitudes_case negated a b c d (λ l. signed negated (x % y) ∈ l)
      (in_signed negated (x % y) 0 (d - 1) (omega arith) (let l = mod-lt x {m = y} (omega arith) in omega arith))
      (λ n e i. in_left [] (in_signed negated (x % y) 0 (b % c) (omega arith) (omega (arith, single e, upper b c {x = x} p (omega arith) h₂))))
      (λ n e i. by_test (leb (b / c * c) x)
      (λ t. in_left (signed_span negated (a % c) (c - 1)) (in_signed negated (x % y) 0 (b % c) (omega arith) (omega (arith, single e, upper b c {x = x} p (leb→le (b / c * c) x (true_T t)) h₂))))
      (λ t. let u = nleb→lt (b / c * c) x (false_T t) in
      in_right (signed_span negated 0 (b % c)) (in_signed negated (x % y) (a % c) (c - 1)
      (omega (arith, single e, lower (b / c) c {x = x} u (omega arith), lower (b / c) c {x = a} i (omega arith)))
      (omega (arith, single e, mod-lt x p)))))
      (λ n e i. in_signed negated (x % y) (a % c) (b % c)
      (omega (arith, single e, upper b c {x = x} p (omega arith) h₂, upper b c {x = a} p (omega arith) (omega arith)))
      (omega (arith, single e, upper b c {x = x} p (omega arith) h₂)))

-- the sign of a remainder is that of the dividend
signed_is : {s e : ℤ} (x y : ℤ) → OneSign s e → Between s x e → signed (lt_z s (pos 0)) (nat_abs x % nat_abs y) ≡ rem_z x y
signed_is {s} {e} (pos n) y (inl g) b = let l : lt_z s (pos 0) ≡ false = omega zarith in rw l
signed_is {s} {e} (pos n) y (inr g) b = absurd (omega (zarith, b.below))
signed_is {s} {e} (negsuc n) y (inl g) b = absurd (omega (zarith, b.above))
signed_is {s} {e} (negsuc n) y (inr g) b = let l : lt_z s (pos 0) ≡ true = omega (zarith, b.above) in rw l

pub f_holds : {s e t f x y : ℤ} → OneSign s e → OneSign t f → Between s x e → Between t y f → rem_z x y ∈ rule_f s e t f
unfolding rule_f
f_holds {s} {e} {t} {f} {x} {y} p q h k =
    let l = magnitudes p h in
    let r = magnitudes q k in
    subst (λ (z : ℤ). z ∈ rem_magnitudes (lt_z s (pos 0)) (least_magnitude s e) (greatest_magnitude s e) (least_magnitude t f) (greatest_magnitude t f)) (signed_is x y p h)
    (magnitudes_hold (lt_z s (pos 0)) r.some l.from l.to r.from r.to)

-- ---- its ends

magnitudes_proper : (negated : Bool) {a b c d : ℕ} → a ≤ b → 0 < c → c ≤ d → d ≤ 2 ^ 63 → AllProper (rem_magnitudes negated a b c d)
magnitudes_proper negated {a} {b} {c} {d} h p q k =
    let m = mod-lt b p in
    let n = mod-lt a p in
    magnitudes_case negated a b c d AllProper
    (signed_proper negated 0 (d - 1) (omega arith) (omega arith))
    (λ _ _ _. all_append Proper (signed_span negated 0 (b % c)) [] (signed_proper negated 0 (b % c) (omega arith) (omega arith)) tt)
    (λ _ _ _. all_append Proper (signed_span negated 0 (b % c)) (signed_span negated (a % c) (c - 1)) (signed_proper negated 0 (b % c) (omega arith) (omega arith))
    (signed_proper negated (a % c) (c - 1) (omega arith) (omega arith)))
    (λ _ _ i. signed_proper negated (a % c) (b % c) (omega (arith, upper b c {x = a} p (omega arith) h, div-add-mod' b c)) (omega arith))

pub f_proper : (s e : ℤ) {t f : ℤ} → OneSign t f → Proper t f → AllProper (rule_f s e t f)
unfolding rule_f
f_proper s e {t} {f} q o =
    let r = magnitudes q (between (≤ℤ_refl t) o.ordered) in
    magnitudes_proper (lt_z s (pos 0)) (omega arith) r.some (omega arith) (magnitude_fits o)

-- ---- how many intervals, whatever the dividend: 2, or 1 where the divisor is no single number but 1 or −1

pub record Fewer (p : ℕ) (t f : ℤ) : Type 0 where
  pub at : (s e : ℤ) → length (rule_f s e t f) ≤ p

magnitudes_two : (negated : Bool) (a b c d : ℕ) → length (rem_magnitudes negated a b c d) ≤ 2
magnitudes_two negated a b c d =
    magnitudes_case negated a b c d (λ l. length l ≤ 2)
    (omega (arith, signed_one negated 0 (d - 1)))
    (λ _ _ _. omega (arith, length-append (signed_span negated 0 (b % c)) [], signed_one negated 0 (b % c)))
    (λ _ _ _. omega (arith, length-append (signed_span negated 0 (b % c)) (signed_span negated (a % c) (c - 1)), signed_one negated 0 (b % c), signed_one negated (a % c) (c - 1)))
    (λ _ _ _. omega (arith, signed_one negated (a % c) (b % c)))

magnitudes_one : (negated : Bool) (a b c d : ℕ) → a ≤ b → (c ≡ d → c ≡ 1) → length (rem_magnitudes negated a b c d) ≤ 1
magnitudes_one negated a b c d h k =
    magnitudes_case negated a b c d (λ l. length l ≤ 1)
    (omega (arith, signed_one negated 0 (d - 1)))
    (λ _ _ _. omega (arith, length-append (signed_span negated 0 (b % c)) [], signed_one negated 0 (b % c)))
    (λ n e i. let m : b / c * c ≡ b / 1 * 1 = ap (λ (q : ℕ). b / q * q) (k e) in let j = k e in absurd (omega arith))
    (λ _ _ _. omega (arith, signed_one negated (a % c) (b % c)))

pub fewer_two : (t f : ℤ) → Fewer 2 t f
unfolding rule_f
fewer_two t f = record { at = λ s e. magnitudes_two (lt_z s (pos 0)) (least_magnitude s e) (greatest_magnitude s e) (least_magnitude t f) (greatest_magnitude t f) }

pub fewer_one : {t f : ℤ} → (least_magnitude t f ≡ greatest_magnitude t f → least_magnitude t f ≡ 1) → Fewer 1 t f
unfolding rule_f
fewer_one {t} {f} n = record { at = λ s e. magnitudes_one (lt_z s (pos 0)) (least_magnitude s e) (greatest_magnitude s e) (least_magnitude t f) (greatest_magnitude t f) (omega arith) n }
