-- The integer kit: `omega` for ℤ. Every integer z is up z − down z, with up z and down z natural numbers, so orders, equations, sums, differences and tests of
-- integers are linear facts on ℕ. The ruleset `zarith` makes `omega` read and prove `a ≤ℤ b`, `a <ℤ b`, `a ≡ b`, and `le_z`, `lt_z`, `eq_z a b ≡ true` or `false`;
-- for a compound term list its parts: `add_parts x y`, `sub_parts x y`, `neg_parts x`, `suc_parts x`, `mul_parts x y`. Assumes nothing.
use mathlib.Core.Path.{◌≡◌, refl, sym, ap, ◌∙◌, subst}
use mathlib.Core.Bool.{Bool, true, false, not, cond, ◌&&◌, ◌||◌}
use mathlib.Core.Logic.{◌⊎◌, inl, inr}
use Prim.Native.Nat.{ℕ, zero, suc, ◌+◌, ◌-◌, ◌*◌, ◌/◌, ◌%◌, ◌≤◌, ◌<◌, min}
use native.Mathlib.Nat.{zero-div, zero-mod, mul-le-mul_right}
use native.Mathlib.Omega.{arith}
use lib.Dec.{T, eqb, ltb, leb→le, le→leb, ltb→lt, lt→ltb, nltb→le, nleb→lt}
use borrow.Author.Tests.{eqb-true, eqb-false}
use lib.IntN.{ℤ, pos, negsuc, neg_ℤ, nat_abs, sub_ℕ, ◌+ℤ◌, ◌-ℤ◌, ◌*ℤ◌, suc_ℤ, pred_ℤ}
use lib.Signed.{◌≤ℤ◌, ◌<ℤ◌, le_z, lt_z, quot_z, rem_z}
use Rattle.meaning.specs.Number.{Between, within, eq_z, smaller, larger}

abbrev pub up : ℤ → ℕ
up (pos n) = n
up (negsuc n) = 0

abbrev pub down : ℤ → ℕ
down (pos n) = 0
down (negsuc n) = suc n

-- ---- cases of a Boolean

pub never : {X : Type 0} → ◌≡◌ {A = Bool} true false → X
never e = let z : ◌≡◌ {A = ℕ} 0 1 = cc in absurd (let x : ⊥ = omega arith in x)

pub clash : {X : Type 0} {t : Bool} → t ≡ true → t ≡ false → X
clash p q = never (sym p ∙ q)

pub is_true : (t : Bool) → T t → t ≡ true
is_true true h = refl
is_true false h = absurd h

pub true_T : {t : Bool} → t ≡ true → T t
true_T e = subst T (sym e) tt

pub false_T : {t : Bool} → t ≡ false → T (not t)
false_T e = subst (λ (t : Bool). T (not t)) (sym e) tt

-- a proof by a test's two cases
pub by_test {ℓ} : {P : Type ℓ} (t : Bool) → (t ≡ true → P) → (t ≡ false → P) → P
by_test true f g = f refl
by_test false f g = g refl

-- a choice by a test, by its two cases
pub cond_case {ℓ ℓ'} : {A : Type ℓ} (P : A → Type ℓ') (t : Bool) (x y : A) → (t ≡ true → P x) → (t ≡ false → P y) → P (cond t x y)
cond_case P true x y f g = f refl
cond_case P false x y f g = g refl

-- two choices by the same test
pub cond_same {ℓ} : {A : Type ℓ} (t : Bool) {x x' y y' : A} → (t ≡ true → x ≡ x') → (t ≡ false → y ≡ y') → cond t x y ≡ cond t x' y'
cond_same true f g = f refl
cond_same false f g = g refl

-- a choice by a test that is known
pub if_yes {ℓ} : {A : Type ℓ} {t : Bool} (a b : A) → t ≡ true → a ≡ cond t a b
if_yes a b e = ap (λ (t : Bool). cond t a b) (sym e)

pub if_no {ℓ} : {A : Type ℓ} {t : Bool} (a b : A) → t ≡ false → b ≡ cond t a b
if_no a b e = ap (λ (t : Bool). cond t a b) (sym e)

pub and_yes : {a b : Bool} → a ≡ true → b ≡ true → (a && b) ≡ true
and_yes {a} {b} p q = ap (λ (t : Bool). t && b) p ∙ q

pub and_left : {a : Bool} (b : Bool) → a ≡ false → (a && b) ≡ false
and_left b e = ap (λ (a : Bool). a && b) e

pub and_right : (a : Bool) {b : Bool} → b ≡ false → (a && b) ≡ false
and_right true e = e
and_right false e = refl

pub and_both : (a b : Bool) → (a && b) ≡ true → (a ≡ true) × (b ≡ true)
and_both true b e = (refl, e)
and_both false b e = never (sym e)

pub and_cases : (a b : Bool) → (a && b) ≡ false → (a ≡ false) ⊎ (b ≡ false)
and_cases true b e = inr e
and_cases false b e = inl refl

pub or_left : {a : Bool} (b : Bool) → a ≡ true → (a || b) ≡ true
or_left b e = ap (λ (a : Bool). a || b) e

pub or_right : (a : Bool) {b : Bool} → b ≡ true → (a || b) ≡ true
or_right true e = refl
or_right false e = e

pub or_cases : (a b : Bool) → (a || b) ≡ true → (a ≡ true) ⊎ (b ≡ true)
or_cases true b e = inl refl
or_cases false b e = inr e

pub or_none : (a b : Bool) → (a || b) ≡ false → (a ≡ false) × (b ≡ false)
or_none true b e = never e
or_none false b e = (refl, e)

pub not_true : (a : Bool) → not a ≡ true → a ≡ false
not_true true e = sym e
not_true false e = refl

pub not_false : (a : Bool) → not a ≡ false → a ≡ true
not_false true e = refl
not_false false e = sym e

-- two tests that say the same
pub same_test : (a b : Bool) → (a ≡ true → b ≡ true) → (b ≡ true → a ≡ true) → a ≡ b
same_test true true f g = refl
same_test true false f g = sym (f refl)
same_test false true f g = g refl
same_test false false f g = refl

-- ---- orders and equations in hypotheses

pub le_in : {a b : ℤ} → a ≤ℤ b → up a + down b ≤ up b + down a
le_in {a = pos a} {b = pos b} h = omega (arith, leb→le a b h.le)
le_in {a = pos a} {b = negsuc b} h = absurd h.le
le_in {a = negsuc a} {b = pos b} h = omega arith
le_in {a = negsuc a} {b = negsuc b} h = omega (arith, leb→le b a h.le)

pub lt_in : {a b : ℤ} → a <ℤ b → up a + down b < up b + down a
lt_in {a = pos a} {b = pos b} h = omega (arith, ltb→lt a b h.lt)
lt_in {a = pos a} {b = negsuc b} h = absurd h.lt
lt_in {a = negsuc a} {b = pos b} h = omega arith
lt_in {a = negsuc a} {b = negsuc b} h = omega (arith, ltb→lt b a h.lt)

pub eq_in : {a b : ℤ} → a ≡ b → up a + down b ≡ up b + down a
eq_in {a} {b} e = ap (λ (z : ℤ). up a + down z) (sym e) ∙ ap (λ (z : ℤ). up z + down a) e

-- ---- and in goals

pub le_out : {a b : ℤ} → up a + down b ≤ up b + down a → a ≤ℤ b
le_out {a = pos a} {b = pos b} h = record { le = le→leb a b (omega arith) }
le_out {a = pos a} {b = negsuc b} h = absurd (omega arith)
le_out {a = negsuc a} {b = pos b} h = record { le = tt }
le_out {a = negsuc a} {b = negsuc b} h = record { le = le→leb b a (omega arith) }

pub lt_out : {a b : ℤ} → up a + down b < up b + down a → a <ℤ b
lt_out {a = pos a} {b = pos b} h = record { lt = lt→ltb a b (omega arith) }
lt_out {a = pos a} {b = negsuc b} h = absurd (omega arith)
lt_out {a = negsuc a} {b = pos b} h = record { lt = tt }
lt_out {a = negsuc a} {b = negsuc b} h = record { lt = lt→ltb b a (omega arith) }

pub eq_out : {a b : ℤ} → up a + down b ≡ up b + down a → a ≡ b
eq_out {a = pos a} {b = pos b} h = ap pos (omega arith)
eq_out {a = pos a} {b = negsuc b} h = absurd (omega arith)
eq_out {a = negsuc a} {b = pos b} h = absurd (omega arith)
eq_out {a = negsuc a} {b = negsuc b} h = ap negsuc (omega arith)

-- (`omega` takes no lemma that ends in ≢ for a rule, so it is said by `-`)
apart : (m n : ℕ) → (m ≡ n → ⊥) → 1 ≤ (m - n) + (n - m)
apart m n f = omega arith

pub ne_in : (a b : ℤ) → (a ≡ b → ⊥) → 1 ≤ ((up a + down b) - (up b + down a)) + ((up b + down a) - (up a + down b))
ne_in a b f = apart (up a + down b) (up b + down a) (λ e. f (eq_out e))

-- ---- tests in hypotheses

pub lt_z_true : (a b : ℤ) → lt_z a b ≡ true → up a + down b < up b + down a
lt_z_true a b e = lt_in {a = a} {b = b} (record { lt = true_T e })

pub le_z_true : (a b : ℤ) → le_z a b ≡ true → up a + down b ≤ up b + down a
le_z_true a b e = le_in {a = a} {b = b} (record { le = true_T e })

pub lt_z_false : (a b : ℤ) → lt_z a b ≡ false → up b + down a ≤ up a + down b
lt_z_false (pos a) (pos b) e = omega (arith, nltb→le a b (false_T e))
lt_z_false (pos a) (negsuc b) e = omega arith
lt_z_false (negsuc a) (pos b) e = absurd (false_T e)
lt_z_false (negsuc a) (negsuc b) e = omega (arith, nltb→le b a (false_T e))

pub le_z_false : (a b : ℤ) → le_z a b ≡ false → up b + down a < up a + down b
le_z_false (pos a) (pos b) e = omega (arith, nleb→lt a b (false_T e))
le_z_false (pos a) (negsuc b) e = omega arith
le_z_false (negsuc a) (pos b) e = absurd (false_T e)
le_z_false (negsuc a) (negsuc b) e = omega (arith, nleb→lt b a (false_T e))

pub eq_z_true : (a b : ℤ) → eq_z a b ≡ true → up a + down b ≡ up b + down a
eq_z_true (pos a) (pos b) e = omega (arith, eqb-true a b e)
eq_z_true (pos a) (negsuc b) e = never (sym e)
eq_z_true (negsuc a) (pos b) e = never (sym e)
eq_z_true (negsuc a) (negsuc b) e = omega (arith, eqb-true a b e)

pub eq_z_is : {a b : ℤ} → eq_z a b ≡ true → a ≡ b
eq_z_is {a} {b} e = eq_out (eq_z_true a b e)

eq_z_refl : (a : ℤ) → eq_z a a ≡ true
eq_z_refl (pos a) = by_test (eqb a a) (λ e. e) (λ e. absurd (eqb-false a a e refl))
eq_z_refl (negsuc a) = by_test (eqb a a) (λ e. e) (λ e. absurd (eqb-false a a e refl))

pub eq_z_not : {a b : ℤ} → eq_z a b ≡ false → a ≡ b → ⊥
eq_z_not {a} {b} e p = clash (ap (eq_z a) (sym p) ∙ eq_z_refl a) e

pub eq_z_false : (a b : ℤ) → eq_z a b ≡ false → 1 ≤ ((up a + down b) - (up b + down a)) + ((up b + down a) - (up a + down b))
eq_z_false a b e = ne_in a b (eq_z_not e)

-- ---- and a goal that is a test

pub true_lt_z : (a b : ℤ) → up a + down b < up b + down a → lt_z a b ≡ true
true_lt_z a b h = is_true (lt_z a b) (lt_out {a = a} {b = b} h).lt

pub true_le_z : (a b : ℤ) → up a + down b ≤ up b + down a → le_z a b ≡ true
true_le_z a b h = is_true (le_z a b) (le_out {a = a} {b = b} h).le

pub false_lt_z : (a b : ℤ) → up b + down a ≤ up a + down b → lt_z a b ≡ false
false_lt_z a b h = by_test (lt_z a b) (λ t. absurd (omega (arith, lt_z_true a b t))) (λ t. t)

pub false_le_z : (a b : ℤ) → up b + down a < up a + down b → le_z a b ≡ false
false_le_z a b h = by_test (le_z a b) (λ t. absurd (omega (arith, le_z_true a b t))) (λ t. t)

pub true_eq_z : (a b : ℤ) → up a + down b ≡ up b + down a → eq_z a b ≡ true
true_eq_z a b h = ap (eq_z a) (sym (eq_out {a = a} {b = b} h)) ∙ eq_z_refl a

pub false_eq_z : (a b : ℤ) → 1 ≤ ((up a + down b) - (up b + down a)) + ((up b + down a) - (up a + down b)) → eq_z a b ≡ false
false_eq_z a b h = by_test (eq_z a b) (λ t. absurd (omega (arith, eq_z_true a b t))) (λ t. t)

pub ruleset zarith = (
  arith,
  le_in,
  lt_in,
  eq_in,
  le_out,
  lt_out,
  eq_out,
  lt_z_true,
  le_z_true,
  lt_z_false,
  le_z_false,
  eq_z_true,
  eq_z_false,
  true_lt_z,
  true_le_z,
  false_lt_z,
  false_le_z,
  true_eq_z,
  false_eq_z,
)

-- ---- one of the two parts is 0

pub one_part : (a : ℤ) → min (up a) (down a) ≡ 0
one_part (pos a) = omega arith
one_part (negsuc a) = omega arith

pub abs_parts : (a : ℤ) → nat_abs a ≡ up a + down a
abs_parts (pos n) = omega arith
abs_parts (negsuc n) = omega arith

-- ---- the operations

pub up_neg : (a : ℤ) → up (neg_ℤ a) ≡ down a
up_neg (pos zero) = refl
up_neg (pos (suc n)) = refl
up_neg (negsuc n) = refl

pub down_neg : (a : ℤ) → down (neg_ℤ a) ≡ up a
down_neg (pos zero) = refl
down_neg (pos (suc n)) = refl
down_neg (negsuc n) = refl

pub neg_parts : (a : ℤ) → up (neg_ℤ a) + up a ≡ down (neg_ℤ a) + down a
neg_parts a = omega (arith, up_neg a, down_neg a)

pub subℕ_parts : (a b : ℕ) → up (sub_ℕ a b) + b ≡ down (sub_ℕ a b) + a
subℕ_parts a b =
    cond_case (λ z. up z + b ≡ down z + a) (ltb a b) (negsuc (b - suc a)) (pos (a - b))
    (λ t. omega (arith, ltb→lt a b (true_T t)))
    (λ t. omega (arith, nltb→le a b (false_T t)))

pub add_parts : (a b : ℤ) → up (a +ℤ b) + down a + down b ≡ down (a +ℤ b) + up a + up b
add_parts (pos a) (pos b) = omega arith
add_parts (pos a) (negsuc b) = omega (arith, subℕ_parts a (suc b))
add_parts (negsuc a) (pos b) = omega (arith, subℕ_parts b (suc a))
add_parts (negsuc a) (negsuc b) = omega arith

pub sub_parts : (a b : ℤ) → up (a -ℤ b) + down a + up b ≡ down (a -ℤ b) + up a + down b
sub_parts a b = omega (arith, add_parts a (neg_ℤ b), up_neg b, down_neg b)

pub suc_parts : (a : ℤ) → up (suc_ℤ a) + down a ≡ up a + down (suc_ℤ a) + 1
suc_parts (pos n) = omega arith
suc_parts (negsuc zero) = omega arith
suc_parts (negsuc (suc n)) = omega arith

pub pred_parts : (a : ℤ) → up (pred_ℤ a) + 1 + down a ≡ up a + down (pred_ℤ a)
pred_parts (pos zero) = omega arith
pred_parts (pos (suc n)) = omega arith
pred_parts (negsuc n) = omega arith

pub mul_parts : (a b : ℤ) → up (a *ℤ b) + (up a * down b + down a * up b) ≡ up a * up b + down a * down b + down (a *ℤ b)
mul_parts (pos a) (pos b) = omega arith
mul_parts (pos a) (negsuc b) = omega (arith, up_neg (pos (a * suc b)), down_neg (pos (a * suc b)))
mul_parts (negsuc a) (pos b) = omega (arith, up_neg (pos (suc a * b)), down_neg (pos (suc a * b)))
mul_parts (negsuc a) (negsuc b) = omega arith

-- a product by a number from 0 up
pub up_scale : (k : ℕ) (z : ℤ) → up (pos k *ℤ z) ≡ k * up z
up_scale k (pos n) = refl
up_scale k (negsuc n) = up_neg (pos (k * suc n)) ∙ omega arith

pub down_scale : (k : ℕ) (z : ℤ) → down (pos k *ℤ z) ≡ k * down z
down_scale k (pos n) = omega arith
down_scale k (negsuc n) = down_neg (pos (k * suc n))

pub scale_le : (k : ℕ) {x y : ℤ} → x ≤ℤ y → (pos k *ℤ x) ≤ℤ (pos k *ℤ y)
scale_le k {x} {y} h =
    le_out (omega (arith, up_scale k x, down_scale k x, up_scale k y, down_scale k y, mul-le-mul_right k (le_in h)))

-- ---- quotients and remainders

pub up_quot : (a : ℤ) (d : ℕ) → up (quot_z a (pos d)) ≡ up a / d
up_quot (pos n) d = refl
up_quot (negsuc n) d = up_neg (pos (suc n / d)) ∙ sym (zero-div d)

pub down_quot : (a : ℤ) (d : ℕ) → down (quot_z a (pos d)) ≡ down a / d
down_quot (pos n) d = sym (zero-div d)
down_quot (negsuc n) d = down_neg (pos (suc n / d))

pub up_quot_neg : (a : ℤ) (d : ℕ) → up (quot_z a (negsuc d)) ≡ down a / suc d
up_quot_neg (pos n) d = up_neg (pos (n / suc d)) ∙ sym (zero-div (suc d))
up_quot_neg (negsuc n) d = refl

pub down_quot_neg : (a : ℤ) (d : ℕ) → down (quot_z a (negsuc d)) ≡ up a / suc d
down_quot_neg (pos n) d = down_neg (pos (n / suc d))
down_quot_neg (negsuc n) d = sym (zero-div (suc d))

pub up_rem : (a d : ℤ) → up (rem_z a d) ≡ up a % nat_abs d
up_rem (pos n) d = refl
up_rem (negsuc n) d = up_neg (pos (suc n % nat_abs d)) ∙ sym (zero-mod (nat_abs d))

pub down_rem : (a d : ℤ) → down (rem_z a d) ≡ down a % nat_abs d
down_rem (pos n) d = sym (zero-mod (nat_abs d))
down_rem (negsuc n) d = down_neg (pos (suc n % nat_abs d))

-- ---- orders

pub ≤ℤ_trans : {a b c : ℤ} → a ≤ℤ b → b ≤ℤ c → a ≤ℤ c
≤ℤ_trans h k = omega zarith

-- one of two orders holds
pub by_order {ℓ} : {P : Type ℓ} (a b : ℤ) → (a <ℤ b → P) → (b ≤ℤ a → P) → P
by_order a b f g = by_test (lt_z a b) (λ t. f (lt_out (lt_z_true a b t))) (λ t. g (le_out (lt_z_false a b t)))

pub equal_or_not {ℓ} : (x c : ℤ) {P : Type ℓ} → (x ≡ c → P) → ((x ≡ c → ⊥) → P) → P
equal_or_not x c f g = by_test (eq_z x c) (λ t. f (eq_z_is t)) (λ t. g (eq_z_not t))

-- the smaller and the larger of two
pub smaller_case {ℓ} : (P : ℤ → Type ℓ) (a b : ℤ) → (a ≤ℤ b → P a) → (b <ℤ a → P b) → P (smaller a b)
smaller_case P a b f g = cond_case P (le_z a b) a b (λ t. f (le_out (le_z_true a b t))) (λ t. g (lt_out (le_z_false a b t)))

pub larger_case {ℓ} : (P : ℤ → Type ℓ) (a b : ℤ) → (a ≤ℤ b → P b) → (b <ℤ a → P a) → P (larger a b)
larger_case P a b f g = cond_case P (le_z a b) b a (λ t. f (le_out (le_z_true a b t))) (λ t. g (lt_out (le_z_false a b t)))

-- the smaller is at most both, the larger at least both, in parts
pub smaller_le : (a b : ℤ) → (up (smaller a b) + down a ≤ up a + down (smaller a b)) × (up (smaller a b) + down b ≤ up b + down (smaller a b))
smaller_le a b = smaller_case (λ m. (up m + down a ≤ up a + down m) × (up m + down b ≤ up b + down m)) a b (λ h. (omega zarith, omega zarith)) (λ h. (omega zarith, omega zarith))

pub larger_ge : (a b : ℤ) → (up a + down (larger a b) ≤ up (larger a b) + down a) × (up b + down (larger a b) ≤ up (larger a b) + down b)
larger_ge a b = larger_case (λ m. (up a + down m ≤ up m + down a) × (up b + down m ≤ up m + down b)) a b (λ h. (omega zarith, omega zarith)) (λ h. (omega zarith, omega zarith))

-- ---- z is in [s,e], below it or above it

pub within_case {ℓ} : (P : Bool → Type ℓ) (s z e : ℤ) → (s ≤ℤ z → z ≤ℤ e → P true) → (z <ℤ s → P false) → (e <ℤ z → P false) → P (within s z e)
unfolding within
within_case P s z e f g h = go (le_z s z) (le_z z e) refl refl
  where
    go : (t u : Bool) → le_z s z ≡ t → le_z z e ≡ u → P (t && u)
    go true true p q = f (omega zarith) (omega zarith)
    go true false p q = h (omega zarith)
    go false u p q = g (omega zarith)

pub is_within : {s z e : ℤ} → s ≤ℤ z → z ≤ℤ e → within s z e ≡ true
is_within {s} {z} {e} h k = within_case (λ t. t ≡ true) s z e (λ _ _. refl) (λ l. absurd (omega zarith)) (λ l. absurd (omega zarith))

pub below_out : {s z : ℤ} (e : ℤ) → z <ℤ s → within s z e ≡ false
below_out {s} {z} e h = within_case (λ t. t ≡ false) s z e (λ a b. absurd (omega zarith)) (λ _. refl) (λ _. refl)

pub above_out : {z e : ℤ} (s : ℤ) → e <ℤ z → within s z e ≡ false
above_out {z} {e} s h = within_case (λ t. t ≡ false) s z e (λ a b. absurd (omega zarith)) (λ _. refl) (λ _. refl)

pub from_within : (s z e : ℤ) → within s z e ≡ true → Between s z e
from_within s z e h = within_case (λ t. t ≡ true → Between s z e) s z e (λ a b _. record { above = a; below = b }) (λ _ f. never (sym f)) (λ _ f. never (sym f)) h

pub between_within : {lo z hi : ℤ} → Between lo z hi → within lo z hi ≡ true
between_within b = is_within b.above b.below
