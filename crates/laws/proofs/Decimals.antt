-- The decimal writer reads back: the digits of n read as n, there is no needless 0 in front, and a signed number is its digits behind a minus. Assumes nothing.
use lib.Dec.{leb, ltb, eqb}
use lib.IntN.{ℤ, pos, negsuc, nat_abs}
use lib.ListN.{length, get_or, drop}
use mathlib.Core.Path.{◌≡◌, refl, sym, ap, ◌∙◌, subst}
use mathlib.Core.Bool.{true, false, cond}
use mathlib.Core.List.{List, [], ◌∷◌}
use Prim.Native.Nat.{ℕ, zero, suc, ◌+◌, ◌-◌, ◌*◌, ◌/◌, ◌%◌, ◌^◌, ◌≤◌, ◌<◌}
use Prim.Native.Char.{code}
use native.Mathlib.Nat.{pow-suc}
use native.Mathlib.Omega.{arith}
use borrow.Author.Tests.{ltb-true, ltb-false, eqb-true, leb-true, le-leb, ne_eqb}
use Rattle.meaning.specs.Lists.{All}
use Rattle.meaning.specs.Number.{InRange}
use Rattle.meaning.specs.Reading.{is_digit, number, needless, signed}
use Rattle.meaning.specs.Listing.{digits_before, decimal, decimal_z}
use Rattle.laws.proofs.Integers.{by_test, cond_case, if_no, and_yes, and_both, and_right, le_in}

tenfold : (k : ℕ) → 10 ^ suc k ≡ 10 ^ k * 10
tenfold k = pow-suc 10 k

-- ---- the digits read back

digits_read : (k n : ℕ) (tail : List ℕ) → n < 10 ^ k → number 0 (digits_before k n tail) ≡ number n tail
unfolding digits_before number
digits_read zero n tail h = ap (λ (m : ℕ). number m tail) (omega arith)
digits_read (suc k) n tail h =
    cond_case (λ (l : List ℕ). number 0 l ≡ number n tail) (ltb n 10) ((48 + n) ∷ tail) (digits_before k (n / 10) ((48 + n % 10) ∷ tail))
    (λ t. ap (λ (m : ℕ). number m tail) (let e : 0 * 10 + (48 + n - 48) ≡ n = omega arith in e))
    (λ t. digits_read k (n / 10) ((48 + n % 10) ∷ tail) (omega (arith, tenfold k)) ∙ ap (λ (m : ℕ). number m tail) (let e : n / 10 * 10 + (48 + n % 10 - 48) ≡ n = omega arith in e))

pub decimal_read : (n : ℕ) → n < 10 ^ 20 → number 0 (decimal n) ≡ n
unfolding decimal number
decimal_read n h = digits_read 20 n [] h

-- ---- every byte is a digit

abbrev pub Digit : ℕ → Type 0
Digit b = is_digit b ≡ true

is_digit_lem : (b : ℕ) → 48 ≤ b → b ≤ 57 → Digit b
is_digit_lem b h k = and_yes (le-leb 48 b h) (le-leb b 57 k)

digits_all : (k n : ℕ) (tail : List ℕ) → All Digit tail → All Digit (digits_before k n tail)
unfolding digits_before
digits_all zero n tail p = p
digits_all (suc k) n tail p =
    cond_case (All Digit) (ltb n 10) ((48 + n) ∷ tail) (digits_before k (n / 10) ((48 + n % 10) ∷ tail))
    (λ t. (is_digit_lem (48 + n) (omega arith) (omega (arith, ltb-true n 10 t)), p))
    (λ t. digits_all k (n / 10) ((48 + n % 10) ∷ tail) (is_digit_lem (48 + n % 10) (omega arith) (omega arith), p))

pub decimal_digits : (n : ℕ) → All Digit (decimal n)
unfolding decimal
decimal_digits n = digits_all 20 n [] tt

-- ---- the length: at least 1, and at most k for a number below 10^k

digits_most : (m k n : ℕ) (tail : List ℕ) → 1 ≤ k → n < 10 ^ k → length (digits_before m n tail) ≤ k + length tail
unfolding digits_before
digits_most zero k n tail h b = omega arith
digits_most (suc m) zero n tail h b = absurd (let x : ⊥ = omega arith in x)
digits_most (suc m) (suc k) n tail h b =
    cond_case (λ (l : List ℕ). length l ≤ suc k + length tail) (ltb n 10) ((48 + n) ∷ tail) (digits_before m (n / 10) ((48 + n % 10) ∷ tail))
    (λ t. omega arith)
    (λ t. longer k (ltb-false n 10 t) b (λ c d. digits_most m k (n / 10) ((48 + n % 10) ∷ tail) c d))
  where
    longer : (k : ℕ) → 10 ≤ n → n < 10 ^ suc k → (1 ≤ k → n / 10 < 10 ^ k → length (digits_before m (n / 10) ((48 + n % 10) ∷ tail)) ≤ k + suc (length tail))
        → length (digits_before m (n / 10) ((48 + n % 10) ∷ tail)) ≤ suc k + length tail
    longer zero t b ih = absurd (let x : ⊥ = omega arith in x)
    longer (suc k) t b ih = let e = ih (omega arith) (omega (arith, tenfold (suc k))) in omega arith

pub decimal_most : (k n : ℕ) → 1 ≤ k → n < 10 ^ k → length (decimal n) ≤ k
unfolding decimal
decimal_most k n h b = omega (arith, digits_most 20 k n [] h b)

digits_some : (k n : ℕ) (tail : List ℕ) → length tail ≤ length (digits_before k n tail)
unfolding digits_before
digits_some zero n tail = omega arith
digits_some (suc k) n tail =
    cond_case (λ (l : List ℕ). length tail ≤ length l) (ltb n 10) ((48 + n) ∷ tail) (digits_before k (n / 10) ((48 + n % 10) ∷ tail))
    (λ t. omega arith) (λ t. omega (arith, digits_some k (n / 10) ((48 + n % 10) ∷ tail)))

pub decimal_some : (n : ℕ) → 1 ≤ length (decimal n)
unfolding decimal digits_before
decimal_some n =
    cond_case (λ (l : List ℕ). 1 ≤ length l) (ltb n 10) ((48 + n) ∷ []) (digits_before 19 (n / 10) ((48 + n % 10) ∷ []))
    (λ t. omega arith) (λ t. digits_some 19 (n / 10) ((48 + n % 10) ∷ []))

zero_alone : needless (decimal 0) (length (decimal 0)) ≡ false
unfolding decimal digits_before
zero_alone = refl

-- ---- no needless 0 in front: the first digit is 0 for the number 0 alone

digits_lead : (k n : ℕ) (tail : List ℕ) → n < 10 ^ suc k → get_or (digits_before (suc k) n tail) 0 0 ≡ 48 → n ≡ 0
unfolding digits_before
digits_lead zero n tail h =
    cond_case (λ (l : List ℕ). get_or l 0 0 ≡ 48 → n ≡ 0) (ltb n 10) ((48 + n) ∷ tail) ((48 + n % 10) ∷ tail) (λ t e. omega arith) (λ t e. omega (arith, ltb-false n 10 t))
digits_lead (suc k) n tail h =
    cond_case (λ (l : List ℕ). get_or l 0 0 ≡ 48 → n ≡ 0) (ltb n 10) ((48 + n) ∷ tail) (digits_before (suc k) (n / 10) ((48 + n % 10) ∷ tail))
    (λ t e. omega arith)
    (λ t e. omega (arith, ltb-false n 10 t, digits_lead k (n / 10) ((48 + n % 10) ∷ tail) (omega (arith, tenfold (suc k))) e))

pub decimal_lead : (n : ℕ) → n < 10 ^ 20 → needless (decimal n) (length (decimal n)) ≡ false
unfolding decimal
decimal_lead n h =
    by_test (eqb (get_or (decimal n) 0 0) 48)
    (λ t. subst (λ (m : ℕ). needless (decimal m) (length (decimal m)) ≡ false) (sym (digits_lead 19 n [] h (eqb-true (get_or (decimal n) 0 0) 48 t))) zero_alone)
    (λ t. and_right (ltb 1 (length (decimal n))) t)

-- ---- signed numbers: a minus, or none, and the digits

abbrev pub signed_number : List ℕ → ℤ
signed_number s = cond (eqb (get_or s 0 0) (code "-")) (signed true (number 0 (drop 1 s))) (signed false (number 0 s))

first_digit : (l : List ℕ) → 1 ≤ length l → All Digit l → eqb (get_or l 0 0) (code "-") ≡ false
first_digit [] h p = absurd (let x : ⊥ = omega arith in x)
first_digit (b ∷ l) h p = ne_eqb b (code "-") (λ e. let k = leb-true 48 b (and_both (leb 48 b) (leb b 57) p.0).0 in omega arith)

pub decimal_z_read : (z : ℤ) → nat_abs z < 10 ^ 20 → signed_number (decimal_z z) ≡ z
unfolding decimal_z
decimal_z_read (pos n) h =
    sym (if_no (signed true (number 0 (drop 1 (decimal n)))) (signed false (number 0 (decimal n))) (first_digit (decimal n) (decimal_some n) (decimal_digits n)))
    ∙ ap pos (decimal_read n h)
decimal_z_read (negsuc n) h = ap (signed true) (decimal_read (suc n) h)

-- nineteen digits and a minus hold every number from MIN to MAX
pub decimal_z_most : (z : ℤ) → InRange z → length (decimal_z z) ≤ 20
unfolding decimal_z
decimal_z_most (pos n) h = let a = h.below in omega (arith, le_in a, decimal_most 19 n (omega arith) (omega (arith, le_in a)))
decimal_z_most (negsuc n) h = let a = h.above in omega (arith, le_in a, decimal_most 19 (suc n) (omega arith) (omega (arith, le_in a)))
