-- One digit more of a number in decimal. Assumes nothing.
use mathlib.Core.Path.{◌≡◌, refl, sym, ap, ◌∙◌}
use mathlib.Core.List.{List, ◌∷◌, ◌++◌}
use Prim.Native.Nat.{ℕ, suc, ◌+◌, ◌/◌, ◌%◌, ◌≤◌, ◌<◌}
use native.Mathlib.Omega.{arith}
use native.Mathlib.Numerals.{add-one}
use borrow.Author.Tests.{lt-ltb, le-ltb}
use lib.ListN.{length, set, drop, length-set}
use lib.IntN.{ℤ, pos, negsuc, nat_abs}
use lib.Signed.{◌≤ℤ◌, ◌<ℤ◌}
use lib.Seq.{drop-cons, drop-set-lt, get_or-set_same}
use Rattle.laws.proofs.Integers.{lt_in}
use Rattle.meaning.specs.Bytes.{bytes}
use Rattle.meaning.specs.Listing.{digits_before, decimal, decimal_z}

-- a stored element, and what stands after it
pub drop_set : (l : List ℕ) (i v : ℕ) → i < length l → drop i (set l i v) ≡ v ∷ drop (suc i) l
drop_set l i v h =
    drop-cons (set l i v) i 0 (omega (arith, length-set l i v))
    ∙ (λ j. get_or-set_same l i v 0 h j ∷ drop-set-lt (suc i) l i v (omega arith) j)

module _ (at k m : ℕ) (l : List ℕ) (e : k + 1 ≡ at) (h : k < length l) where
  at_is : at ≡ suc k
  at_is = sym e ∙ add-one k

  -- the first digit
  pub last_digit : m / 10 ≡ 0 → (d : ℕ) → d ≡ 48 + m % 10 → drop k (set l k d) ≡ digits_before at m (drop at l)
  unfolding digits_before
  last_digit q d p =
      let small : m < 10 = omega arith in
      let same : m % 10 ≡ m = omega arith in
      drop_set l k d h ∙ rw (at_is, lt-ltb m 10 small, p, same)

  -- another digit, with more before it
  pub next_digit : 10 ≤ m → (d : ℕ) → d ≡ 48 + m % 10 → digits_before k (m / 10) (drop k (set l k d)) ≡ digits_before at m (drop at l)
  unfolding digits_before
  next_digit q d p = ap (digits_before k (m / 10)) (drop_set l k d h) ∙ rw (at_is, le-ltb m 10 q, p)

-- ---- the minus

pub minus_digits : (x : ℤ) → x <ℤ pos 0 → bytes "-" ++ decimal (nat_abs x) ≡ decimal_z x
unfolding decimal_z
minus_digits (pos n) h = absurd (omega (arith, lt_in {a = pos n} {b = pos 0} h))
minus_digits (negsuc n) h = refl

pub plain_digits : (x : ℤ) → pos 0 ≤ℤ x → decimal (nat_abs x) ≡ decimal_z x
unfolding decimal_z
plain_digits (pos n) h = refl
plain_digits (negsuc n) h = absurd h.le
