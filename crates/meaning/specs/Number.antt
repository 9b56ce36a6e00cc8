-- Number (01, "Number"): a signed 64-bit count of thousandths, as an integer from MIN to MAX, and the point operations on it. Assumes nothing.
use Rattle.std.specs.Prelude.{ℤ, pos, negsuc, neg_ℤ, nat_abs, ◌+ℤ◌, ◌-ℤ◌, ◌*ℤ◌, ◌≤ℤ◌, eqb, ◌≡◌, Bool, false, not, cond, ◌&&◌, ◌||◌, ℕ, ◌+◌, ◌-◌, ◌/◌, ◌^◌}
use Rattle.std.proofs.Math.IntN.{suc_ℤ, pred_ℤ}
use Rattle.std.specs.Int.Signed.{le_z, lt_z, quot_z, rem_z}
use Rattle.std.specs.Prelude.{Option, None, Some}

-- an integer is `pos n`, or `negsuc n`, which is −n − 1; this is −n
abbrev pub minus : ℕ → ℤ
minus n = neg_ℤ (pos n)

abbrev pub MIN : ℤ
MIN = negsuc (2 ^ 63 - 1)

abbrev pub MAX : ℤ
MAX = pos (2 ^ 63 - 1)

-- `ONE` is 1000
abbrev pub ONE : ℤ
ONE = pos 1000

-- z is from lo to hi, both included
pub record Between (lo z hi : ℤ) : Type 0 where
  pub above : lo ≤ℤ z
  pub below : z ≤ℤ hi

-- the same as a test
unfoldable pub within : ℤ → ℤ → ℤ → Bool
within lo z hi = le_z lo z && le_z z hi

abbrev pub InRange : ℤ → Type 0
InRange z = Between MIN z MAX

abbrev pub eq_z : ℤ → ℤ → Bool
eq_z (pos a) (pos b) = eqb a b
eq_z (pos a) (negsuc b) = false
eq_z (negsuc a) (pos b) = false
eq_z (negsuc a) (negsuc b) = eqb a b

abbrev pub smaller : ℤ → ℤ → ℤ
smaller a b = cond (le_z a b) a b

abbrev pub larger : ℤ → ℤ → ℤ
larger a b = cond (le_z a b) b a

-- the magnitude of the exact difference (02, (ii))
unfoldable pub distance : ℤ → ℤ → ℕ
distance a b = nat_abs (a -ℤ b)

-- ---- wrapping (01, "Spread")

-- the window of an exact number: the k for which it is between 2^64·k − 2^63 and 2^64·k + 2^63 − 1
unfoldable pub window : ℤ → ℤ
window (pos n) = pos ((n + 2 ^ 63) / 2 ^ 64)
window (negsuc n) = neg_ℤ (pos ((n + 2 ^ 63) / 2 ^ 64))

-- its wrapped value: itself less 2^64 times its window
unfoldable pub wrap : ℤ → ℤ
wrap z = z -ℤ (pos (2 ^ 64) *ℤ window z)

-- z is between 2^64·k − 2^63 and 2^64·k + 2^63 − 1
abbrev pub InWindow : ℤ → ℤ → Type 0
InWindow k z = Between ((pos (2 ^ 64) *ℤ k) -ℤ pos (2 ^ 63)) z ((pos (2 ^ 64) *ℤ k) +ℤ pos (2 ^ 63 - 1))

-- what 01 says of windows and wrapped values, of the two formulas. The theorem is `windows` of laws/proofs/Wrapping.antt
pub record Windows : Type 0 where
  -- a number is in its window and in no other
  pub in_window : (z : ℤ) → InWindow (window z) z
  pub one_window : (k z : ℤ) → InWindow k z → k ≡ window z
  -- its wrapped value is from MIN to MAX and is itself less 2^64·k; and a number from MIN to MAX that differs from it by some 2^64·k is its wrapped value
  pub wrap_range : (z : ℤ) → InRange (wrap z)
  pub wrap_less : (k z : ℤ) → InWindow k z → wrap z ≡ z -ℤ (pos (2 ^ 64) *ℤ k)
  pub wrap_only : (k z w : ℤ) → InRange w → w ≡ z -ℤ (pos (2 ^ 64) *ℤ k) → w ≡ wrap z

-- divided by 1000, toward 0
abbrev pub thousandth : ℤ → ℤ
thousandth z = quot_z z ONE

-- ---- point operations, as on the pages of i64

unfoldable pub negative : ℤ → ℤ
negative x = wrap (neg_ℤ x)

-- the absolute value of MIN is MIN
unfoldable pub absolute : ℤ → ℤ
absolute x = wrap (pos (nat_abs x))

unfoldable pub sum : ℤ → ℤ → ℤ
sum x y = wrap (x +ℤ y)

unfoldable pub difference : ℤ → ℤ → ℤ
difference x y = wrap (x -ℤ y)

-- the wrapped product, divided by 1000
unfoldable pub product : ℤ → ℤ → ℤ
product x y = thousandth (wrap (x *ℤ y))

-- the range of products (02, (vii)): MIN and MAX, divided by 1000
abbrev pub least_product : ℤ
least_product = minus 9223372036854775

abbrev pub greatest_product : ℤ
greatest_product = pos 9223372036854775

-- 1000 times the dividend, wrapped, then divided, wrapping
abbrev pub ratio : ℤ → ℤ → ℤ
ratio x y = wrap (quot_z (wrap (ONE *ℤ x)) y)

-- a divisor 0 has no result
unfoldable pub quotient : ℤ → ℤ → Option ℤ
quotient x y = cond (eq_z y (pos 0)) None (Some (ratio x y))

-- with the sign of the dividend; MIN rem −1 is 0
unfoldable pub remainder : ℤ → ℤ → Option ℤ
remainder x y = cond (eq_z y (pos 0)) None (Some (rem_z x y))

-- the next number has no answer at MAX, the one before none at MIN
unfoldable pub next : ℤ → Option ℤ
next x = cond (lt_z x MAX) (Some (suc_ℤ x)) None

unfoldable pub prev : ℤ → Option ℤ
prev x = cond (lt_z MIN x) (Some (pred_ℤ x)) None

-- ---- truth (01, "BoolInterval"): nonzero is true, and the result is 0 or 1000

abbrev pub truth : ℤ → Bool
truth x = not (eq_z x (pos 0))

abbrev pub of_bool : Bool → ℤ
of_bool b = cond b ONE (pos 0)

-- ---- all point operations, by name

pub data Op1 : Type 0 where
  neg abs not' : Op1

pub data Op2 : Type 0 where
  add sub mul div rem le lt ne and or : Op2

unfoldable pub point1 : Op1 → ℤ → ℤ
point1 neg x = negative x
point1 abs x = absolute x
point1 not' x = of_bool (not (truth x))

unfoldable pub point2 : Op2 → ℤ → ℤ → Option ℤ
point2 add x y = Some (sum x y)
point2 sub x y = Some (difference x y)
point2 mul x y = Some (product x y)
point2 div x y = quotient x y
point2 rem x y = remainder x y
point2 le x y = Some (of_bool (le_z x y))
point2 lt x y = Some (of_bool (lt_z x y))
point2 ne x y = Some (of_bool (not (eq_z x y)))
point2 and x y = Some (of_bool (truth x && truth y))
point2 or x y = Some (of_bool (truth x || truth y))
