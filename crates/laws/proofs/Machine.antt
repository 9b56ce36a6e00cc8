-- The integer kit for code on i64: its range, what the machine reads back from bits, and for each operation its need and its result. Assumes nothing.
use mathlib.Core.Path.{◌≡◌, refl, sym, ap, ◌∙◌, subst}
use mathlib.Core.Bool.{true, false}
use Prim.Native.Nat.{ℕ, zero, suc, ◌+◌, ◌-◌, ◌*◌, ◌/◌, ◌^◌, ◌≤◌, ◌<◌}
use native.Mathlib.Nat.{zero-div, div-le_self, div-lt_self, lt_of_le_of_lt, lt_of_lt_of_le}
use native.Mathlib.Omega.{arith}
use lib.Dec.{T, eqb, ltb}
use borrow.Author.Tests.{eqb-true, eqb-false}
use lib.IntN.{ℤ, pos, negsuc, neg_ℤ, nat_abs, ◌+ℤ◌, ◌-ℤ◌, +ℤ_idl}
use lib.Signed.{◌≤ℤ◌, ◌<ℤ◌, le_z, lt_z, non_neg, mag, quot_z, rem_z, mag_rem}
use mir.Syntax.{w64}
use mir.Val.{Fits, SFits, to_z, of_z}
use mir.Facts.{to_z-of_z, sfits_lit}
use Rattle.meaning.specs.Number.{InRange, eq_z}
use Rattle.laws.proofs.Integers.{up, down, zarith, by_test, lt_in, ne_in, one_part, abs_parts, add_parts, sub_parts, up_quot, down_quot, up_quot_neg, down_quot_neg}

-- ---- the range of an i64

pub up_fits : (a : ℤ) → SFits w64 a → up a < 2 ^ 63
up_fits (pos a) h = h.sfits
up_fits (negsuc a) h = omega arith

pub down_fits : (a : ℤ) → SFits w64 a → down a ≤ 2 ^ 63
down_fits (pos a) h = omega arith
down_fits (negsuc a) h = h.sfits

pub fits_out : (a : ℤ) → (up a < 2 ^ 63 + down a) × (down a ≤ 2 ^ 63 + up a) → SFits w64 a
fits_out (pos a) h = record { sfits = omega arith }
fits_out (negsuc a) h = record { sfits = omega arith }

-- ---- what the machine reads back from the bits of an i64

pub up_read : (a : ℤ) → SFits w64 a → up (to_z w64 (of_z w64 a)) ≡ up a
up_read a h = ap up (to_z-of_z h)

pub down_read : (a : ℤ) → SFits w64 a → down (to_z w64 (of_z w64 a)) ≡ down a
down_read a h = ap down (to_z-of_z h)

-- what the machine reads back from the bits of z
abbrev pub rd : ℤ → ℤ
rd z = to_z w64 (of_z w64 z)

-- what is known of an i64, for the list of `omega`: `num c.fits.x`
pub record Num (z : ℤ) : Type 0 where
  pub below : up z < 2 ^ 63
  pub above : down z ≤ 2 ^ 63
  pub up_of : up (rd z) ≡ up z
  pub down_of : down (rd z) ≡ down z

pub num : {z : ℤ} → SFits w64 z → Num z
num {z} h = record { below = up_fits z h; above = down_fits z h; up_of = up_read z h; down_of = down_read z h }

-- a call's result: `ok c.f.ok`
pub ok : {z : ℤ} → mag z < 2 ^ 63 → SFits w64 z
ok h = record { sfits = h }

-- the same with the number written out, for a slice's element (`fit z c.x.given`) or a struct's field (`fit s.args.v.start c.struct_told.given.0.1`)
pub fit : (z : ℤ) → mag z < 2 ^ 63 → SFits w64 z
fit z h = record { sfits = h }

-- an element of a slice or a field, read back: `back z c.x.given`
pub back : (z : ℤ) → mag z < 2 ^ 63 → rd z ≡ z
back z h = to_z-of_z (fit z h)

pub rd_fits : {z : ℤ} → SFits w64 z → SFits w64 (rd z)
rd_fits {z} h = subst (SFits w64) (sym (to_z-of_z h)) h

-- ---- a test with == or != compares the bits
pub same : {x y : ℤ} → SFits w64 x → SFits w64 y → of_z w64 x ≡ of_z w64 y → x ≡ y
same f g e = sym (to_z-of_z f) ∙ ap (to_z w64) e ∙ to_z-of_z g

pub other : {x y : ℤ} → (of_z w64 x ≡ of_z w64 y → ⊥) → x ≡ y → ⊥
other h e = h (ap (of_z w64) e)

-- the same failed test, for the list of `omega`
pub differ : (x y : ℤ) → (of_z w64 x ≡ of_z w64 y → ⊥) → 1 ≤ ((up x + down y) - (up y + down x)) + ((up y + down x) - (up x + down y))
differ x y h = ne_in x y (λ e. h (ap (of_z w64) e))

-- the bits as a number: z or z + 2^64. sg is 1 for a negative number, else 0
abbrev pub sg : ℤ → ℕ
sg (pos n) = 0
sg (negsuc n) = 1

pub bits : (z : ℤ) → SFits w64 z → of_z w64 z + down z ≡ up z + 2 ^ 64 * sg z
bits (pos n) h = omega arith
bits (negsuc n) h = omega (arith, h.sfits)

-- the same by the sign, with what that says of the parts
pub bits_pos : (z : ℤ) → pos 0 ≤ℤ z → (of_z w64 z ≡ up z) × (down z ≡ 0)
bits_pos (pos n) h = (refl, refl)
bits_pos (negsuc n) h = absurd h.le

pub bits_neg : (z : ℤ) → SFits w64 z → z <ℤ pos 0 → (of_z w64 z + down z ≡ 2 ^ 64) × (up z ≡ 0)
bits_neg (pos n) f h = absurd (omega (arith, lt_in {a = pos n} {b = pos 0} h))
bits_neg (negsuc n) f h = (omega (arith, f.sfits), refl)

-- ---- a literal fits
pub lit : (z : ℤ) → T (ltb (mag z) (2 ^ 63)) → SFits w64 z
lit z t = sfits_lit t

-- ---- x + y, x - y, - x, x as u64 of two i64s: that they fit (the needs), and what they are (the results)

pub add_ok : {x y : ℤ} → SFits w64 x → SFits w64 y → (up x + up y < 2 ^ 63 + down x + down y) × (down x + down y ≤ 2 ^ 63 + up x + up y) → SFits w64 (rd x +ℤ rd y)
add_ok {x} {y} f g h = fits_out _ (omega (arith, num f, num g, add_parts (rd x) (rd y)))

pub sub_ok : {x y : ℤ} → SFits w64 x → SFits w64 y → (up x + down y < 2 ^ 63 + down x + up y) × (down x + up y ≤ 2 ^ 63 + up x + down y) → SFits w64 (rd x -ℤ rd y)
sub_ok {x} {y} f g h = fits_out _ (omega (arith, num f, num g, sub_parts (rd x) (rd y)))

pub neg_ok : {x : ℤ} → SFits w64 x → down x < 2 ^ 63 + up x → SFits w64 (pos 0 -ℤ rd x)
neg_ok {x} f h = fits_out _ (omega (arith, num f, sub_parts (pos 0) (rd x)))

pub cast_ok : {x : ℤ} → SFits w64 x → down x ≤ up x → T (non_neg (rd x)) × Fits w64 (nat_abs (rd x))
cast_ok {x} f h = at (rd x) (omega (arith, num f)) (omega (arith, num f))
  where
    at : (z : ℤ) → down z ≤ up z → up z < 2 ^ 64 → T (non_neg z) × Fits w64 (nat_abs z)
    at (pos n) h k = (tt, record { fits = k })
    at (negsuc n) h k = absurd (omega arith)

pub add_is : {x y : ℤ} → SFits w64 x → SFits w64 y → SFits w64 (rd x +ℤ rd y) → rd (rd x +ℤ rd y) ≡ x +ℤ y
add_is f g h = to_z-of_z h ∙ (λ i. to_z-of_z f i +ℤ to_z-of_z g i)

pub sub_is : {x y : ℤ} → SFits w64 x → SFits w64 y → SFits w64 (rd x -ℤ rd y) → rd (rd x -ℤ rd y) ≡ x -ℤ y
sub_is f g h = to_z-of_z h ∙ (λ i. to_z-of_z f i -ℤ to_z-of_z g i)

pub neg_is : {x : ℤ} → SFits w64 x → SFits w64 (pos 0 -ℤ rd x) → rd (pos 0 -ℤ rd x) ≡ neg_ℤ x
neg_is {x} f h = to_z-of_z h ∙ ap (λ (z : ℤ). pos 0 -ℤ z) (to_z-of_z f) ∙ +ℤ_idl (neg_ℤ x)

-- the parts of such a sum, difference or negation, for the list of `omega`
pub add_of : {x y : ℤ} → SFits w64 x → SFits w64 y → up (rd x +ℤ rd y) + down x + down y ≡ down (rd x +ℤ rd y) + up x + up y
add_of {x} {y} f g = omega (arith, num f, num g, add_parts (rd x) (rd y))

pub sub_of : {x y : ℤ} → SFits w64 x → SFits w64 y → up (rd x -ℤ rd y) + down x + up y ≡ down (rd x -ℤ rd y) + up x + down y
sub_of {x} {y} f g = omega (arith, num f, num g, sub_parts (rd x) (rd y))

pub neg_of : {x : ℤ} → SFits w64 x → up (pos 0 -ℤ rd x) + up x ≡ down (pos 0 -ℤ rd x) + down x
neg_of {x} f = omega (arith, num f, sub_parts (pos 0) (rd x))

-- x as u64
pub cast_is : {x : ℤ} → SFits w64 x → down x ≤ up x → nat_abs (rd x) + down x ≡ up x
cast_is {x} f h = omega (arith, num f, one_part x, abs_parts (rd x))

-- the one quotient that does not fit is MIN by -1
pub quot_fits : (a d : ℤ) → SFits w64 a → (d ≡ negsuc 0 → down a < 2 ^ 63 + up a) → SFits w64 (quot_z a d)
quot_fits a (pos d) f h =
    fits_out _ (omega (arith, up_quot a d, down_quot a d, div-le_self (up a) d, div-le_self (down a) d, num f))
quot_fits a (negsuc zero) f h =
    let k : down a < 2 ^ 63 + up a = h refl in
    fits_out _ (omega (arith, up_quot_neg a 0, down_quot_neg a 0, num f))
quot_fits a (negsuc (suc d)) f h =
    fits_out _ (omega (arith, up_quot_neg a (suc d), down_quot_neg a (suc d), div-le_self (up a) (suc (suc d)), num f, less (down a) d (down_fits a f)))
  where
    less : (n d : ℕ) → n ≤ 2 ^ 63 → n / suc (suc d) < 2 ^ 63
    less zero d h = omega (arith, zero-div (suc (suc d)))
    less (suc n) d h = lt_of_lt_of_le (div-lt_self (omega arith) (omega arith)) h

bits_nonzero : (z : ℤ) → SFits w64 z → (z ≡ pos 0 → ⊥) → 0 < of_z w64 z
bits_nonzero (pos zero) f h = absurd (h refl)
bits_nonzero (pos (suc n)) f h = omega arith
bits_nonzero (negsuc n) f h = omega (arith, f.sfits)

-- x / y and x % y ask the same
pub quot_ok : {x y : ℤ} → SFits w64 x → SFits w64 y → (y ≡ pos 0 → ⊥) → (y ≡ negsuc 0 → down x < 2 ^ 63 + up x) → (0 < of_z w64 y) × SFits w64 (quot_z (rd x) (rd y))
quot_ok {x} {y} f g h k =
    (bits_nonzero y g h, subst (λ (z : ℤ). SFits w64 (quot_z z (rd y))) (sym (to_z-of_z f)) (subst (λ (z : ℤ). SFits w64 (quot_z x z)) (sym (to_z-of_z g)) (quot_fits x y f k)))

pub quot_is : {x y : ℤ} → SFits w64 x → SFits w64 y → SFits w64 (quot_z (rd x) (rd y)) → rd (quot_z (rd x) (rd y)) ≡ quot_z x y
quot_is f g h = to_z-of_z h ∙ (λ i. quot_z (to_z-of_z f i) (to_z-of_z g i))

pub rem_fits : (a d : ℤ) → SFits w64 a → SFits w64 (rem_z a d)
rem_fits a d f = record { sfits = lt_of_le_of_lt (mag_rem a d) f.sfits }

pub rem_is : {x y : ℤ} → SFits w64 x → SFits w64 y → rd (rem_z (rd x) (rd y)) ≡ rem_z x y
rem_is {x} {y} f g = to_z-of_z (rem_fits (rd x) (rd y) (rd_fits f)) ∙ (λ i. rem_z (to_z-of_z f i) (to_z-of_z g i))

-- a test of two i64s: what the machine computes is the test of the numbers
pub lt_z_is : {x y : ℤ} → SFits w64 x → SFits w64 y → lt_z (rd x) (rd y) ≡ lt_z x y
lt_z_is f g i = lt_z (to_z-of_z f i) (to_z-of_z g i)

pub le_z_is : {x y : ℤ} → SFits w64 x → SFits w64 y → le_z (rd x) (rd y) ≡ le_z x y
le_z_is f g i = le_z (to_z-of_z f i) (to_z-of_z g i)

pub eqb_is : {x y : ℤ} → SFits w64 x → SFits w64 y → eqb (of_z w64 x) (of_z w64 y) ≡ eq_z x y
eqb_is {x} {y} f g =
    by_test (eqb (of_z w64 x) (of_z w64 y))
    (λ t. let e = same f g (eqb-true _ _ t) in let u : eq_z x y ≡ true = omega zarith in t ∙ sym u)
    (λ t. let d = differ x y (eqb-false _ _ t) in let u : eq_z x y ≡ false = omega zarith in t ∙ sym u)

-- ---- MIN..MAX is the range of an i64

pub fits_range : {z : ℤ} → SFits w64 z → InRange z
fits_range f = record { above = omega (zarith, num f); below = omega (zarith, num f) }

pub range_fits : {z : ℤ} → InRange z → SFits w64 z
range_fits {z} r = fits_out z (omega (zarith, r.above, r.below), omega (zarith, r.above, r.below))
