-- The exact ends of a sum or a difference of two intervals are as far apart as the intervals are long together. Assumes nothing.
use mathlib.Core.Path.{◌≡◌, sym, ap, ◌∙◌}
use mathlib.Core.Bool.{Bool, true, false, cond}
use Prim.Native.Nat.{ℕ, ◌+◌, ◌-◌, ◌^◌}
use borrow.Author.Tests.{leb-true, leb-false}
use lib.Dec.{leb}
use lib.IntN.{ℤ, pos, ◌+ℤ◌, ◌-ℤ◌}
use lib.Signed.{le_z}
use mir.Syntax.{w64}
use mir.Val.{SFits}
use mir.Facts.{to_z-of_z}
use Rattle.meaning.specs.Number.{wrap}
use Rattle.meaning.specs.Interval.{whole, one, two, pieces, unscaled, far, split}
use Rattle.laws.proofs.Integers.{zarith, by_test, add_parts, sub_parts}
use Rattle.laws.proofs.Machine.{rd}

-- the wrapped ends by whether they are far apart
pub split_is : (p q : ℤ) {u v : ℤ} {all : Bool} → all ≡ far p q → u ≡ wrap p → v ≡ wrap q → pieces unscaled (cond all whole (cond (le_z u v) (one u v) (two u v))) ≡ pieces unscaled (split p q)
unfolding split
split_is p q a b c i = pieces unscaled (cond (a i) whole (cond (le_z (b i) (c i)) (one (b i) (c i)) (two (b i) (c i))))

-- what a call of `distance` gives
pub distance_gives : {s e : ℤ} {n : ℕ} → SFits w64 s → SFits w64 e → pos n ≡ rd e -ℤ rd s → pos n ≡ e -ℤ s
distance_gives f g h = h ∙ (λ i. to_z-of_z g i -ℤ to_z-of_z f i)

module _ (s e t f : ℤ) {a b : ℕ} (h : pos a ≡ e -ℤ s) (k : pos b ≡ f -ℤ t) where
  pub sum_far : leb (2 ^ 64 - 1) (a + b) ≡ far (s +ℤ t) (e +ℤ f)
  sum_far =
      let d = sub_parts (e +ℤ f) (s +ℤ t) in
      by_test (leb (2 ^ 64 - 1) (a + b))
      (λ y. let m = leb-true (2 ^ 64 - 1) (a + b) y in
      let u : far (s +ℤ t) (e +ℤ f) ≡ true = omega (zarith, sub_parts e s, sub_parts f t, add_parts s t, add_parts e f) in y ∙ sym u)
      (λ n. let m = leb-false (2 ^ 64 - 1) (a + b) n in
      let u : far (s +ℤ t) (e +ℤ f) ≡ false = omega (zarith, sub_parts e s, sub_parts f t, add_parts s t, add_parts e f) in n ∙ sym u)

-- the exact ends of the difference are as far apart as those of the sum
pub far_difference : (s e t f : ℤ) → far (s +ℤ t) (e +ℤ f) ≡ far (s -ℤ f) (e -ℤ t)
far_difference s e t f = ap (le_z (pos (2 ^ 64 - 1))) same
  where
    same : (e +ℤ f) -ℤ (s +ℤ t) ≡ (e -ℤ t) -ℤ (s -ℤ f)
    same = omega (zarith, sub_parts (e +ℤ f) (s +ℤ t), sub_parts (e -ℤ t) (s -ℤ f), add_parts s t, add_parts e f, sub_parts s f, sub_parts e t)
