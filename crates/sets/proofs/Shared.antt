-- What two intervals have in common, by the larger start and the smaller end as the code reads them. Assumes nothing.
use mathlib.Core.Path.{◌≡◌, ◌∙◌}
use mathlib.Core.List.{[]}
use mathlib.Core.Bool.{true, false}
use Prim.Native.Nat.{◌<◌, ◌^◌}
use lib.IntN.{ℤ}
use lib.Signed.{le_z, mag}
use mir.Syntax.{w64}
use mir.Val.{SFits}
use mir.Facts.{to_z-of_z}
use Rattle.std.specs.Int.{int_max, int_min}
use Rattle.meaning.specs.Number.{larger, smaller}
use Rattle.meaning.specs.Interval.{span, meet_pair}
use Rattle.laws.proofs.Integers.{zarith, if_yes, if_no}
use Rattle.laws.proofs.Machine.{back, rd}
use Rattle.sorting.proofs.Ends.{max_is}

-- std's smaller of two numbers
min_is : (a b : ℤ) → int_min a b ≡ smaller a b
min_is a b = grind zarith

module _ {s e c d lo hi : ℤ} (f : SFits w64 s) (g : SFits w64 e) (h : SFits w64 c) (k : SFits w64 d) (l : mag lo < 2 ^ 63) (m : mag hi < 2 ^ 63)
    (x : lo ≡ int_max (rd s) (rd c)) (y : hi ≡ int_min (rd e) (rd d)) where
  start_is : rd lo ≡ larger s c
  start_is = back lo l ∙ x ∙ max_is (rd s) (rd c) ∙ (λ i. larger (to_z-of_z f i) (to_z-of_z h i))

  end_is : rd hi ≡ smaller e d
  end_is = back hi m ∙ y ∙ min_is (rd e) (rd d) ∙ (λ i. smaller (to_z-of_z g i) (to_z-of_z k i))

  pub common_some : le_z (rd lo) (rd hi) ≡ true → span (rd lo) (rd hi) ≡ meet_pair s e c d
  unfolding meet_pair
  common_some t = (λ i. span (start_is i) (end_is i)) ∙ if_yes (span (larger s c) (smaller e d)) [] (rw (start_is, end_is) at t)

  pub common_none : le_z (rd lo) (rd hi) ≡ false → [] ≡ meet_pair s e c d
  unfolding meet_pair
  common_none t = if_no (span (larger s c) (smaller e d)) [] (rw (start_is, end_is) at t)
