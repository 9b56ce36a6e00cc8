-- The split of add and sub: the wrapped values of the exact numbers from p to q, and no others. Assumes nothing.
use lib.IntN.{ℤ, pos, ◌+ℤ◌, ◌-ℤ◌}
use lib.ListN.{length}
use lib.Signed.{le_z, ◌≤ℤ◌, ◌<ℤ◌}
use mathlib.Core.Path.{◌≡◌, sym}
use mathlib.Core.Bool.{cond}
use mathlib.Core.Logic.{⊎_elim}
use Prim.Native.Nat.{suc, ◌+◌, ◌-◌, ◌^◌, ◌≤◌}
use native.Mathlib.Omega.{arith}
use Rattle.meaning.specs.Number.{MAX, Between, InRange, window, wrap}
use Rattle.meaning.specs.Interval.{span, Spread, whole, one, two, pieces, far, split, unscaled}
use Rattle.meaning.specs.NumberIntervals.{◌∈◌, here, there}
use Rattle.laws.proofs.Integers.{up, down, zarith, by_order, by_test, cond_case, add_parts, sub_parts}
use Rattle.laws.proofs.Machine.{num, range_fits}
use Rattle.laws.proofs.Members.{AllProper, between, in_span, in_either}
use Rattle.laws.proofs.Wrapping.{wrap_parts, wrap_fits, wrap_is, wrap_range}

-- ---- the three cases

split_case
    : (P : Spread → Type 0) (p q : ℤ)
    → (pos (2 ^ 64 - 1) ≤ℤ (q -ℤ p) → P whole)
    → ((q -ℤ p) <ℤ pos (2 ^ 64 - 1) → wrap p ≤ℤ wrap q → P (one (wrap p) (wrap q)))
    → ((q -ℤ p) <ℤ pos (2 ^ 64 - 1) → wrap q <ℤ wrap p → P (two (wrap p) (wrap q)))
    → P (split p q)
unfolding split
split_case P p q f g h =
    cond_case P (far p q) whole (cond (le_z (wrap p) (wrap q)) (one (wrap p) (wrap q)) (two (wrap p) (wrap q)))
    (λ t. f (omega zarith))
    (λ t. cond_case P (le_z (wrap p) (wrap q)) (one (wrap p) (wrap q)) (two (wrap p) (wrap q)) (λ u. g (omega zarith) (omega zarith)) (λ u. h (omega zarith) (omega zarith)))

-- ---- every wrapped value

pub split_holds : {p z q : ℤ} → Between p z q → wrap z ∈ pieces unscaled (split p q)
unfolding pieces
split_holds {p} {z} {q} b =
    let r = wrap_range z in
    let d = sub_parts q p in
    let p' = wrap_parts p in
    let z' = wrap_parts z in
    let q' = wrap_parts q in
    let fp = num (wrap_fits p) in
    let fz = num (wrap_fits z) in
    let fq = num (wrap_fits q) in
    split_case (λ s. wrap z ∈ pieces unscaled s) p q
    (λ h. here r)
    (λ h k. here (between (omega zarith) (omega zarith)))
    (λ h k. by_test (le_z (wrap z) (wrap q))
    (λ t. there (here (between r.above (omega zarith))))
    (λ t. here (between (omega zarith) r.below)))

-- ---- and no other

-- a number from p to q that wraps to w
pub record Source (p q w : ℤ) : Type 0 where
  pub exact : ℤ
  pub from_to : Between p exact q
  pub wraps : wrap exact ≡ w

module _ {p q w : ℤ} (r : InRange w) where
  -- w is that far above p's wrapped value, and so is the exact number above p
  ahead : wrap p ≤ℤ w → up p + up w + down (wrap p) + down q ≤ up q + down p + down w + up (wrap p) → Source p q w
  ahead h k =
      let d = sub_parts w (wrap p) in let m = add_parts p (w -ℤ wrap p) in let e = wrap_parts p in
      record {
        exact = p +ℤ (w -ℤ wrap p);
        from_to = between (omega zarith) (omega zarith);
        wraps = sym (wrap_is w (p +ℤ (w -ℤ wrap p)) (up (window p)) (down (window p)) (range_fits r) (omega arith));
      }

  -- or once around the circle
  around : w <ℤ wrap p → up p + up w + down (wrap p) + down q + 2 ^ 64 ≤ up q + down p + down w + up (wrap p) → Source p q w
  around h k =
      let d = sub_parts w (wrap p) in let g = add_parts (w -ℤ wrap p) (pos (2 ^ 64)) in let m = add_parts p ((w -ℤ wrap p) +ℤ pos (2 ^ 64)) in let e = wrap_parts p in
      record {
        exact = p +ℤ ((w -ℤ wrap p) +ℤ pos (2 ^ 64));
        from_to = between (omega (zarith, num (wrap_fits p), num (range_fits r))) (omega zarith);
        wraps = sym (wrap_is w (p +ℤ ((w -ℤ wrap p) +ℤ pos (2 ^ 64))) (suc (up (window p))) (down (window p)) (range_fits r) (omega arith));
      }

pub split_only : {p q w : ℤ} → p ≤ℤ q → w ∈ pieces unscaled (split p q) → Source p q w
unfolding pieces
split_only {p} {q} {w} o m =
    let d = sub_parts q p in
    let p' = wrap_parts p in
    let q' = wrap_parts q in
    let fp = num (wrap_fits p) in
    let fq = num (wrap_fits q) in
    split_case (λ s. w ∈ pieces unscaled s → Source p q w) p q
    (λ h n. let b = in_span n in by_order w (wrap p) (λ l. around b l (omega zarith)) (λ l. ahead b l (omega zarith)))
    (λ h k n. let b = in_span n in ahead (between (omega zarith) (omega zarith)) b.above (omega zarith))
    (λ h k n. ⊎_elim
    (λ j. let b = in_span j in ahead (between (omega zarith) b.below) b.above (omega zarith))
    (λ j. let b = in_span j in around (between b.above (omega zarith)) (omega zarith) (omega zarith))
    (in_either (span (wrap p) MAX) n))
    m

-- ---- their ends and number

pub split_proper : (p q : ℤ) → AllProper (pieces unscaled (split p q))
unfolding pieces
split_proper p q =
    let a = wrap_range p in
    let b = wrap_range q in
    split_case (λ s. AllProper (pieces unscaled s)) p q
    (λ h. (record { low = omega zarith; ordered = omega zarith; high = omega zarith }, tt))
    (λ h k. (record { low = a.above; ordered = k; high = b.below }, tt))
    (λ h k. (record { low = a.above; ordered = a.below; high = omega zarith }, (record { low = omega zarith; ordered = b.above; high = b.below }, tt)))

pub split_few : (p q : ℤ) → length (pieces unscaled (split p q)) ≤ 2
unfolding pieces
split_few p q = split_case (λ s. length (pieces unscaled s) ≤ 2) p q (λ _. omega arith) (λ _ _. omega arith) (λ _ _. omega arith)
