-- The members within a distance: each interval cut to a window, which keeps them apart. Assumes nothing.
use lib.IntN.{ℤ, pos, ◌+ℤ◌, ◌-ℤ◌}
use lib.ListN.{length}
use lib.Signed.{le_z, ◌≤ℤ◌, ≤ℤ_refl}
use mathlib.Core.Path.{◌≡◌, refl, subst}
use mathlib.Core.List.{[], ◌∷◌, ◌++◌}
use Prim.Native.Nat.{ℕ, ◌≤◌, ◌<◌}
use native.Mathlib.Omega.{arith}
use lib.Dec.{ltb}
use borrow.Author.Tests.{ltb-true, ltb-false}
use Rattle.meaning.specs.Number.{MIN, MAX, Between, InRange, smaller, larger, distance}
use Rattle.meaning.specs.Interval.{Interval, span, Proper, each, meet_pair, cut_to}
use Rattle.meaning.specs.NumberIntervals.{Set, ◌∈◌, here, Apart, Normal, intersect}
use Rattle.meaning.specs.Setpoints.{nearest, near}
use Rattle.laws.proofs.Integers.{zarith, by_test, cond_case, add_parts, sub_parts, smaller_le, larger_ge, smaller_case, larger_case, suc_parts, ≤ℤ_trans}
use Rattle.laws.proofs.Members.{between, not_in_none, in_span, member_range, normal_proper}
use Rattle.laws.proofs.Join.{normal_unique}
use Rattle.laws.proofs.Compare.{cut_holds, cut_only, intersect_holds, intersect_only, intersect_normal}
use Rattle.laws.proofs.Distances.{near_between, between_near}
use Rattle.laws.proofs.Closest.{nearest_closest}

-- ---- cut to [a,b], which may lie past MIN and MAX

module _ (a b : ℤ) where
  -- a part of an interval is left, or none
  left_case {ℓ} : (P : Set → Type ℓ) (s e : ℤ) → (larger s a ≤ℤ smaller e b → P (span (larger s a) (smaller e b))) → P [] → P (meet_pair s e a b)
  unfolding meet_pair
  left_case P s e f g = cond_case P (le_z (larger s a) (smaller e b)) (span (larger s a) (smaller e b)) [] (λ t. f (omega zarith)) (λ t. g)

  -- what follows an interval still follows it
  cut_apart : (e : ℤ) (s : Set) → Normal s → Apart e s → Apart e (cut_to a b s)
  unfolding each
  cut_apart e [] n h = tt
  cut_apart e (i ∷ s) n h =
      left_case (λ l. Apart e (l ++ cut_to a b s)) i.lo i.hi
      (λ k. omega (zarith, larger_ge i.lo a))
      (cut_apart e s n.2 (further s n.1))
    where
      further : (s : Set) → Apart i.hi s → Apart e s
      further [] g = tt
      further (j ∷ s) g = omega (zarith, n.0.ordered, suc_parts e, suc_parts i.hi)

  cut_normal : (s : Set) → Normal s → Normal (cut_to a b s)
  unfolding each
  cut_normal [] n = tt
  cut_normal (i ∷ s) n =
      left_case (λ l. Normal (l ++ cut_to a b s)) i.lo i.hi
      (λ k. (
        record {
          low = larger_case (λ m. MIN ≤ℤ m) i.lo a (λ h. ≤ℤ_trans n.0.low h) (λ _. n.0.low);
          ordered = k;
          high = smaller_case (λ m. m ≤ℤ MAX) i.hi b (λ _. n.0.high) (λ h. omega (zarith, n.0.high));
        },
        cut_apart (smaller i.hi b) s n.2 (closer s n.1),
        cut_normal s n.2,
      ))
      (cut_normal s n.2)
    where
      closer : (s : Set) → Apart i.hi s → Apart (smaller i.hi b) s
      closer [] g = tt
      closer (j ∷ s) g = omega (zarith, smaller_le i.hi b, suc_parts i.hi, suc_parts (smaller i.hi b))

  cut_few : (s : Set) → length (cut_to a b s) ≤ length s
  unfolding each
  cut_few [] = omega arith
  cut_few (i ∷ s) = left_case (λ l. length (l ++ cut_to a b s) ≤ length (i ∷ s)) i.lo i.hi (λ k. omega (arith, cut_few s)) (omega (arith, cut_few s))

-- ---- the members within a distance

module _ (s : Set) (x : ℤ) (d : ℕ) where
  pub near_holds : (z : ℤ) → z ∈ s → distance z x ≤ d → z ∈ near s x d
  unfolding near
  near_holds z m h = cut_holds (x -ℤ pos d) (x +ℤ pos d) z s m (near_between x z d h)

  pub near_only : (z : ℤ) → z ∈ near s x d → (z ∈ s) × (distance z x ≤ d)
  unfolding near
  near_only z m = let c = cut_only (x -ℤ pos d) (x +ℤ pos d) z s m in (c.0, between_near x z d c.1)

  pub near_normal : Normal s → Normal (near s x d)
  unfolding near
  near_normal n = cut_normal (x -ℤ pos d) (x +ℤ pos d) s n

  pub near_few : length (near s x d) ≤ length s
  unfolding near
  near_few = cut_few (x -ℤ pos d) (x +ℤ pos d) s

-- ---- none is within it just where the closest lies farther

module _ (i : Interval) (s : Set) (x : ℤ) (d : ℕ) (n : Normal (i ∷ s)) where
  pub none_near : d < distance (nearest (i ∷ s) x) x → near (i ∷ s) x d ≡ []
  none_near h = empty (near (i ∷ s) x d) (near_normal (i ∷ s) x d n) (λ z m. let c = near_only (i ∷ s) x d z m in omega (arith, c.1, (nearest_closest i s x n).least z c.0, h))
    where
      empty : (l : Set) → Normal l → ((z : ℤ) → z ∈ l → ⊥) → l ≡ []
      empty [] p f = refl
      empty (j ∷ l) p f = absurd (f j.lo (here (between (≤ℤ_refl j.lo) p.0.ordered)))

  pub farther : near (i ∷ s) x d ≡ [] → d < distance (nearest (i ∷ s) x) x
  farther e =
      let m = nearest (i ∷ s) x in
      by_test (ltb d (distance m x)) (λ y. ltb-true d (distance m x) y)
      (λ y. not_in_none (subst (λ (l : Set). m ∈ l) e (near_holds (i ∷ s) x d m (nearest_closest i s x n).has (ltb-false d (distance m x) y))))

-- ---- the window of two numbers: from x − d to x + d, cut at MIN and MAX

module _ (x : ℤ) (d : ℕ) (r : InRange x) {lo hi : ℤ} (el : lo ≡ larger MIN (x -ℤ pos d)) (eh : hi ≡ smaller MAX (x +ℤ pos d)) where
  window_proper : Proper lo hi
  window_proper = record {
    low = omega (zarith, el, larger_ge MIN (x -ℤ pos d));
    ordered =
        let a = larger_case (λ m. m ≤ℤ x) MIN (x -ℤ pos d) (λ _. omega (zarith, sub_parts x (pos d))) (λ _. r.above) in
        let b = smaller_case (λ m. x ≤ℤ m) MAX (x +ℤ pos d) (λ _. r.below) (λ _. omega (zarith, add_parts x (pos d))) in
        omega (zarith, el, eh);
    high = omega (zarith, eh, smaller_le MAX (x +ℤ pos d));
  }

  pub window_normal : Normal (span lo hi)
  window_normal = (window_proper, tt, tt)

  pub window_meets : (s : Set) → Normal s → intersect s (span lo hi) ≡ near s x d
  window_meets s n =
      normal_unique (intersect s (span lo hi)) (near s x d) (intersect_normal s (span lo hi) n window_normal) (near_normal s x d n)
      (λ z m. let c = intersect_only s (span lo hi) n window_normal m in near_holds s x d z c.0 (between_near x z d (outside z (in_span c.1))))
      (λ z m. let c = near_only s x d z m in intersect_holds s (span lo hi) n window_normal c.0 (here (inside z c.0 (near_between x z d c.1))))
    where
      outside : (z : ℤ) → Between lo z hi → Between (x -ℤ pos d) z (x +ℤ pos d)
      outside z b = between (omega (zarith, b.above, el, larger_ge MIN (x -ℤ pos d))) (omega (zarith, b.below, eh, smaller_le MAX (x +ℤ pos d)))

      inside : (z : ℤ) → z ∈ s → Between (x -ℤ pos d) z (x +ℤ pos d) → Between lo z hi
      inside z m b =
          let q = member_range (normal_proper s n) m in
          let f = larger_case (λ k. k ≤ℤ z) MIN (x -ℤ pos d) (λ _. b.above) (λ _. q.above) in
          let g = smaller_case (λ k. z ≤ℤ k) MAX (x +ℤ pos d) (λ _. q.below) (λ _. b.below) in
          between (omega (zarith, el)) (omega (zarith, eh))
