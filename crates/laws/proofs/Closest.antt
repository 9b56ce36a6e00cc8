-- The closest member: of one interval it is the clamped number, and of the rest only one that is closer takes its place, so on a tie the lower one stays. Assumes nothing.
use lib.IntN.{ℤ}
use lib.Signed.{◌≤ℤ◌, ◌<ℤ◌}
use mathlib.Core.Path.{◌≡◌}
use mathlib.Core.List.{[], ◌∷◌}
use mathlib.Core.Logic.{◌⊎◌, inl, inr}
use Prim.Native.Nat.{◌≤◌}
use native.Mathlib.Omega.{arith}
use Rattle.meaning.specs.Number.{Between, distance}
use Rattle.meaning.specs.Interval.{Interval, Proper}
use Rattle.meaning.specs.NumberIntervals.{Set, ◌∈◌, here, there, Normal}
use Rattle.meaning.specs.Setpoints.{clamp, nearer, nearest_from, nearest}
use Rattle.meaning.specs.Closest.{Closest, ClosestIn}
use Rattle.laws.proofs.Integers.{zarith, suc_parts}
use Rattle.laws.proofs.Members.{between, not_in_none}
use Rattle.laws.proofs.Join.{past}
use Rattle.laws.proofs.Distances.{distance_parts, clamp_case, nearer_case}

-- the clamped number is the closest of its interval
clamp_in : (x lo hi : ℤ) → lo ≤ℤ hi → Between lo (clamp x lo hi) hi
clamp_in x lo hi h =
    clamp_case (λ m. Between lo m hi) x lo hi
    (λ a. between (omega zarith) (omega zarith))
    (λ a b. between (omega zarith) (omega zarith))
    (λ a b. between (omega zarith) (omega zarith))

clamp_least : (x lo hi z : ℤ) → Between lo z hi → distance (clamp x lo hi) x ≤ distance z x
clamp_least x lo hi z b =
    clamp_case (λ m. distance m x ≤ distance z x) x lo hi
    (λ a. omega (zarith, b.above, b.below, distance_parts lo x, distance_parts z x))
    (λ a c. omega (zarith, b.above, b.below, distance_parts hi x, distance_parts z x))
    (λ a c. omega (zarith, b.above, b.below, distance_parts x x, distance_parts z x))

clamp_lower : (x lo hi z : ℤ) → Between lo z hi → distance z x ≡ distance (clamp x lo hi) x → clamp x lo hi ≤ℤ z
clamp_lower x lo hi z b =
    clamp_case (λ m. distance z x ≡ distance m x → m ≤ℤ z) x lo hi
    (λ a e. omega (zarith, b.above, b.below, distance_parts lo x, distance_parts z x))
    (λ a c e. omega (zarith, b.above, b.below, distance_parts hi x, distance_parts z x))
    (λ a c e. omega (zarith, b.above, b.below, distance_parts x x, distance_parts z x))

-- the members of the rest are above those of the first interval
follows : (i : Interval) (s : Set) → Normal (i ∷ s) → {z w : ℤ} → Between i.lo z i.hi → w ∈ s → z <ℤ w
follows i s n u m = omega (zarith, u.below, past i.hi s n.1 n.2 m, suc_parts i.hi)

-- ---- the closest of the numbers with the property P

module _ (x : ℤ) where
  closest_as : (P Q : ℤ → Type 0) {m : ℤ} → ((z : ℤ) → P z → Q z) → ((z : ℤ) → Q z → P z) → Closest P x m → Closest Q x m
  closest_as P Q {m} f g b = record { has = f m b.has; least = λ z q. b.least z (g z q); lowest = λ z q e. b.lowest z (g z q) e }

  -- of two properties, where all that have the second are above all that have the first
  closest_both : (P Q : ℤ → Type 0) (a b : ℤ) → Closest P x a → Closest Q x b → ((z w : ℤ) → P z → Q w → z <ℤ w) → Closest (λ z. P z ⊎ Q z) x (nearer x a b)
  closest_both P Q a b p q above =
      nearer_case (λ m. Closest (λ z. P z ⊎ Q z) x m) x a b
      (λ h. record {
        has = inr q.has;
        least = λ z k. elim k [ inl u ↦ (let l = p.least z u in omega arith) | inr u ↦ q.least z u ];
        lowest = λ z k e. elim k [ inl u ↦ absurd (let l = p.least z u in let v : ⊥ = omega arith in v) | inr u ↦ q.lowest z u e ];
      })
      (λ h. record {
        has = inl p.has;
        least = λ z k. elim k [ inl u ↦ p.least z u | inr u ↦ (let l = q.least z u in omega arith) ];
        lowest = λ z k e. elim k [ inl u ↦ p.lowest z u e | inr u ↦ (let l = above a z p.has u in omega zarith) ];
      })

  closest_clamp : (i : Interval) → Proper i.lo i.hi → Closest (λ z. Between i.lo z i.hi) x (clamp x i.lo i.hi)
  closest_clamp i p = record {
    has = clamp_in x i.lo i.hi p.ordered;
    least = λ z b. clamp_least x i.lo i.hi z b;
    lowest = λ z b e. clamp_lower x i.lo i.hi z b e;
  }

  closest_from : (P : ℤ → Type 0) (a : ℤ) (s : Set) → Closest P x a → Normal s → ((z w : ℤ) → P z → w ∈ s → z <ℤ w) → Closest (λ z. P z ⊎ (z ∈ s)) x (nearest_from x a s)
  unfolding nearest_from
  closest_from P a [] b n above = closest_as P (λ z. P z ⊎ (z ∈ [])) (λ z u. inl u) (λ z k. elim k [ inl u ↦ u | inr u ↦ not_in_none u ]) b
  closest_from P a (i ∷ s) b n above =
      closest_as (λ z. (P z ⊎ Between i.lo z i.hi) ⊎ (z ∈ s)) (λ z. P z ⊎ (z ∈ (i ∷ s)))
      (λ z k. regroup z k)
      (λ z k. ungroup z k)
      (closest_from (λ z. P z ⊎ Between i.lo z i.hi) (nearer x a (clamp x i.lo i.hi)) s
      (closest_both P (λ z. Between i.lo z i.hi) a (clamp x i.lo i.hi) b (closest_clamp i n.0) (λ z w u v. above z w u (here v)))
      n.2
      (λ z w k m. later z w k m))
    where
      regroup : (z : ℤ) → (P z ⊎ Between i.lo z i.hi) ⊎ (z ∈ s) → P z ⊎ (z ∈ (i ∷ s))
      regroup z (inl (inl u)) = inl u
      regroup z (inl (inr u)) = inr (here u)
      regroup z (inr u) = inr (there u)

      ungroup : (z : ℤ) → P z ⊎ (z ∈ (i ∷ s)) → (P z ⊎ Between i.lo z i.hi) ⊎ (z ∈ s)
      ungroup z (inl u) = inl (inl u)
      ungroup z (inr (here u)) = inl (inr u)
      ungroup z (inr (there u)) = inr u

      later : (z w : ℤ) → P z ⊎ Between i.lo z i.hi → w ∈ s → z <ℤ w
      later z w (inl u) m = above z w u (there m)
      later z w (inr u) m = follows i s n u m

pub nearest_closest : (i : Interval) (s : Set) (x : ℤ) → Normal (i ∷ s) → ClosestIn (i ∷ s) x (nearest (i ∷ s) x)
unfolding nearest
nearest_closest i s x n =
    closest_as x (λ z. Between i.lo z i.hi ⊎ (z ∈ s)) (λ z. z ∈ (i ∷ s)) into from
    (closest_from x (λ z. Between i.lo z i.hi) (clamp x i.lo i.hi) s (closest_clamp x i n.0) n.2 (λ z w u m. follows i s n u m))
  where
    into : (z : ℤ) → Between i.lo z i.hi ⊎ (z ∈ s) → z ∈ (i ∷ s)
    into z (inl u) = here u
    into z (inr u) = there u

    from : (z : ℤ) → z ∈ (i ∷ s) → Between i.lo z i.hi ⊎ (z ∈ s)
    from z (here u) = inl u
    from z (there u) = inr u

pub closest_one : (P : ℤ → Type 0) (x m n : ℤ) → Closest P x m → Closest P x n → m ≡ n
closest_one P x m n a b =
    let p = a.least n b.has in
    let q = b.least m a.has in
    let e : distance n x ≡ distance m x = omega arith in
    let f : distance m x ≡ distance n x = omega arith in
    omega (zarith, a.lowest n b.has e, b.lowest m a.has f)
