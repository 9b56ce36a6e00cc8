-- Exact distances for `omega`, and the cases of a clamped number and of the nearer of two. Assumes nothing.
use lib.Dec.{ltb}
use lib.IntN.{ℤ, pos, ◌+ℤ◌, ◌-ℤ◌}
use lib.Signed.{lt_z, ◌≤ℤ◌, ◌<ℤ◌}
use mathlib.Core.Path.{◌≡◌}
use mathlib.Core.Bool.{cond}
use Prim.Native.Nat.{ℕ, ◌+◌, ◌-◌, ◌≤◌, ◌<◌, ◌^◌}
use native.Mathlib.Omega.{arith}
use borrow.Author.Tests.{ltb-true, ltb-false}
use Rattle.meaning.specs.Number.{Between, InRange, distance}
use Rattle.meaning.specs.Setpoints.{clamp, nearer}
use Rattle.laws.proofs.Integers.{up, down, zarith, cond_case, one_part, abs_parts, sub_parts, add_parts}
use Rattle.laws.proofs.Members.{between}

-- the two halves of an absolute difference: the one is the distance and the other 0
pub distance_parts : (a b : ℤ) → distance a b ≡ ((up a + down b) - (up b + down a)) + ((up b + down a) - (up a + down b))
unfolding distance
distance_parts a b = omega (arith, abs_parts (a -ℤ b), sub_parts a b, one_part (a -ℤ b))

pub clamp_case {ℓ} : (P : ℤ → Type ℓ) (x lo hi : ℤ) → (x <ℤ lo → P lo) → (lo ≤ℤ x → hi <ℤ x → P hi) → (lo ≤ℤ x → x ≤ℤ hi → P x) → P (clamp x lo hi)
unfolding clamp
clamp_case P x lo hi f g h =
    cond_case P (lt_z x lo) lo (cond (lt_z hi x) hi x)
    (λ t. f (omega zarith))
    (λ t. cond_case P (lt_z hi x) hi x (λ u. g (omega zarith) (omega zarith)) (λ u. h (omega zarith) (omega zarith)))

pub nearer_case {ℓ} : (P : ℤ → Type ℓ) (x a b : ℤ) → (distance b x < distance a x → P b) → (distance a x ≤ distance b x → P a) → P (nearer x a b)
unfolding nearer
nearer_case P x a b f g =
    cond_case P (ltb (distance b x) (distance a x)) b a
    (λ t. f (ltb-true (distance b x) (distance a x) t))
    (λ t. g (ltb-false (distance b x) (distance a x) t))

-- within a distance: from x − d to x + d
pub near_between : (x z : ℤ) (d : ℕ) → distance z x ≤ d → Between (x -ℤ pos d) z (x +ℤ pos d)
near_between x z d h =
    between (omega (zarith, distance_parts z x, sub_parts x (pos d))) (omega (zarith, distance_parts z x, add_parts x (pos d)))

pub between_near : (x z : ℤ) (d : ℕ) → Between (x -ℤ pos d) z (x +ℤ pos d) → distance z x ≤ d
between_near x z d h = omega (zarith, h.above, h.below, distance_parts z x, sub_parts x (pos d), add_parts x (pos d))

pub distance_most : (a b : ℤ) → InRange a → InRange b → distance a b ≤ 2 ^ 64 - 1
distance_most a b p q = omega (zarith, p.above, p.below, q.above, q.below, distance_parts a b)
