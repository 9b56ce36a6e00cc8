-- Numbers of two words in order: the upper words decide, and where they are equal the lower ones. Assumes nothing.
use mathlib.Core.Path.{◌≡◌}
use Prim.Native.Nat.{ℕ, ◌+◌, ◌-◌, ◌*◌, ◌^◌, ◌≤◌, ◌<◌}
use native.Mathlib.Omega.{arith}

pub upper : {h k : ℕ} (l m : ℕ) → l < 2 ^ 64 → h < k → h * 2 ^ 64 + l < k * 2 ^ 64 + m
upper l m b e = omega arith

-- the distance from h·2^64 + u to k·2^64 + v against 2^64 − 1
module _ (h k u v : ℕ) where
  pub near_behind : k < h → v < 2 ^ 64 → k * 2 ^ 64 + v < h * 2 ^ 64 + u + 18446744073709551615
  near_behind a b = omega arith

  pub far_beyond : 2 ≤ k - h → u < 2 ^ 64 → h * 2 ^ 64 + u + 18446744073709551615 ≤ k * 2 ^ 64 + v
  far_beyond a b = omega arith

  pub near_next : k - h < 2 → v < u → 2 ≤ u - v → k * 2 ^ 64 + v < h * 2 ^ 64 + u + 18446744073709551615
  near_next a b d = omega arith

  pub far_next : h < k → u ≤ v + 1 → h * 2 ^ 64 + u + 18446744073709551615 ≤ k * 2 ^ 64 + v
  far_next a b = omega arith

  pub near_same : k ≤ h → v < u + 18446744073709551615 → k * 2 ^ 64 + v < h * 2 ^ 64 + u + 18446744073709551615
  near_same a b = omega arith

  pub far_same : h ≤ k → u + 18446744073709551615 ≤ v → h * 2 ^ 64 + u + 18446744073709551615 ≤ k * 2 ^ 64 + v
  far_same a b = omega arith

  -- near, in order and not in one window: the next window
  pub next : u < 2 ^ 64 → v < 2 ^ 64 → h * 2 ^ 64 + u ≤ k * 2 ^ 64 + v → k * 2 ^ 64 + v < h * 2 ^ 64 + u + 18446744073709551615 → (h ≡ k → ⊥) → k ≡ h + 1
  next a b l m n = omega arith
