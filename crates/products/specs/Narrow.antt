-- An interval whose ends are at most 2^31 from 0: every product of members of two such intervals is in range. Assumes nothing.
use Rattle.std.specs.Prelude.{ℤ, pos, negsuc, ◌≤ℤ◌}

pub record Narrow (s e : ℤ) : Type 0 where
  pub low : negsuc 2147483647 ≤ℤ s
  pub ordered : s ≤ℤ e
  pub high : e ≤ℤ pos 2147483648
