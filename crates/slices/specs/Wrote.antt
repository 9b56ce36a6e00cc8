-- What a pair operation does with a slice that it is lent: the ends of its intervals stand at the front, and the rest is untouched. Assumes nothing.
use Rattle.std.specs.Prelude.{ℤ, length, ◌≡◌, List, ℕ, ◌≤◌}
use Rattle.meaning.specs.Lists.{over}
use Rattle.meaning.specs.Interval.{Interval}
use Rattle.meaning.specs.NumberIntervals.{flat}

-- r numbers were written, the ends of the intervals x; `old` stood in the slice, and `new` stands there now
pub record Wrote (r : ℕ) (x : List Interval) (new old : List ℤ) : Type 0 where
  pub count : r ≡ length (flat x)
  pub left : new ≡ over (flat x) old
  pub room : r ≤ length old
