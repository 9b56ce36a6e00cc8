-- What the calls on slices of ends ask for, and what they leave. Assumes nothing.
use Rattle.std.specs.Prelude.{ℤ, length, take, drop, ◌≡◌, true, List, ℕ, ◌+◌, ◌%◌, ◌≤◌}
use Rattle.meaning.specs.Lists.{All}
use Rattle.meaning.specs.Interval.{Proper}
use Rattle.meaning.specs.NumberIntervals.{Normal, rebuild, union, flat, intervals, normal}

-- l is the ends of a normal set
pub record SetEnds (l : List ℤ) : Type 0 where
  pub test : normal l ≡ true
  pub is : Normal (intervals l)

-- the ends of a normal set of at most 16 intervals
pub record Argument (l : List ℤ) : Type 0 where
  pub set : SetEnds l
  pub few : length l ≤ 32

-- l is the ends of intervals, in any order
pub record Pairs (l : List ℤ) : Type 0 where
  pub even : length l % 2 ≡ 0
  pub proper : All (λ i. Proper i.lo i.hi) (intervals l)

-- the first r numbers are the join of all of them
pub record Rebuilt (old new : List ℤ) (r : ℕ) : Type 0 where
  pub count : r ≡ length (flat (rebuild (intervals old)))
  pub room : r ≤ length old
  pub front : take r new ≡ flat (rebuild (intervals old))

-- the first r numbers are the union; from the length of both arguments on nothing is changed
pub record United (l m old new : List ℤ) (r : ℕ) : Type 0 where
  pub count : r ≡ length (flat (union (intervals l) (intervals m)))
  pub room : r ≤ length l + length m
  pub front : take r new ≡ flat (union (intervals l) (intervals m))
  pub rest : drop (length l + length m) new ≡ drop (length l + length m) old
