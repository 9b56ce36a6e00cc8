-- What the numbers of a form's set say, before any type of the code. Assumes nothing.
use Rattle.std.specs.Prelude.{ℤ, pos, length, take, replicate, ◌≡◌, List, ◌++◌, ℕ, ◌-◌, ◌*◌, ◌≤◌}
use Rattle.meaning.specs.NumberIntervals.{Set, Normal, flat, intervals}
use Rattle.meaning.specs.Check.{slot_size, interval_limit}
use Rattle.meaning.specs.CheckSets.{SoundSet}

-- the ends of a set in 32 numbers, unused ones 0
unfoldable pub padded : Set → List ℤ
padded s = flat s ++ replicate (slot_size - 1 - length (flat s)) (pos 0)

-- the set of so many intervals, by the ends at the front
unfoldable pub shown : ℕ → List ℤ → Set
shown count ends = intervals (take (2 * count) ends)

-- the set is normal, not empty, and of at most 16 intervals, and behind its ends stands nothing but 0
pub record Held (count : ℕ) (ends : List ℤ) : Type 0 where
  pub counted : count ≡ length (shown count ends)
  pub is : ends ≡ padded (shown count ends)
  pub normal : Normal (shown count ends)
  pub filled : 1 ≤ count
  pub few : count ≤ interval_limit

-- the numbers are the ends of such a set
pub record Few (l : List ℤ) : Type 0 where
  pub ends : l ≡ flat (intervals l)
  pub sound : SoundSet interval_limit (intervals l)
