-- What the numbers of all registers say, before any type of the code. Assumes nothing.
use Rattle.std.specs.Prelude.{ℤ, length, drop, ◌≡◌, List, [], ◌∷◌, ℕ, zero, suc, ◌≤◌}
use Rattle.meaning.specs.NumberIntervals.{Set, Normal}
use Rattle.meaning.specs.Sheet.{registers}
use Rattle.meaning.specs.Check.{at, slot_size, layout, set_in, interval_limit}

-- the sets of the first n slots
unfoldable pub sets_in : ℕ → List ℤ → List Set
sets_in zero l = []
sets_in (suc n) l = set_in l 0 ∷ sets_in n (drop slot_size l)

-- the set is normal, not empty, and of at most 16 intervals
pub record Sized (s : Set) : Type 0 where
  pub normal : Normal s
  pub filled : 1 ≤ length s
  pub few : length s ≤ interval_limit

-- the numbers are those of such sets, one a register, and nothing else
pub record Slots (l : List ℤ) : Type 0 where
  pub is : l ≡ layout (sets_in registers l)
  pub each : (r : ℕ) → Sized (at (sets_in registers l) r)
