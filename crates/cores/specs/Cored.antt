-- What a core leaves: the joined set at the front of the work slice, how many numbers it has, and its flag. Assumes nothing.
use Rattle.std.specs.Prelude.{ℤ, length, take, drop, ◌≡◌, Bool, List, ℕ, ◌≤◌}
use Rattle.meaning.specs.NumberIntervals.{Set, flat}
use Rattle.replies.specs.declared.Written.{Written}

-- `answer` and `flag` are what the operation gives, `need` the numbers of work that it needs; what lies past the need is as lent
pub record Cored (answer : Set) (flag : Bool) (need : ℕ) (old new : List ℤ) (c : Written) : Type 0 where
  pub count : c.count ≡ length (flat answer)
  pub room : c.count ≤ need
  pub front : take c.count new ≡ flat answer
  pub flagged : c.flag ≡ flag
  pub rest : drop need new ≡ drop need old
