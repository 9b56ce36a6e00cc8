-- What a call that writes does with the slice that it is lent: its part stands where what was written before ends, and the rest is untouched. Assumes nothing.
use Rattle.std.specs.Prelude.{length, take, drop, ◌≡◌, List, ◌+◌, ◌++◌, ◌≤◌}
use Rattle.std.specs.Borrow.{MutBor}
use Rattle.meaning.specs.Lists.{over}
use Rattle.writer.specs.declared.Writer.{Writer}

-- there is room for x
abbrev pub Fits : {A : Type 0} → List A → Writer A → Type 0
Fits x w = w.len + length x ≤ length w.room.now

-- nothing is written yet into the slice that was lent
pub record Starts {A : Type 0} (w : Writer A) (lent : MutBor (List A)) : Type 0 where
  pub empty : w.len ≡ 0
  pub now : w.room.now ≡ lent.now
  pub same : w.room.ghost_name ≡ lent.ghost_name

-- the elements of x follow what `old` had written
pub record Appends {A : Type 0} (x : List A) (new old : Writer A) : Type 0 where
  pub count : new.len ≡ old.len + length x
  pub left : new.room.now ≡ take old.len old.room.now ++ over x (drop old.len old.room.now)
  pub room : Fits x old
  pub long : length new.room.now ≡ length old.room.now
  pub same : new.room.ghost_name ≡ old.room.ghost_name
