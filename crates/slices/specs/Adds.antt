-- What an operation on intervals writes behind what a writer has already: the ends of its intervals, start before end. Assumes nothing.
use Rattle.std.specs.Prelude.{ℤ, List}
use Rattle.meaning.specs.Interval.{Interval}
use Rattle.meaning.specs.NumberIntervals.{flat}
use Rattle.writer.specs.declared.Writer.{Writer}
use Rattle.writer.specs.Written.{Fits, Appends}

-- there is room for the ends of the intervals x
abbrev pub Holds : List Interval → Writer ℤ → Type 0
Holds x w = Fits (flat x) w

-- the ends of the intervals x follow what `old` had written
pub record Adds (x : List Interval) (new old : Writer ℤ) : Type 0 where
  pub ends : Appends (flat x) new old
