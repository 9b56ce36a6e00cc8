-- A part of an interval, where there is one. Assumes nothing.
use Rattle.std.specs.Prelude.{Option, Some, None, List, [], ℤ}
use Rattle.meaning.specs.Interval as meant
use Rattle.interval.specs.declared.Interval.{Interval}
use Rattle.interval.specs.declared.divisor.Divisor.{Divisor}

-- what g gives of the part, and nothing where there is none
abbrev pub of_part : (ℤ → ℤ → List meant.Interval) → Option Interval → List meant.Interval
of_part g None = []
of_part g (Some i) = g i.lo i.hi

abbrev pub of_divisor : (ℤ → ℤ → List meant.Interval) → Option Divisor → List meant.Interval
of_divisor g None = []
of_divisor g (Some d) = g d.numbers.lo d.numbers.hi

-- the part itself
abbrev pub spans : Option Interval → List meant.Interval
spans = of_part meant.span

abbrev pub divisor_spans : Option Divisor → List meant.Interval
divisor_spans = of_divisor meant.span
