-- The spread that a Range says. Assumes nothing.
use Rattle.meaning.specs.Interval.{Spread, whole, one, two}
use Rattle.wide.specs.declared.spread.Range.{Range}
use Rattle.wide.specs.declared.spread.Range.TheVariants.{Whole, One, Two}

abbrev pub range_of : Range → Spread
range_of Whole = whole
range_of (One u v) = one u v
range_of (Two u v) = two u v
