-- What mul writes for a spread: its wrapped ends divided by 1000, and the ends of the range of products where the range is split or whole. Assumes nothing.
use Rattle.std.specs.Prelude.{List, ◌++◌}
use Rattle.meaning.specs.Number.{thousandth, least_product, greatest_product}
use Rattle.meaning.specs.Interval.{Interval, span, Spread, whole, one, two}

abbrev pub thousandths : Spread → List Interval
thousandths whole = span least_product greatest_product
thousandths (one u v) = span (thousandth u) (thousandth v)
thousandths (two u v) = span (thousandth u) greatest_product ++ span least_product (thousandth v)
