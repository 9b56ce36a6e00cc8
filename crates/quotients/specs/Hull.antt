-- The hull of four corner quotients as `quot` gives them, each wrapped; in a plain case none leaves the range, and it is `div_plain`. Assumes nothing.
use Rattle.std.specs.Prelude.{ℤ, List}
use Rattle.std.specs.Int.Signed.{quot_z}
use Rattle.meaning.specs.Number.{wrap}
use Rattle.meaning.specs.Interval.{Interval, span, least_corner, greatest_corner}

abbrev pub wrapped_quotient : ℤ → ℤ → ℤ
wrapped_quotient x y = wrap (quot_z x y)

unfoldable pub hull : ℤ → ℤ → ℤ → ℤ → List Interval
hull s e t f = span (least_corner wrapped_quotient s e t f) (greatest_corner wrapped_quotient s e t f)
