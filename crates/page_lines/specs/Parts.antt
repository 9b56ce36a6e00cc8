-- A line of the page, which one function writes. Assumes nothing.
use Rattle.std.specs.Prelude.{ℤ, List, ◌++◌, ℕ}
use Rattle.meaning.specs.Bytes.{bytes}
use Rattle.meaning.specs.Page.{row, row_line}

-- the line of an interval, and its LF
unfoldable pub interval_line : ℕ → ℤ → ℤ → List ℕ
interval_line r lo hi = row_line (row r (record { lo = lo; hi = hi })) ++ bytes "\n"
