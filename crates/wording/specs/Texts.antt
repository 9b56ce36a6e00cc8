-- The text of one interval, which one function writes (01, "Whole listing"). Assumes nothing.
use Rattle.std.specs.Prelude.{List, ◌++◌, ℤ, ℕ}
use Rattle.meaning.specs.Bytes.{bytes}
use Rattle.meaning.specs.Listing.{decimal_z}

abbrev pub interval_text : ℤ → ℤ → List ℕ
interval_text lo hi = (bytes " " ++ decimal_z lo) ++ (bytes ".." ++ decimal_z hi)
