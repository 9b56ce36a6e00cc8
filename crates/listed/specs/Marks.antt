-- Which registers have an `in` or a `put`: a mark for each, set line by line. Assumes nothing.
use Rattle.std.specs.Prelude.{set, replicate, ◌≡◌, Bool, true, false, List, [], ◌∷◌, ℕ}
use Rattle.meaning.specs.Outcome.{Res, ok, stop}
use Rattle.meaning.specs.Sheet.{registers, put, hold, Line, input, act}
use Rattle.meaning.specs.Reading.{read_line}
use Rattle.meaning.specs.Text.{lines}

-- the marks after one line more
unfoldable pub mark_line : Res Line → List Bool → List Bool
mark_line (ok (input r lo hi)) m = set m r true
mark_line (ok (act (put r e))) m = set m r true
mark_line (ok (act (hold r lo hi))) m = m
mark_line (stop k) m = m

-- the marks after these lines
unfoldable pub marks_after : List (List ℕ) → List Bool → List Bool
marks_after [] m = m
marks_after (line ∷ more) m = marks_after more (mark_line (read_line line) m)

-- the marks of a text
abbrev pub marks_of : List ℕ → List Bool
marks_of t = marks_after (lines t) (replicate registers false)

-- the line is inside the grammar
pub record Readable (s : List ℕ) : Type 0 where
  pub line : Line
  pub reads : read_line s ≡ ok line
