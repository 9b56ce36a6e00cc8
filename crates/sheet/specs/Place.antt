-- Where a line stands in its text. Assumes nothing.
use Rattle.std.specs.Prelude.{ltb, length, take, drop, ◌≡◌, cond, List, ℕ, zero, suc, ◌+◌, ◌≤◌}
use Rattle.meaning.specs.Text.{lines, line_at, cut}
use Rattle.sheet.specs.declared.Part.{Part}

abbrev pub nowhere : Part
nowhere = record { start = 0; len = 0 }

-- behind the first n − 1 lines, up to its LF; 0 and 0 for line 0 or a line that has no LF
abbrev pub part_for : List ℕ → ℕ → Part
part_for t zero = nowhere
part_for t (suc n) = cond (ltb n (length (lines t))) (record { start = length (cut t n); len = length (line_at t (suc n)) }) nowhere

-- the place of line n: it lies inside the text, and its bytes are the line's
pub record Placed (t : List ℕ) (n : ℕ) (p : Part) : Type 0 where
  pub place : p ≡ part_for t n
  pub bytes : take p.len (drop p.start t) ≡ line_at t n
  pub inside : p.start + p.len ≤ length t
