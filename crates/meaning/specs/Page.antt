-- The page for the wheelhouse (02, (i)): the rows of a sheet that passes, one for each interval, and the bytes of their lines. Assumes nothing.
use Rattle.std.specs.Prelude.{ℤ, pos, ◌+ℤ◌, ◌-ℤ◌, length, replicate, cond, List, [], ◌∷◌, ◌++◌, ℕ, zero, suc, ◌-◌}
use Prim.Native.Char.{code}
use Rattle.meaning.specs.Bytes.{bytes}
use Rattle.meaning.specs.Interval.{Interval}
use Rattle.meaning.specs.NumberIntervals.{Set}
use Rattle.meaning.specs.Sheet.{registers, Line}
use Rattle.meaning.specs.Check.{at}
use Rattle.meaning.specs.Listing.{decimal, decimal_z, listed}
use Rattle.meaning.specs.Composing.{Composed, text, if_passed}

-- ---- the rows

-- what a line says: the register, the start and the end of an interval in thousandths, and how many members it has
pub record Row : Type 0 where
  pub register : ℕ
  pub start : ℤ
  pub end : ℤ
  pub members : ℤ

-- exact, up to 2^64
abbrev pub member_count : ℤ → ℤ → ℤ
member_count lo hi = (hi -ℤ lo) +ℤ pos 1

abbrev pub row : ℕ → Interval → Row
row r i = record { register = r; start = i.lo; end = i.hi; members = member_count i.lo i.hi }

-- one interval on a line, in the order of their starts
unfoldable pub set_rows : ℕ → Set → List Row
set_rows r [] = []
set_rows r (i ∷ s) = row r i ∷ set_rows r s

-- of the next n registers from r on, ascending, just those with an `in` or `put`, each set whole
unfoldable pub register_rows : List Line → List Set → ℕ → ℕ → List Row
register_rows ls S r zero = []
register_rows ls S r (suc n) = cond (listed ls r) (set_rows r (at S r)) [] ++ register_rows ls S (suc r) n

unfoldable pub page_rows : List Line → List Set → List Row
page_rows ls S = register_rows ls S 0 registers

-- ---- their lines

abbrev pub blanks : ℕ → List ℕ
blanks n = replicate n (code " ")

-- a text in `width` columns, left-set or right-set
unfoldable pub left_set : ℕ → List ℕ → List ℕ
left_set width s = s ++ blanks (width - length s)

unfoldable pub right_set : ℕ → List ℕ → List ℕ
right_set width s = blanks (width - length s) ++ s

-- columns 1–3 the register name, left-set; 4 blank; 5–24 the start, right-set; 25–26 two points; 27–46 the end, right-set; 47 blank; 48–67 the number of members, right-set; 68–72 blank
unfoldable pub row_line : Row → List ℕ
row_line w =
    left_set 3 (bytes "r" ++ decimal w.register) ++ (bytes " "
    ++ (right_set 20 (decimal_z w.start) ++ (bytes ".."
    ++ (right_set 20 (decimal_z w.end) ++ (bytes " "
    ++ (right_set 20 (decimal_z w.members) ++ bytes "     "))))))

-- each line and its LF
unfoldable pub rows_text : List Row → List ℕ
rows_text [] = []
rows_text (w ∷ ws) = row_line w ++ (bytes "\n" ++ rows_text ws)

-- the bytes of the page of a sheet with these lines and the sets that the check gave
unfoldable pub page_text : List Line → List Set → List ℕ
page_text ls S = rows_text (page_rows ls S)

-- of a text: a sheet that does not pass answers as the check does
unfoldable pub page : List ℕ → Composed
page t = if_passed (λ ls S. text (page_text ls S)) t
