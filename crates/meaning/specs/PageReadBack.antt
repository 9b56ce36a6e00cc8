-- The page read back, from its bytes alone: a reader of lines by their columns, and what holds of every page. The theorems are `page_reads_back`, `page_most` and `same_page` of laws/proofs/PageReadBack.antt, `calls_read_back` and `members_counted` of laws/proofs/PageCalls.antt. Assumes nothing.
use Rattle.std.specs.Prelude.{eqb, ℤ, pos, ◌+ℤ◌, ◌<ℤ◌, length, get_or, take, drop, ◌≡◌, true, false, cond, ◌⊎◌, List, [], ◌∷◌, map, ℕ, zero, suc, ◌+◌, ◌-◌, ◌*◌, ◌≤◌, ◌<◌}
use Prim.Native.Char.{code}
use Rattle.meaning.specs.Lists.{All}
use Rattle.meaning.specs.Bytes.{bytes}
use Rattle.meaning.specs.Number.{Between}
use Rattle.meaning.specs.Outcome.{done}
use Rattle.meaning.specs.NumberIntervals.{Set}
use Rattle.meaning.specs.Sheet.{registers, Line}
use Rattle.meaning.specs.Reading.{number, signed}
use Rattle.meaning.specs.Text.{split_lines, lines, sheet, read}
use Rattle.meaning.specs.Run.{worked}
use Rattle.meaning.specs.Check.{Bands, at, check_text, interval_limit, set_in, check_sets}
use Rattle.meaning.specs.Demand3Calls.{Enough}
use Rattle.meaning.specs.Listing.{listed}
use Rattle.meaning.specs.Composing.{text, text_returns, text_leaves}
use Rattle.meaning.specs.Page.{Row, member_count, row_line, page_text, page}

-- ---- a reader of lines

-- the characters from column a to column b, the first column being 1
abbrev pub columns : ℕ → ℕ → List ℕ → List ℕ
columns a b l = take (suc b - a) (drop (a - 1) l)

-- what stands before the first blank, and what stands from the first character on that is no blank
unfoldable pub word : List ℕ → List ℕ
word [] = []
word (b ∷ l) = cond (eqb b (code " ")) [] (b ∷ word l)

unfoldable pub after_blanks : List ℕ → List ℕ
after_blanks [] = []
after_blanks (b ∷ l) = cond (eqb b (code " ")) (after_blanks l) (b ∷ l)

-- a number in decimal, behind a minus if it is negative
abbrev pub numeral : List ℕ → ℤ
numeral s = cond (eqb (get_or s 0 0) (code "-")) (signed true (number 0 (drop 1 s))) (signed false (number 0 s))

unfoldable pub read_row : List ℕ → Row
read_row l = record {
  register = number 0 (drop 1 (word (columns 1 3 l)));
  start = numeral (after_blanks (columns 5 24 l));
  end = numeral (after_blanks (columns 27 46 l));
  members = numeral (after_blanks (columns 48 67 l));
}

-- the rows of a page, by the bytes between its LFs
unfoldable pub read_page : List ℕ → List Row
read_page p = map read_row (lines p)

-- the intervals that they give register r, in their order
unfoldable pub set_read : ℕ → List Row → Set
set_read r [] = []
set_read r (w ∷ ws) = cond (eqb r w.register) (record { lo = w.start; hi = w.end } ∷ set_read r ws) (set_read r ws)

-- ---- what holds of the bytes p of a page

-- a line has 72 characters: a name that begins with r, two points, and blanks where no column is set
pub record Ruled (l : List ℕ) : Type 0 where
  pub width : length l ≡ 72
  pub name : columns 1 1 l ≡ bytes "r"
  pub after_name : columns 4 4 l ≡ bytes " "
  pub points : columns 25 26 l ≡ bytes ".."
  pub after_end : columns 47 47 l ≡ bytes " "
  pub rest : columns 68 72 l ≡ bytes "     "

-- a line's register is there and has an `in` or `put`, and its count is that of its interval
pub record RightRow (ls : List Line) (w : Row) : Type 0 where
  pub there : w.register < registers
  pub has : listed ls w.register ≡ true
  pub counts : w.members ≡ member_count w.start w.end

-- registers ascending, then starts: a row's interval ends before the next one of its register begins
abbrev pub Before : Row → List Row → Type 0
Before v [] = Unit {0}
Before v (w ∷ ws) = (v.register < w.register) ⊎ ((v.register ≡ w.register) × (v.end <ℤ w.start))

abbrev pub Ordered : List Row → Type 0
Ordered [] = Unit {0}
Ordered (w ∷ ws) = Before w ws × Ordered ws

-- how many intervals the next n registers from r on have, those with an `in` or `put`
unfoldable pub intervals_listed : List Line → List Set → ℕ → ℕ → ℕ
intervals_listed ls S r zero = 0
intervals_listed ls S r (suc n) = cond (listed ls r) (length (at S r)) 0 + intervals_listed ls S (suc r) n

-- ls are the sheet's lines, S the sets that the check gave, p the bytes of the page
pub record ReadsBack (ls : List Line) (S : List Set) (p : List ℕ) : Type 0 where
  -- an LF ends every line, and a line and its LF are 73 bytes
  pub ended : (split_lines p).rest ≡ []
  pub ruled : All Ruled (lines p)
  pub size : length p ≡ 73 * intervals_listed ls S 0 registers
  pub count : length (lines p) ≡ intervals_listed ls S 0 registers
  -- a line is just what its row is written as, so no other character stands in it
  pub again : All (λ l. row_line (read_row l) ≡ l) (lines p)
  -- every line names a register with an `in` or `put`, and has the count of its interval
  pub rows : All (RightRow ls) (read_page p)
  pub ordered : Ordered (read_page p)
  -- what is printed for such a register reads back to just the set that the check gave, which has a line at least, and nothing is printed for any other number
  pub sets : (r : ℕ) → r < registers → listed ls r ≡ true → set_read r (read_page p) ≡ get_or S r []
  pub appears : (r : ℕ) → r < registers → listed ls r ≡ true → set_read r (read_page p) ≡ [] → ⊥
  pub others : (r : ℕ) → (listed ls r ≡ false) ⊎ (registers ≤ r) → set_read r (read_page p) ≡ []

-- for every text that the check passes
abbrev pub PageReadsBack : Type 0
PageReadsBack = (t : List ℕ) (ls : List Line) (n : ℕ) (B : Bands) → read t ≡ sheet ls → check_text interval_limit t ≡ worked n (done B) → ReadsBack ls B.sets (page_text ls B.sets)

-- no page is longer: a line for each interval that a register may have
abbrev pub longest_page : ℕ
longest_page = 73 * (interval_limit * registers)

abbrev pub PageMost : Type 0
PageMost = (t x : List ℕ) → page t ≡ text x → length x ≤ longest_page

-- two passed sheets with the same page list the same registers, with the same sets
pub record SameSets (ls ls' : List Line) (S S' : List Set) (r : ℕ) : Type 0 where
  pub both : listed ls r ≡ listed ls' r
  pub same : listed ls r ≡ true → get_or S r [] ≡ get_or S' r []

abbrev pub SamePage : Type 0
SamePage =
    (t t' : List ℕ) (ls ls' : List Line) (n n' : ℕ) (B B' : Bands)
    → read t ≡ sheet ls → check_text interval_limit t ≡ worked n (done B)
    → read t' ≡ sheet ls' → check_text interval_limit t' ≡ worked n' (done B')
    → page_text ls B.sets ≡ page_text ls' B'.sets
    → (r : ℕ) → r < registers → SameSets ls ls' B.sets B'.sets r

-- ---- of the call: wherever it returns 0 the check passes, and the bytes that it has written are those of the page

-- the bytes that a call lent the text t and the output `out` has written
abbrev pub written : List ℕ → List ℕ → List ℕ
written t out = take (text_returns (page t) out).count (text_leaves (page t) out)

pub record CallReadsBack (t out : List ℕ) : Type 0 where
  pub lines_are : List Line
  pub bands : Bands
  pub reads : read t ≡ sheet lines_are
  pub passes : check_text interval_limit t ≡ worked (length lines_are) (done bands)
  pub bytes_read_back : ReadsBack lines_are bands.sets (written t out)
  -- the sets are those that the check leaves in the numbers that it is lent
  pub agrees : (sets work : List ℤ) → Enough sets work → (r : ℕ) → r < registers → listed lines_are r ≡ true → set_read r (read_page (written t out)) ≡ set_in (check_sets t sets work) r

abbrev pub CallsReadBack : Type 0
CallsReadBack = (t out : List ℕ) → (text_returns (page t) out).number ≡ 0 → CallReadsBack t out

-- ---- the count is exact: counted from lo on, each number from lo to hi comes once

pub record Counts (lo hi : ℤ) : Type 0 where
  pub inside : (k : ℕ) → pos k <ℤ member_count lo hi → Between lo (lo +ℤ pos k) hi
  pub each : (z : ℤ) → Between lo z hi → (k : ℕ) × (pos k <ℤ member_count lo hi) × (z ≡ lo +ℤ pos k)
  pub once : (j k : ℕ) → lo +ℤ pos j ≡ lo +ℤ pos k → j ≡ k

abbrev pub MembersCounted : Type 0
MembersCounted = (lo hi : ℤ) → Counts lo hi
