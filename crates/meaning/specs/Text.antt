-- A sheet's bytes (01, "Sheet"): its lines, the line finder, the sheet cut after line N, and reading it whole. Assumes nothing.
use Rattle.std.specs.Prelude.{eqb, leb, length, get_or, Bool, true, false, cond, ◌&&◌, ◌||◌, List, [], ◌∷◌, ℕ, zero, suc}
use Rattle.meaning.specs.Refusals.{misshapen, misplaced}
use Rattle.meaning.specs.Bytes.{LF}
use Rattle.meaning.specs.Outcome.{Res, ok, stop, bind}
use Rattle.meaning.specs.Sheet.{Line, input, act}
use Rattle.meaning.specs.Reading.{read_line}

-- the lines that an LF (byte 10) ends, without it, and what stands after the last LF
pub record Split : Type 0 where
  pub lines : List (List ℕ)
  pub rest : List ℕ

-- one byte more at the front
abbrev pub front : ℕ → List (List ℕ) → List ℕ → Split
front b [] r = record { lines = []; rest = b ∷ r }
front b (l ∷ ls) r = record { lines = (b ∷ l) ∷ ls; rest = r }

abbrev pub split_byte : ℕ → Split → Split
split_byte b s = cond (eqb b LF) (record { lines = [] ∷ s.lines; rest = s.rest }) (front b s.lines s.rest)

unfoldable pub split_lines : List ℕ → Split
split_lines [] = record { lines = []; rest = [] }
split_lines (b ∷ t) = split_byte b (split_lines t)

abbrev pub lines : List ℕ → List (List ℕ)
lines t = (split_lines t).lines

-- the line finder: the bytes of line n without its LF; line 0 or a line that has no LF gives an empty part
unfoldable pub line_at : List ℕ → ℕ → List ℕ
line_at t zero = []
line_at t (suc n) = get_or (lines t) n []

-- the first n lines with their LFs; the whole text where it has fewer LFs
unfoldable pub cut : List ℕ → ℕ → List ℕ
cut [] n = []
cut (b ∷ t) zero = []
cut (b ∷ t) (suc n) = b ∷ cut t (cond (eqb b LF) n (suc n))

-- ---- 5: over 256 lines, a line over 120 bytes, the last LF missing

abbrev pub narrow : List (List ℕ) → Bool
narrow [] = true
narrow (l ∷ ls) = leb (length l) 120 && narrow ls

abbrev pub empty : List ℕ → Bool
empty [] = true
empty (b ∷ t) = false

abbrev pub shaped : Split → Bool
shaped s = leb (length s.lines) 256 && (narrow s.lines && empty s.rest)

-- ---- 8: `in` after another kind, or a second for a register

-- of the lines so far: whether another kind came, and the registers with an `in`
pub record Seen : Type 0 where
  pub other : Bool
  pub taken : List ℕ

abbrev pub nothing_seen : Seen
nothing_seen = record { other = false; taken = [] }

abbrev pub among : ℕ → List ℕ → Bool
among r [] = false
among r (q ∷ l) = eqb r q || among r l

unfoldable pub admit : Seen → Line → Res Seen
admit s (input r lo hi) = cond (s.other || among r s.taken) (stop misplaced) (ok (record { other = false; taken = r ∷ s.taken }))
admit s (act a) = ok (record { other = true; taken = s.taken })

-- ---- the whole text: 5, then the lines in order

-- the lines, or a refusal: its number and its line
pub data Read : Type 0 where
  sheet : List Line → Read
  no_sheet : ℕ → ℕ → Read

abbrev pub prepend : Line → Read → Read
prepend l (sheet ls) = sheet (l ∷ ls)
prepend l (no_sheet k n) = no_sheet k n

-- a line, and what is remembered after it
pub record Taken : Type 0 where
  pub line : Line
  pub seen : Seen

-- 6 and 7, then 8
unfoldable pub read_one : Seen → List ℕ → Res Taken
read_one s b = bind (read_line b) (λ l. bind (admit s l) (λ s'. ok (record { line = l; seen = s' })))

abbrev pub then_read : ℕ → Res Taken → (Seen → Read) → Read
then_read n (ok t) rest = prepend t.line (rest t.seen)
then_read n (stop k) rest = no_sheet k n

-- n is the number of the first of the lines
unfoldable pub read_lines : ℕ → Seen → List (List ℕ) → Read
read_lines n s [] = sheet []
read_lines n s (b ∷ bs) = then_read n (read_one s b) (λ s'. read_lines (suc n) s' bs)

unfoldable pub read : List ℕ → Read
read t = cond (shaped (split_lines t)) (read_lines 1 nothing_seen (lines t)) (no_sheet misshapen 0)
