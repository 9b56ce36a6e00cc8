-- What reading makes sure of (01, "Sheet"): the line finder and the cut by the text's bytes, the sheet cut after line n, and the lines of a text that is not refused.
-- The theorem is `read_laws` of laws/proofs/Fine.antt. Assumes nothing.
use Rattle.std.specs.Prelude.{eqb, length, take, ◌≡◌, cond, List, [], ◌∷◌, ◌++◌, ℕ, suc, ◌<◌}
use Rattle.meaning.specs.Lists.{All}
use Rattle.meaning.specs.Bytes.{LF}
use Rattle.meaning.specs.Sheet.{Line, input, act, FineLine}
use Rattle.meaning.specs.Text.{lines, line_at, cut, sheet, read}

-- ---- the line finder

-- how many LFs there are
abbrev pub feeds : List ℕ → ℕ
feeds [] = 0
feeds (b ∷ t) = cond (eqb b LF) (suc (feeds t)) (feeds t)

-- there are as many lines as LFs; line 0 and a line that has no LF are empty; a cut is a beginning of the text, after line 0 an empty one, and after line n + 1 the cut after line n, then line n + 1, then its LF; and no line has an LF in it
pub record LineAt (t : List ℕ) : Type 0 where
  pub count : length (lines t) ≡ feeds t
  pub none : line_at t 0 ≡ []
  pub start : cut t 0 ≡ []
  pub begins : (n : ℕ) → take (length (cut t n)) t ≡ cut t n
  pub within : (n : ℕ) → n < length (lines t) → cut t (suc n) ≡ cut t n ++ (line_at t (suc n) ++ LF ∷ [])
  pub past : (n : ℕ) → length (lines t) < n → line_at t n ≡ []
  pub plain : (n : ℕ) → All (λ b. b ≡ LF → ⊥) (line_at t n)

-- ---- at most one `in` for a register, and none after another kind

abbrev pub NotIn : Line → Type 0
NotIn (input r lo hi) = ⊥
NotIn (act a) = Unit {0}

-- no `in` of register q
abbrev pub NotInOf : ℕ → Line → Type 0
NotInOf q (input r lo hi) = q ≡ r → ⊥
NotInOf q (act a) = Unit {0}

abbrev pub OneIn : List Line → Type 0
OneIn [] = Unit {0}
OneIn (input r lo hi ∷ ls) = All (NotInOf r) ls × OneIn ls
OneIn (act a ∷ ls) = All NotIn ls × OneIn ls

-- ---- all of it

pub record ReadLaws : Type 0 where
  pub line_at_lem : (t : List ℕ) → LineAt t
  -- the sheet cut after line n has the first n lines
  pub lines_cut : (t : List ℕ) (n : ℕ) → lines (cut t n) ≡ take n (lines t)
  -- and reads as the first n of the lines that the sheet reads as
  pub read_cut : (t : List ℕ) (n : ℕ) (ls : List Line) → read t ≡ sheet ls → read (cut t n) ≡ sheet (take n ls)
  pub read_length : (t : List ℕ) (ls : List Line) → read t ≡ sheet ls → length ls ≡ length (lines t)
  -- the sheet cut after its last line is the sheet
  pub read_whole : (t : List ℕ) (ls : List Line) → read t ≡ sheet ls → cut t (length ls) ≡ t
  -- registers are there, literals are from MIN to MAX, and no LO is past its HI
  pub read_fine : (t : List ℕ) (ls : List Line) → read t ≡ sheet ls → All FineLine ls
  pub one_in : (t : List ℕ) (ls : List Line) → read t ≡ sheet ls → OneIn ls
