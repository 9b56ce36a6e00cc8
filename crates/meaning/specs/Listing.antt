-- The listing (01, "Whole listing", without the `refused 9` that request (v) of document 02 ends): the bytes that the program writes for a text. Assumes nothing.
use Rattle.std.specs.Prelude.{ltb, eqb, ℤ, pos, negsuc, length, Bool, false, cond, ◌||◌, List, [], ◌∷◌, ◌++◌, ℕ, zero, suc, ◌+◌, ◌/◌, ◌%◌}
use Prim.Native.Char.{code}
use Rattle.meaning.specs.Bytes.{bytes}
use Rattle.meaning.specs.Outcome.{Outcome, done, stopped}
use Rattle.meaning.specs.NumberIntervals.{Set}
use Rattle.meaning.specs.Sheet.{registers, put, hold, Line, input, act}
use Rattle.meaning.specs.Text.{Read, sheet, no_sheet, read}
use Rattle.meaning.specs.Check.{Bands, at, check, interval_limit}
use Rattle.meaning.specs.Composing.{Composed, text}

-- ---- numbers in decimal

-- the digits of n before `tail`, at most `most` of them
unfoldable pub digits_before : ℕ → ℕ → List ℕ → List ℕ
digits_before zero n tail = tail
digits_before (suc most) n tail = cond (ltb n 10) ((code "0" + n) ∷ tail) (digits_before most (n / 10) ((code "0" + n % 10) ∷ tail))

-- twenty digits hold every number below 10^20
unfoldable pub decimal : ℕ → List ℕ
decimal n = digits_before 20 n []

unfoldable pub decimal_z : ℤ → List ℕ
decimal_z (pos n) = decimal n
decimal_z (negsuc n) = bytes "-" ++ decimal (suc n)

-- ---- one line otherwise: number and line

-- behind the word `refused` or `stop`
unfoldable pub trouble_line : List ℕ → ℕ → ℕ → List ℕ
trouble_line word k l = word ++ decimal k ++ (bytes " " ++ decimal l ++ bytes "\n")

-- ---- a pass

-- the register has an `in` or a `put`
unfoldable pub wrote_to : ℕ → Line → Bool
wrote_to r (input q lo hi) = eqb r q
wrote_to r (act (put q e)) = eqb r q
wrote_to r (act (hold q lo hi)) = false

unfoldable pub listed : List Line → ℕ → Bool
listed [] r = false
listed (l ∷ ls) r = wrote_to r l || listed ls r

-- one space before each interval
unfoldable pub interval_texts : Set → List ℕ
interval_texts [] = []
interval_texts (i ∷ s) = bytes " " ++ decimal_z i.lo ++ (bytes ".." ++ decimal_z i.hi ++ interval_texts s)

unfoldable pub register_line : ℕ → Set → List ℕ
register_line r s = bytes "r" ++ decimal r ++ (interval_texts s ++ bytes "\n")

-- the next `n` registers from r on, ascending
unfoldable pub register_lines : List Line → List Set → ℕ → ℕ → List ℕ
register_lines ls S r zero = []
register_lines ls S r (suc n) = cond (listed ls r) (register_line r (at S r)) [] ++ register_lines ls S (suc r) n

unfoldable pub pass_line : ℕ → List ℕ
pass_line n = bytes "pass " ++ decimal n ++ bytes "\n"

unfoldable pub outcome_text : List Line → Outcome Bands → List ℕ
outcome_text ls (done B) = pass_line (length ls) ++ register_lines ls B.sets 0 registers
outcome_text ls (stopped k l B) = trouble_line (bytes "stop ") k l

unfoldable pub read_text : Read → List ℕ
read_text (sheet ls) = outcome_text ls (check interval_limit ls)
read_text (no_sheet k l) = trouble_line (bytes "refused ") k l

unfoldable pub listing : List ℕ → List ℕ
listing t = read_text (read t)

-- as a part that writes text (02, (i)): every text has a listing, so no number but 0 and 4 is returned
abbrev pub listing_part : List ℕ → Composed
listing_part t = text (listing t)
