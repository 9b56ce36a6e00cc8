-- Values that pin how the page and the parts that write text are read: the sheets of Samples.antt as pages, the line of the whole range with its 2^64 members, and what a call returns and leaves. The theorem is `page_samples` of proofs/PageSamples.antt. Assumes nothing.
use Rattle.std.specs.Prelude.{pos, ◌≡◌, List, [], ◌∷◌, ◌++◌, ℕ}
use Rattle.meaning.specs.Bytes.{bytes}
use Rattle.meaning.specs.Number.{MIN, MAX}
use Rattle.meaning.specs.Refusals.{no_room, ungrammatical, zero_divisor, hold_broken}
use Rattle.meaning.specs.Composing.{text, finding, refusal, text_returns, text_leaves}
use Rattle.meaning.specs.Page.{Row, row, row_line, page}
use Rattle.meaning.specs.PageReadBack.{read_row, read_page}
use Rattle.meaning.specs.Samples.{pump_sheet, zero_sheet, spaced_sheet, broken_sheet, nothing_sheet, held_sheet, ordered_sheet}

abbrev pub pump_page : List ℕ
pump_page =
    bytes "r0                 -1000..                2000                 3001     \n"
    ++ bytes "r1                 -2500..                5000                 7501     \n"

abbrev pub ordered_page : List ℕ
ordered_page =
    bytes "r2                     0..                   0                    1     \n"
    ++ bytes "r2                  1000..                1000                    1     \n"
    ++ bytes "r3                     0..                1000                 1001     \n"

abbrev pub all_numbers_row : Row
all_numbers_row = row 15 (record { lo = MIN; hi = MAX })

pub record PageSamples : Type 0 where
  -- 01's own example
  pub pump : page pump_sheet ≡ text pump_page
  -- registers ascending, then starts
  pub ordered : page ordered_sheet ≡ text ordered_page
  -- and read back by their columns
  pub read_back : read_page ordered_page ≡ row 2 (record { lo = pos 0; hi = pos 0 }) ∷ row 2 (record { lo = pos 1000; hi = pos 1000 }) ∷ row 3 (record { lo = pos 0; hi = pos 1000 }) ∷ []
  pub all_numbers_read : read_row (row_line all_numbers_row) ≡ all_numbers_row
  pub all_numbers : row_line all_numbers_row ≡ bytes "r15 -9223372036854775808.. 9223372036854775807 18446744073709551616     "
  -- a register of a hold has no line, and a sheet without lines has none
  pub held : page held_sheet ≡ text []
  pub nothing : page nothing_sheet ≡ text []
  -- sheets that do not pass
  pub zero : page zero_sheet ≡ finding zero_divisor 1
  pub broken : page broken_sheet ≡ finding hold_broken 2
  pub spaced : page spaced_sheet ≡ refusal ungrammatical 2
  -- two bytes into three, into two, and into one
  pub roomy : (text_returns (text (1 ∷ 2 ∷ [])) (7 ∷ 8 ∷ 9 ∷ []) ≡ record { number = 0; line = 0; count = 2 }) × (text_leaves (text (1 ∷ 2 ∷ [])) (7 ∷ 8 ∷ 9 ∷ []) ≡ 1 ∷ 2 ∷ 9 ∷ [])
  pub exact : (text_returns (text (1 ∷ 2 ∷ [])) (7 ∷ 8 ∷ []) ≡ record { number = 0; line = 0; count = 2 }) × (text_leaves (text (1 ∷ 2 ∷ [])) (7 ∷ 8 ∷ []) ≡ 1 ∷ 2 ∷ [])
  pub short : (text_returns (text (1 ∷ 2 ∷ [])) (7 ∷ []) ≡ record { number = no_room; line = 0; count = 0 }) × (text_leaves (text (1 ∷ 2 ∷ [])) (7 ∷ []) ≡ 7 ∷ [])
  -- a finding comes before the want of room
  pub stops : (text_returns (finding hold_broken 2) [] ≡ record { number = hold_broken; line = 2; count = 0 }) × (text_leaves (finding hold_broken 2) (7 ∷ []) ≡ 7 ∷ [])
