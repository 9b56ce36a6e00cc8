-- Going through the lines of a text that is a sheet, line by line: what a run or a check of its bytes needs. Assumes nothing.
use mathlib.Core.Path.{◌≡◌, refl}
use mathlib.Core.List.{List, [], ◌∷◌}
use Prim.Native.Nat.{ℕ, suc}
use Rattle.meaning.specs.Outcome.{ok}
use Rattle.meaning.specs.Sheet.{Line}
use Rattle.meaning.specs.Reading.{read_line}
use Rattle.meaning.specs.Text.{lines, Seen, nothing_seen, sheet, read_one, read_lines, read}
use Rattle.laws.proofs.Cut.{then_sheet, one_read, reads}

-- each of the lines reads as the one beside it
abbrev pub Each : List (List ℕ) → List Line → Type 0
Each [] [] = Unit {0}
Each [] (l ∷ ls) = ⊥
Each (b ∷ bs) [] = ⊥
Each (b ∷ bs) (l ∷ ls) = (read_line b ≡ ok l) × Each bs ls

each_read : (n : ℕ) (s : Seen) (bs : List (List ℕ)) {ls : List Line} → read_lines n s bs ≡ sheet ls → Each bs ls
unfolding read_lines
each_read n s [] {ls} e = let h : ls ≡ [] = cc in rw h tt
each_read n s (b ∷ bs) {ls} e =
    let h = then_sheet n (read_one s b) (λ s'. read_lines (suc n) s' bs) e in
    rw h.4 ((one_read s b h.0 h.2).0, each_read (suc n) h.0.seen bs h.3)

pub each_sheet : (t : List ℕ) {ls : List Line} → read t ≡ sheet ls → Each (lines t) ls
each_sheet t e = each_read 1 nothing_seen (lines t) (reads t e).by_lines

-- the line that is read next, and those behind it
pub record Next (b : List ℕ) (bs : List (List ℕ)) (ls : List Line) : Type 0 where
  pub line : Line
  pub left : List Line
  pub lines_are : ls ≡ line ∷ left
  pub reads_it : read_line b ≡ ok line
  pub each : Each bs left

pub each_next : (b : List ℕ) (bs : List (List ℕ)) (ls : List Line) → Each (b ∷ bs) ls → Next b bs ls
each_next b bs [] h = absurd h
each_next b bs (l ∷ ls) h = record { line = l; left = ls; lines_are = refl; reads_it = h.0; each = h.1 }

pub each_done : (ls : List Line) → Each [] ls → ls ≡ []
each_done [] h = refl
each_done (l ∷ ls) h = absurd h
