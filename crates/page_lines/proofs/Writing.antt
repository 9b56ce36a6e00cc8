-- What the parts of a line come to, in the words of the code. Assumes nothing.
use lib.IntN.{ℤ, pos, ◌-ℤ◌, ◌+ℤ◌}
use lib.ListN.{length, drop, length-append}
use mathlib.Core.Path.{◌≡◌, refl, sym, ap, subst, ◌∙◌}
use mathlib.Core.List.{List, [], ◌∷◌, ◌++◌, append_assoc}
use Prim.Native.Nat.{ℕ, ◌+◌, ◌-◌, ◌*◌, ◌/◌, ◌≤◌, ◌<◌}
use native.Mathlib.Omega.{arith}
use Rattle.std.specs.Simd.{first_chunks}
use Rattle.meaning.specs.Bytes.{bytes}
use Rattle.meaning.specs.Interval.{Proper}
use Rattle.meaning.specs.NumberIntervals.{Set, Normal, intervals}
use Rattle.meaning.specs.Listing.{digits_before, decimal, decimal_z}
use Rattle.laws.proofs.Decimals.{decimal_most}
use Rattle.meaning.specs.Page.{member_count, row, set_rows, blanks, left_set, right_set, row_line, rows_text}
use Rattle.writer.specs.declared.Writer.{Writer}
use Rattle.writer.specs.Written.{Fits, Appends}
use Rattle.writer.proofs.Partly.{partly_start}
use Rattle.writer.proofs.Pairs.{first, second, pair_at, IsEach, Paired, pair_fits, pair_next, pairs_done}
use Rattle.page_lines.specs.Parts.{interval_line}
use Rattle.laws.proofs.PageColumns.{length_line}
use Rattle.laws.proofs.PageReadBack.{length_rows, length_text, row_roomy, set_roomy}

-- ---- a text in columns

pub right_is : (s : List ℕ) → blanks (20 - length s) ++ s ≡ right_set 20 s
unfolding right_set
right_is s = refl

pub left_is : (s : List ℕ) (k : ℕ) → k ≡ 3 - length s → s ++ blanks k ≡ left_set 3 s
unfolding left_set
left_is s k e = ap (λ (j : ℕ). s ++ blanks j) e

pub name_most : (r : ℕ) → r < 100 → length (bytes "r" ++ decimal r) ≤ 3
name_most r h = omega (arith, decimal_most 2 r (omega arith) (omega arith))

-- ---- the number of members

pub most_members : (lo hi : ℤ) (d : ℕ) → d ≡ 18446744073709551615 → pos d ≡ hi -ℤ lo → bytes "18446744073709551616" ≡ decimal_z (member_count lo hi)
unfolding decimal_z decimal digits_before
most_members lo hi d e f = ap (λ (z : ℤ). decimal_z (z +ℤ pos 1)) (sym (ap pos e) ∙ f)

pub fewer_members : (lo hi : ℤ) (d : ℕ) → pos d ≡ hi -ℤ lo → decimal (d + 1) ≡ decimal_z (member_count lo hi)
unfolding decimal_z
fewer_members lo hi d f = ap (λ (z : ℤ). decimal_z (z +ℤ pos 1)) f

-- ---- the lines of a set

pub line_73 : (r : ℕ) → r < 100 → {lo hi : ℤ} → Proper lo hi → length (interval_line r lo hi) ≡ 73
unfolding interval_line
line_73 r h {lo} {hi} p =
    length-append (row_line (row r (record { lo = lo; hi = hi }))) (bytes "\n")
    ∙ omega (arith, length_line (row r (record { lo = lo; hi = hi })) (row_roomy r (record { lo = lo; hi = hi }) h p))

pub line_is : (r : ℕ) (lo hi : ℤ)
    → left_set 3 (bytes "r" ++ decimal r) ++ (bytes " " ++ (right_set 20 (decimal_z lo) ++ (bytes ".." ++ (right_set 20 (decimal_z hi) ++ (bytes " " ++ (right_set 20 (decimal_z (member_count lo hi)) ++ bytes "     \n"))))))
    ≡ interval_line r lo hi
unfolding interval_line row_line
line_is r lo hi = simp append_assoc

pub set_size : (r : ℕ) (s : Set) → r < 100 → Normal s → length (rows_text (set_rows r s)) ≡ 73 * length s
set_size r s h n = length_text (set_rows r s) (set_roomy r s h n) ∙ ap (λ (k : ℕ). 73 * k) (length_rows r s)

-- ---- line by line

abbrev pub lines_of : ℕ → List ℤ → List ℕ
lines_of r l = rows_text (set_rows r (intervals l))

pub each_line : (r : ℕ) → IsEach (lines_of r) (interval_line r)
unfolding intervals set_rows rows_text interval_line
each_line r = record { none = none; more = λ lo hi l. sym (append_assoc (row_line (row r (record { lo = lo; hi = hi }))) (bytes "\n") (lines_of r l)) }
  where
    none : (l : List ℤ) → length l < 2 → lines_of r l ≡ []
    none [] h = refl
    none (a ∷ []) h = refl
    none (a ∷ b ∷ l) h = absurd (omega arith)

-- with k of the intervals written, the others are normal too
pub record Lined (r : ℕ) (ends : List ℤ) (k : ℕ) (new old : Writer ℕ) : Type 0 where
  pub small : r < 100
  pub normal : Normal (intervals (drop (2 * k) ends))
  pub room : Fits (lines_of r ends) old
  pub paired : Paired (lines_of r) ends k new old

pub lined_start : (r : ℕ) (ends : List ℤ) (w : Writer ℕ) → r < 100 → Normal (intervals ends) → w.len + 73 * length (intervals ends) ≤ length w.room.now → Lined r ends 0 w w
lined_start r ends w h n k =
    let f : Fits (lines_of r ends) w = omega (arith, set_size r (intervals ends) h n) in
    record { small = h; normal = n; room = f; paired = partly_start (lines_of r ends) w f }

module _ {r : ℕ} {ends : List ℤ} {k : ℕ} {new old : Writer ℕ} (l : Lined r ends k new old) where
  module _ {x : List (List ℤ)} (e : x ≡ first_chunks 2 (length ends / 2) ends) (n : length x ≡ length ends / 2) (h : k < length x) {lo hi : ℤ} (is_lo : lo ≡ first x k) (is_hi : hi ≡ second x k) where
    turned : Normal (intervals (lo ∷ hi ∷ drop (2 * (k + 1)) ends))
    turned = subst (λ (d : List ℤ). Normal (intervals d)) (pair_at ends k e (omega arith) ∙ sym (λ i. is_lo i ∷ is_hi i ∷ drop (2 * (k + 1)) ends)) l.normal

    pub lined_proper : Proper lo hi
    unfolding intervals
    lined_proper = turned.0

    pub lined_room : new.len + 73 ≤ length new.room.now
    lined_room = omega (arith, pair_fits (each_line r) ends k l.paired e n h is_lo is_hi l.room, line_73 r l.small lined_proper)

    pub lined_next : {m : Writer ℕ} → Appends (interval_line r lo hi) m new → Lined r ends (k + 1) m old
    unfolding intervals
    lined_next w = record { small = l.small; normal = turned.2; room = l.room; paired = pair_next (each_line r) ends k l.paired e n h is_lo is_hi w }

  pub lined_done : length ends / 2 ≤ k → Appends (lines_of r ends) new old
  lined_done h = pairs_done (each_line r) ends k l.paired h
