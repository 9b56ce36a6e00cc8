-- One line of the page: 72 characters, and each column reads back. Assumes nothing.
use lib.Dec.{leb}
use lib.IntN.{ℤ, pos, negsuc, nat_abs}
use lib.ListN.{length, take, drop, length-append, length-replicate}
use lib.Seq.{take_at, drop-append-add}
use mathlib.Core.Path.{◌≡◌, refl, sym, ap, ◌∙◌}
use mathlib.Core.List.{List, [], ◌∷◌, ◌++◌}
use Prim.Native.Nat.{ℕ, zero, suc, ◌+◌, ◌-◌, ◌^◌, ◌≤◌, ◌<◌}
use native.Mathlib.Omega.{arith}
use borrow.Author.Tests.{leb-true, ne_eqb}
use Rattle.meaning.specs.Lists.{All}
use Rattle.meaning.specs.Bytes.{bytes}
use Rattle.meaning.specs.Number.{InRange}
use Rattle.meaning.specs.Reading.{number}
use Rattle.meaning.specs.Listing.{decimal, decimal_z}
use Rattle.laws.proofs.Integers.{and_both, if_no, le_in, abs_parts, one_part}
use Rattle.laws.proofs.All.{all_map, all_append, all_replicate}
use Rattle.laws.proofs.Decimals.{Digit, decimal_read, decimal_digits, decimal_most, decimal_some, decimal_z_read, decimal_z_most}
use Rattle.meaning.specs.Page.{Row, blanks, left_set, right_set, row_line}
use Rattle.meaning.specs.PageReadBack.{columns, word, after_blanks, numeral, read_row, Ruled}

-- ---- characters: past the blank, or the blank itself

abbrev pub Solid : ℕ → Type 0
Solid b = 33 ≤ b

abbrev pub Shown : ℕ → Type 0
Shown b = 32 ≤ b

solid_shown : (s : List ℕ) → All Solid s → All Shown s
solid_shown s p = all_map Solid Shown (λ b h. omega arith) s p

digit_solid : (b : ℕ) → Digit b → Solid b
digit_solid b d = let k = leb-true 48 b (and_both (leb 48 b) (leb b 57) d).0 in omega arith

decimal_solid : (n : ℕ) → All Solid (decimal n)
decimal_solid n = all_map Digit Solid digit_solid (decimal n) (decimal_digits n)

decimal_z_solid : (z : ℤ) → All Solid (decimal_z z)
unfolding decimal_z
decimal_z_solid (pos n) = decimal_solid n
decimal_z_solid (negsuc n) = (omega arith, decimal_solid (suc n))

decimal_z_some : (z : ℤ) → 1 ≤ length (decimal_z z)
unfolding decimal_z
decimal_z_some (pos n) = decimal_some n
decimal_z_some (negsuc n) = omega arith

-- ---- a text set in columns

pub length_left : (k : ℕ) (s : List ℕ) → length s ≤ k → length (left_set k s) ≡ k
unfolding left_set
length_left k s h = length-append s (blanks (k - length s)) ∙ omega (arith, length-replicate {A = ℕ} (k - length s) 32)

pub length_right : (k : ℕ) (s : List ℕ) → length s ≤ k → length (right_set k s) ≡ k
unfolding right_set
length_right k s h = length-append (blanks (k - length s)) s ∙ omega (arith, length-replicate {A = ℕ} (k - length s) 32)

shown_left : (k : ℕ) (s : List ℕ) → All Solid s → All Shown (left_set k s)
unfolding left_set
shown_left k s p = all_append Shown s (blanks (k - length s)) (solid_shown s p) (all_replicate Shown (k - length s) 32 (omega arith))

shown_right : (k : ℕ) (s : List ℕ) → All Solid s → All Shown (right_set k s)
unfolding right_set
shown_right k s p = all_append Shown (blanks (k - length s)) s (all_replicate Shown (k - length s) 32 (omega arith)) (solid_shown s p)

-- ---- and read back

word_blanks : (n : ℕ) → word (blanks n) ≡ []
unfolding word
word_blanks zero = refl
word_blanks (suc n) = refl

word_front : (s : List ℕ) (n : ℕ) → All Solid s → word (s ++ blanks n) ≡ s
unfolding word
word_front [] n p = word_blanks n
word_front (b ∷ s) n p =
    sym (if_no [] (b ∷ word (s ++ blanks n)) (ne_eqb b 32 (λ e. omega (arith, p.0)))) ∙ ap (λ (l : List ℕ). b ∷ l) (word_front s n p.1)

pub word_left : (k : ℕ) (s : List ℕ) → All Solid s → word (left_set k s) ≡ s
unfolding left_set
word_left k s p = word_front s (k - length s) p

blanks_skip : (n : ℕ) (s : List ℕ) → after_blanks (blanks n ++ s) ≡ after_blanks s
unfolding after_blanks
blanks_skip zero s = refl
blanks_skip (suc n) s = blanks_skip n s

solid_stays : (s : List ℕ) → All Solid s → after_blanks s ≡ s
unfolding after_blanks
solid_stays [] p = refl
solid_stays (b ∷ s) p = sym (if_no (after_blanks s) (b ∷ s) (ne_eqb b 32 (λ e. omega (arith, p.0))))

pub blanks_right : (k : ℕ) (s : List ℕ) → All Solid s → after_blanks (right_set k s) ≡ s
unfolding right_set
blanks_right k s p = blanks_skip (k - length s) s ∙ solid_stays s p

-- ---- a row whose numbers have room in their columns

pub record Roomy (w : Row) : Type 0 where
  pub name : w.register < 100
  pub start_fits : InRange w.start
  pub end_fits : InRange w.end
  pub count : ℕ
  pub members_is : w.members ≡ pos count
  pub members_fit : count < 10 ^ 20

range_small : (z : ℤ) → InRange z → nat_abs z < 10 ^ 20
range_small z h = omega (arith, abs_parts z, one_part z, le_in h.above, le_in h.below)

-- past a text of n characters
past : (x y : List ℕ) (n k m : ℕ) → length x ≡ n → m ≡ n + k → drop m (x ++ y) ≡ drop k y
past x y n k m e f = ap (λ (j : ℕ). drop j (x ++ y)) (let g : m ≡ length x + k = omega arith in g) ∙ drop-append-add x y k

module _ (w : Row) (h : Roomy w) where
  abbrev name_text : List ℕ
  name_text = bytes "r" ++ decimal w.register

  name_solid : All Solid name_text
  name_solid = (omega arith, decimal_solid w.register)

  pub length_name : length (left_set 3 name_text) ≡ 3
  length_name = length_left 3 name_text (omega (arith, decimal_most 2 w.register (omega arith) (omega (arith, h.name))))

  pub length_start : length (right_set 20 (decimal_z w.start)) ≡ 20
  length_start = length_right 20 (decimal_z w.start) (decimal_z_most w.start h.start_fits)

  pub length_end : length (right_set 20 (decimal_z w.end)) ≡ 20
  length_end = length_right 20 (decimal_z w.end) (decimal_z_most w.end h.end_fits)

  members_most : length (decimal_z w.members) ≤ 20
  unfolding decimal_z
  members_most = rw h.members_is (decimal_most 20 h.count (omega arith) h.members_fit)

  pub length_members : length (right_set 20 (decimal_z w.members)) ≡ 20
  length_members = length_right 20 (decimal_z w.members) members_most

  -- what stands from column 5, 27, 48 and 68 on
  abbrev from_5 : List ℕ
  from_5 = right_set 20 (decimal_z w.start) ++ (bytes ".." ++ (right_set 20 (decimal_z w.end) ++ (bytes " " ++ (right_set 20 (decimal_z w.members) ++ bytes "     "))))

  abbrev from_27 : List ℕ
  from_27 = right_set 20 (decimal_z w.end) ++ (bytes " " ++ (right_set 20 (decimal_z w.members) ++ bytes "     "))

  abbrev from_48 : List ℕ
  from_48 = right_set 20 (decimal_z w.members) ++ bytes "     "

  drop_4 : (k m : ℕ) → m ≡ 4 + k → drop m (row_line w) ≡ drop k from_5
  unfolding row_line
  drop_4 k m e = past (left_set 3 name_text) (bytes " " ++ from_5) 3 (suc k) m length_name (omega arith)

  drop_24 : (k m : ℕ) → m ≡ 24 + k → drop m (row_line w) ≡ drop k (bytes ".." ++ from_27)
  drop_24 k m e = drop_4 (20 + k) m (omega arith) ∙ past (right_set 20 (decimal_z w.start)) (bytes ".." ++ from_27) 20 k (20 + k) length_start refl

  drop_46 : (k m : ℕ) → m ≡ 46 + k → drop m (row_line w) ≡ drop k (bytes " " ++ from_48)
  drop_46 k m e = drop_24 (suc (suc (20 + k))) m (omega arith) ∙ past (right_set 20 (decimal_z w.end)) (bytes " " ++ from_48) 20 k (20 + k) length_end refl

  drop_67 : (k m : ℕ) → m ≡ 67 + k → drop m (row_line w) ≡ drop k (bytes "     ")
  drop_67 k m e = drop_46 (suc (20 + k)) m (omega arith) ∙ past (right_set 20 (decimal_z w.members)) (bytes "     ") 20 k (20 + k) length_members refl

  pub length_line : length (row_line w) ≡ 72
  unfolding row_line
  length_line = omega (
    arith,
    length-append (left_set 3 name_text) (bytes " " ++ from_5),
    length-append (right_set 20 (decimal_z w.start)) (bytes ".." ++ from_27),
    length-append (right_set 20 (decimal_z w.end)) (bytes " " ++ from_48),
    length-append (right_set 20 (decimal_z w.members)) (bytes "     "),
    length_name,
    length_start,
    length_end,
    length_members,
  )

  first_name : columns 1 3 (row_line w) ≡ left_set 3 name_text
  unfolding row_line
  first_name = take_at (left_set 3 name_text) (bytes " " ++ from_5) 3 length_name

  first_start : columns 5 24 (row_line w) ≡ right_set 20 (decimal_z w.start)
  first_start = ap (take 20) (drop_4 0 4 refl) ∙ take_at (right_set 20 (decimal_z w.start)) (bytes ".." ++ from_27) 20 length_start

  first_end : columns 27 46 (row_line w) ≡ right_set 20 (decimal_z w.end)
  first_end = ap (take 20) (drop_24 2 26 refl) ∙ take_at (right_set 20 (decimal_z w.end)) (bytes " " ++ from_48) 20 length_end

  first_members : columns 48 67 (row_line w) ≡ right_set 20 (decimal_z w.members)
  first_members = ap (take 20) (drop_46 1 47 refl) ∙ take_at (right_set 20 (decimal_z w.members)) (bytes "     ") 20 length_members

  pub line_ruled : Ruled (row_line w)
  unfolding row_line left_set
  line_ruled = record {
    width = length_line;
    name = refl;
    after_name = ap (take 1) (past (left_set 3 name_text) (bytes " " ++ from_5) 3 0 3 length_name refl);
    points = ap (take 2) (drop_24 0 24 refl);
    after_end = ap (take 1) (drop_46 0 46 refl);
    rest = ap (take 5) (drop_67 0 67 refl);
  }

  -- no character is an LF
  pub line_shown : All Shown (row_line w)
  unfolding row_line
  line_shown =
      let b : All Shown (bytes " ") = (omega arith, tt) in
      let p : All Shown (bytes "..") = (omega arith, (omega arith, tt)) in
      let f : All Shown (bytes "     ") = (omega arith, (omega arith, (omega arith, (omega arith, (omega arith, tt))))) in
      let m = all_append Shown (right_set 20 (decimal_z w.members)) (bytes "     ") (shown_right 20 (decimal_z w.members) (decimal_z_solid w.members)) f in
      let e = all_append Shown (right_set 20 (decimal_z w.end)) (bytes " " ++ from_48) (shown_right 20 (decimal_z w.end) (decimal_z_solid w.end)) (b.0, m) in
      let s = all_append Shown (right_set 20 (decimal_z w.start)) (bytes ".." ++ from_27) (shown_right 20 (decimal_z w.start) (decimal_z_solid w.start)) (p.0, (p.1.0, e)) in
      all_append Shown (left_set 3 name_text) (bytes " " ++ from_5) (shown_left 3 name_text name_solid) (b.0, s)

  members_small : nat_abs w.members < 10 ^ 20
  members_small = rw h.members_is h.members_fit

  -- the line reads as its row
  pub line_reads : read_row (row_line w) ≡ w
  unfolding read_row
  line_reads i = record {
    register = (ap (λ (l : List ℕ). number 0 (drop 1 (word l))) first_name ∙ ap (λ (l : List ℕ). number 0 (drop 1 l)) (word_left 3 name_text name_solid) ∙ decimal_read w.register (omega (arith, h.name))) i;
    start = (ap (λ (l : List ℕ). numeral (after_blanks l)) first_start ∙ ap numeral (blanks_right 20 (decimal_z w.start) (decimal_z_solid w.start)) ∙ decimal_z_read w.start (range_small w.start h.start_fits)) i;
    end = (ap (λ (l : List ℕ). numeral (after_blanks l)) first_end ∙ ap numeral (blanks_right 20 (decimal_z w.end) (decimal_z_solid w.end)) ∙ decimal_z_read w.end (range_small w.end h.end_fits)) i;
    members = (ap (λ (l : List ℕ). numeral (after_blanks l)) first_members ∙ ap numeral (blanks_right 20 (decimal_z w.members) (decimal_z_solid w.members)) ∙ decimal_z_read w.members members_small) i;
  }
