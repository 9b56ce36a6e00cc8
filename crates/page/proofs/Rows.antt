-- The rows of the registers that are shown: how many there are, and their text. Assumes nothing.
use mathlib.Core.Path.{◌≡◌, refl, sym, ap, ◌∙◌}
use mathlib.Core.Bool.{true, false}
use mathlib.Core.List.{List, [], ◌∷◌, ◌++◌, append_assoc}
use Prim.Native.Nat.{ℕ, zero, suc, ◌+◌, ◌-◌, ◌*◌, ◌/◌, ◌≤◌, ◌<◌}
use native.Mathlib.Omega.{arith}
use lib.IntN.{ℤ}
use lib.ListN.{length, get_or, length-append}
use Rattle.std.specs.Prelude.{Option, Some, None}
use Rattle.meaning.specs.Lists.{All}
use Rattle.meaning.specs.Bytes.{LF}
use Rattle.meaning.specs.NumberIntervals.{Set, Normal, flat, intervals}
use Rattle.meaning.specs.Sheet.{registers}
use Rattle.meaning.specs.Check.{at, interval_limit}
use Rattle.meaning.specs.Page.{Row, set_rows, row_line, rows_text}
use Rattle.laws.proofs.All.{all_append}
use Rattle.laws.proofs.Flat.{intervals_flat, length_flat}
use Rattle.laws.proofs.PageColumns.{Roomy}
use Rattle.laws.proofs.PageReadBack.{length_rows, length_text, set_roomy}
use Rattle.set_values.specs.declared.form_set.FormSet.{FormSet}
use Rattle.set_values.specs.Value.{set_of, sets_of}
use Rattle.listed.specs.declared.Shown.{Shown}
use Rattle.listed.specs.Showing.{if_shown, shown, piece, pieces, whole}
use Rattle.listed.proofs.Showing.{pieces_step, pieces_none}

-- the text of a register's rows
abbrev pub lines_of : ℕ → Set → List ℕ
lines_of r s = rows_text (set_rows r s)

-- ---- the text of all rows

pub text_append : (a b : List Row) → rows_text (a ++ b) ≡ rows_text a ++ rows_text b
unfolding rows_text
text_append [] b = refl
text_append (w ∷ a) b = ap (λ (l : List ℕ). row_line w ++ LF ∷ l) (text_append a b) ∙ sym (append_assoc (row_line w) (LF ∷ rows_text a) (rows_text b))

piece_text : (r : ℕ) (o : Option Set) → rows_text (piece set_rows r o) ≡ piece lines_of r o
unfolding rows_text
piece_text r (Some s) = refl
piece_text r None = refl

pieces_text : (s : Shown) (n r : ℕ) → rows_text (pieces set_rows s r n) ≡ pieces lines_of s r n
unfolding rows_text pieces
pieces_text s zero r = refl
pieces_text s (suc n) r =
    text_append (piece set_rows r (shown s r)) (pieces set_rows s (suc r) n) ∙ (λ i. piece_text r (shown s r) i ++ pieces_text s n (suc r) i)

pub whole_text : (s : Shown) → rows_text (whole set_rows s) ≡ whole lines_of s
whole_text s = pieces_text s registers 0

-- ---- how long it is

piece_roomy : (s : Shown) (r : ℕ) → r < registers → All Roomy (piece set_rows r (shown s r))
piece_roomy s r h = elim (get_or s.marks r false) as (λ b. All Roomy (piece set_rows r (if_shown b (at (sets_of s.registers) r)))) [
  | true ↦ set_roomy r (at (sets_of s.registers) r) (omega arith) (s.registers.slots.each r).normal
  | false ↦ tt
]

pieces_roomy : (s : Shown) (n r : ℕ) → r + n ≤ registers → All Roomy (pieces set_rows s r n)
unfolding pieces
pieces_roomy s zero r h = tt
pieces_roomy s (suc n) r h = all_append Roomy (piece set_rows r (shown s r)) (pieces set_rows s (suc r) n) (piece_roomy s r (omega arith)) (pieces_roomy s n (suc r) (omega arith))

pub page_size : (s : Shown) → length (whole lines_of s) ≡ 73 * length (whole set_rows s)
page_size s = ap length (sym (whole_text s)) ∙ length_text (whole set_rows s) (pieces_roomy s registers 0 (omega arith))

-- ---- of one register

module _ (set : FormSet) where
  pub set_few : length (set_of set) ≤ interval_limit
  set_few = let h = set.held in omega (arith, h.counted, h.few)

  module _ {ends : List ℤ} (e : ends ≡ flat (set_of set)) where
    pub ends_are : intervals ends ≡ set_of set
    ends_are = ap intervals e ∙ intervals_flat (set_of set)

    pub ends_normal : Normal (intervals ends)
    ends_normal = rw ends_are set.held.normal

    pub ends_count : (r : ℕ) → length ends / 2 ≡ length (set_rows r (set_of set))
    ends_count r = omega (arith, ap length e, length_flat (set_of set), length_rows r (set_of set))

    pub ends_fit : (r : ℕ) → r < registers → 73 * length (intervals ends) ≡ length (lines_of r (set_of set))
    ends_fit r h = omega (arith, ap length ends_are, length_rows r (set_of set), length_text (set_rows r (set_of set)) (set_roomy r (set_of set) (omega arith) set.held.normal))

-- ---- counting

-- with the rows of the registers below r counted
pub record Counted (s : Shown) (r n : ℕ) : Type 0 where
  pub few : n ≤ interval_limit * r
  pub same : n + length (pieces set_rows s r (registers - r)) ≡ length (whole set_rows s)

module _ (s : Shown) (r : ℕ) {n : ℕ} (k : Counted s r n) where
  pub counted_next : r < registers → {o : Option Set} → o ≡ shown s r → (m : ℕ) → m ≤ interval_limit → m ≡ length (piece set_rows r o) → {n' : ℕ} → n' ≡ n + m → Counted s (r + 1) n'
  counted_next h e m few p q = record {
    few = omega (arith, k.few);
    same = omega (arith, k.same, ap length (pieces_step set_rows s r h), length-append (piece set_rows r (shown s r)) (pieces set_rows s (r + 1) (registers - (r + 1))), ap (λ (o : Option Set). length (piece set_rows r o)) e);
  }

  pub counted_all : registers ≤ r → n ≡ length (whole set_rows s)
  counted_all h = omega (arith, k.same, ap length (pieces_none set_rows s r h))
