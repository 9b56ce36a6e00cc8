-- The layout of the registers' sets: where a register's slot stands in it, and what it is after that slot took another set. Assumes nothing.
use mathlib.Core.Path.{◌≡◌, refl, sym, ap, ◌∙◌}
use mathlib.Core.List.{List, [], ◌∷◌, ◌++◌, append_assoc, append-nil}
use Prim.Native.Nat.{ℕ, zero, suc, ◌+◌, ◌-◌, ◌*◌, ◌≤◌, ◌<◌}
use native.Mathlib.Omega.{arith}
use lib.IntN.{ℤ, pos, nat_abs}
use mir.Syntax.{w64}
use mir.Facts.{to_z-of_z}
use Rattle.laws.proofs.Machine.{rd}
use lib.ListN.{length, get_or, set, take, drop, replicate, length-replicate, replicate-append-replicate}
use Rattle.std.specs.Prelude.{slice_index_or, slice_set}
use lib.Seq.{set_at, take_at, drop_at, drop-cons, drop-length}
use native.Mathlib.Numerals.{add-one}
use Rattle.laws.proofs.Integers.{zarith}
use Rattle.meaning.specs.Number.{MIN, MAX}
use borrow.Rule.Slice.PartMut.{mid_of, put_mid}
use Rattle.std.proofs.lemmas.List.{length-append, set_split, take-append-drop, length-set}
use Rattle.meaning.specs.Lists.{All}
use Rattle.meaning.specs.Interval.{only, span}
use Rattle.meaning.specs.NumberIntervals.{Set, flat}
use Rattle.meaning.specs.Sheet.{registers}
use Rattle.meaning.specs.Check.{at, slot, layout, sets_need, start_sets}
use Rattle.laws.proofs.CheckSets.{zero_normal}
use Rattle.laws.proofs.All.{all_from, all_get, all_map, all_set, all_replicate}
use Rattle.laws.proofs.Flat.{length_flat}
use Rattle.laws.proofs.Slots.{Short, length_slot, length_layout, layout_back}
use Rattle.set_values.specs.Held.{padded, shown, Held}
use Rattle.set_values.specs.Slots.{sets_in, Sized, Slots}

-- ---- slots in a layout

-- the prover's words for register r's slot, for the whole with another in its place, and for the count that the machine reads in it
abbrev slot_at : ℕ → List ℤ → List ℤ
slot_at r l = mid_of (33 * r) (33 * (r + 1) - 33 * r) l

abbrev with_slot : ℕ → List ℤ → List ℤ → List ℤ
with_slot r l new = put_mid (33 * r) (33 * (r + 1) - 33 * r) l new

abbrev count_at : ℕ → List ℤ → ℤ
count_at r l = rd (slice_index_or (slot_at r l) 0 (pos 0))

slot_long : (r : ℕ) → 33 * (r + 1) - 33 * r ≡ 33
slot_long r = omega arith

layout_append : (S T : List Set) → layout (S ++ T) ≡ layout S ++ layout T
unfolding layout
layout_append [] T = refl
layout_append (s ∷ S) T = ap (λ (l : List ℤ). slot s ++ l) (layout_append S T) ∙ sym (append_assoc (slot s) (layout S) (layout T))

front_length : (S : List Set) (r : ℕ) → All Short S → r ≤ length S → length (layout (take r S)) ≡ 33 * r
unfolding layout
front_length S zero h k = refl
front_length [] (suc r) h k = absurd (omega arith)
front_length (s ∷ S) (suc r) h k = length-append (slot s) (layout (take r S)) ∙ omega (arith, length_slot s h.0, front_length S r h.1 (omega arith))

module _ (S : List Set) (r : ℕ) (h : All Short S) where
  halves : layout S ≡ layout (take r S) ++ layout (drop r S)
  halves = ap layout (sym (take-append-drop r S)) ∙ layout_append (take r S) (drop r S)

  module _ (k : r < length S) where
    front : take (33 * r) (layout S) ≡ layout (take r S)
    front = ap (take (33 * r)) halves ∙ take_at (layout (take r S)) (layout (drop r S)) (33 * r) (front_length S r h (omega arith))

    rest : drop (33 * r) (layout S) ≡ slot (at S r) ++ layout (drop (suc r) S)
    unfolding layout
    rest =
        ap (drop (33 * r)) halves
        ∙ drop_at (layout (take r S)) (layout (drop r S)) (33 * r) (front_length S r h (omega arith))
        ∙ ap layout (drop-cons S r (only (pos 0)) k)

    short : Short (at S r)
    short = all_get Short S r (only (pos 0)) (omega arith) h

    -- register r's slot
    slot_read : take 33 (drop (33 * r) (layout S)) ≡ slot (at S r)
    slot_read = ap (take 33) rest ∙ take_at (slot (at S r)) (layout (drop (suc r) S)) 33 (length_slot (at S r) short)

    -- after it took another set
    slot_put : (s : Set) → take (33 * r) (layout S) ++ (slot s ++ drop 33 (drop (33 * r) (layout S))) ≡ layout (set S r s)
    unfolding layout
    slot_put s =
        (λ i. front i ++ (slot s ++ (ap (drop 33) rest ∙ drop_at (slot (at S r)) (layout (drop (suc r) S)) 33 (length_slot (at S r) short)) i))
        ∙ sym (layout_append (take r S) (s ∷ drop (suc r) S))
        ∙ ap layout (sym (set_split S r s k))

-- ---- numbers that are a layout of such sets show these

next_slot : (s : Set) (S : List Set) → Short s → drop 33 (layout (s ∷ S)) ≡ layout S
unfolding layout
next_slot s S h = drop_at (slot s) (layout S) 33 (length_slot s h)

sets_back : (S : List Set) → All Short S → sets_in (length S) (layout S) ≡ S
unfolding sets_in
sets_back [] h = refl
sets_back (s ∷ S) h = λ i. layout_back (s ∷ S) 0 h (omega arith) i ∷ (ap (sets_in (length S)) (next_slot s S h.0) ∙ sets_back S h.1) i

sets_length : (n : ℕ) (l : List ℤ) → length (sets_in n l) ≡ n
unfolding sets_in
sets_length zero l = refl
sets_length (suc n) l = ap suc (sets_length n (drop 33 l))

zero_sized : Sized (only (pos 0))
zero_sized = record { normal = zero_normal; filled = omega arith; few = omega arith }

shorts : (S : List Set) → All Sized S → All Short S
shorts S h = all_map Sized Short (λ s z. z.few) S h

module _ {l : List ℤ} (S : List Set) (n : length S ≡ registers) (h : All Sized S) (e : l ≡ layout S) where
  sets_are : sets_in registers l ≡ S
  sets_are = (λ i. sets_in (sym n i) (e i)) ∙ sets_back S (shorts S h)

  pub slots : Slots l
  slots = record { is = e ∙ ap layout (sym sets_are); each = rw sets_are (λ r. all_get Sized S r (only (pos 0)) zero_sized h) }

-- ---- a slot written and read

slot_count : (s : Set) {x : List ℤ} → x ≡ slot s → slice_index_or x 0 (pos 0) ≡ pos (length s)
unfolding slot
slot_count s e = ap (λ (l : List ℤ). slice_index_or l 0 (pos 0)) e

slot_ends : (s : Set) {x : List ℤ} {n : ℕ} → x ≡ slot s → n ≡ length s → take (1 + 2 * n - 1) (drop 1 x) ≡ flat s
unfolding slot
slot_ends s {x} {n} e m =
    ap (λ (l : List ℤ). take (1 + 2 * n - 1) (drop 1 l)) e
    ∙ take_at (flat s) (replicate (32 - length (flat s)) (pos 0)) (1 + 2 * n - 1) (omega (arith, length_flat s, m))

-- a store at the front and a copy behind it
pub slot_stored : (out : List ℤ) (a : ℤ) {ends : List ℤ} → length out ≡ 33 → put_mid 1 (length (slice_set out 0 a) - 1) (slice_set out 0 a) ends ≡ a ∷ ends
slot_stored [] a n = absurd (omega arith)
slot_stored (x ∷ out) a {ends} n =
    let m : length (x ∷ out) - 1 ≡ length out = omega arith in
    ap (λ (m : ℕ). a ∷ (ends ++ drop m out)) m ∙ ap (λ (l : List ℤ). a ∷ (ends ++ l)) (drop-length out) ∙ ap (λ (l : List ℤ). a ∷ l) (append-nil ends)

pub held_slot : {count : ℕ} {ends : List ℤ} → Held count ends → pos count ∷ ends ≡ slot (shown count ends)
unfolding slot padded
held_slot h = λ i. pos (h.counted i) ∷ h.is i

-- ---- the start

abbrev zeros : ℕ → List ℤ
zeros n = replicate n (pos 0)

abbrev any : Set
any = span MIN MAX

-- the first r registers may hold any number, and the numbers behind them are still 0
abbrev pub started : ℕ → List ℤ
started r = layout (replicate r any) ++ zeros (sets_need - 33 * r)

any_sized : Sized any
any_sized = record { normal = (record { low = omega zarith; ordered = omega zarith; high = omega zarith }, tt, tt); filled = omega arith; few = omega arith }

short_start : (r : ℕ) → length (layout (replicate r any)) ≡ r * 33
short_start r = length_layout (replicate r any) (all_replicate Short r any (omega arith)) ∙ ap (λ (n : ℕ). n * 33) (length-replicate r any)

-- one slot more at the end is one more at the front
slot_last : (r : ℕ) (l : List ℤ) → layout (replicate r any) ++ (slot any ++ l) ≡ layout (replicate (suc r) any) ++ l
unfolding layout
slot_last zero l = ap (λ (x : List ℤ). x ++ l) (sym (append-nil (slot any)))
slot_last (suc r) l =
    append_assoc (slot any) (layout (replicate r any)) (slot any ++ l)
    ∙ ap (λ (x : List ℤ). slot any ++ x) (slot_last r l)
    ∙ sym (append_assoc (slot any) (layout (replicate (suc r) any)) l)

slot_any : (l : List ℤ) → slot any ++ l ≡ pos 1 ∷ MIN ∷ MAX ∷ (zeros 30 ++ l)
unfolding slot flat
slot_any l = refl

-- a store behind two parts
set_behind : (l p : List ℤ) (x : ℤ) (r : List ℤ) (a : ℤ) (n : ℕ) → length l + length p ≡ n → set (l ++ (p ++ (x ∷ r))) n a ≡ l ++ (p ++ (a ∷ r))
set_behind l p x r a n h = ap (λ (q : List ℤ). set q n a) (sym (append_assoc l p (x ∷ r))) ∙ set_at (l ++ p) x r a n (length-append l p ∙ h) ∙ append_assoc l p (a ∷ r)

pub start_more : (r : ℕ) → r < registers → set (set (set (started r) (33 * r) (pos 1)) (33 * r + 1) MIN) (33 * r + 2) MAX ≡ started (r + 1)
start_more r h =
    let n : sets_need - 33 * r ≡ 33 + (sets_need - 33 * (r + 1)) = omega arith in
    let f = layout (replicate r any) in
    let z = zeros (sets_need - 33 * (r + 1)) in
    let e : zeros (sets_need - 33 * r) ≡ pos 0 ∷ pos 0 ∷ pos 0 ∷ (zeros 30 ++ z) = ap zeros n ∙ sym (replicate-append-replicate 33 (sets_need - 33 * (r + 1)) (pos 0)) in
    let s = short_start r in
    ap (λ (l : List ℤ). set (set (set (f ++ l) (33 * r) (pos 1)) (33 * r + 1) MIN) (33 * r + 2) MAX) e
    ∙ ap (λ (l : List ℤ). set (set l (33 * r + 1) MIN) (33 * r + 2) MAX) (set_behind f [] (pos 0) (pos 0 ∷ pos 0 ∷ (zeros 30 ++ z)) (pos 1) (33 * r) (omega (arith, s)))
    ∙ ap (λ (l : List ℤ). set l (33 * r + 2) MAX) (set_behind f (pos 1 ∷ []) (pos 0) (pos 0 ∷ (zeros 30 ++ z)) MIN (33 * r + 1) (omega (arith, s)))
    ∙ set_behind f (pos 1 ∷ MIN ∷ []) (pos 0) (zeros 30 ++ z) MAX (33 * r + 2) (omega (arith, s))
    ∙ ap (λ (l : List ℤ). f ++ l) (sym (slot_any z))
    ∙ slot_last r z
    ∙ ap (λ (m : ℕ). layout (replicate m any) ++ z) (sym (add-one r))

pub start_first : replicate sets_need (pos 0) ≡ started 0
unfolding layout
start_first = refl

pub started_length : (r : ℕ) → r ≤ registers → length (started r) ≡ sets_need
started_length r h =
    let n = length-replicate (sets_need - 33 * r) (pos 0) in
    length-append (layout (replicate r any)) (zeros (sets_need - 33 * r)) ∙ omega (arith, short_start r)

module _ {r : ℕ} {l : List ℤ} (m : r ≡ registers) (e : l ≡ started r) where
  start_last : l ≡ layout start_sets.sets
  start_last = e ∙ ap started m ∙ append-nil (layout (replicate registers any))

  pub start_slots : Slots l
  start_slots = slots (replicate registers any) (length-replicate registers any) (all_replicate Sized registers any any_sized) start_last

  pub start_is : sets_in registers l ≡ start_sets.sets
  start_is = sets_are (replicate registers any) (length-replicate registers any) (all_replicate Sized registers any any_sized) start_last

-- ---- a register's slot

module _ {l : List ℤ} (h : Slots l) where
  abbrev S : List Set
  S = sets_in registers l

  sized : All Sized S
  sized = all_from Sized S (only (pos 0)) (λ r _. h.each r)

  module _ (r : ℕ) (k : r < registers) where
    there : r < length S
    there = omega (arith, sets_length registers l)

    slot_is : slot_at r l ≡ slot (at S r)
    slot_is =
        ap (λ (n : ℕ). mid_of (33 * r) n l) (slot_long r)
        ∙ ap (λ (x : List ℤ). take 33 (drop (33 * r) x)) h.is
        ∙ slot_read S r (shorts S sized) there

    pub slot_length : length (slot_at r l) ≡ 33
    slot_length = ap length slot_is ∙ length_slot (at S r) (h.each r).few

    -- its count and its ends, as the machine reads the count
    pub few_read : length (at S r) ≤ 16
    few_read = (h.each r).few

    pub count_read : count_at r l ≡ pos (length (at S r))
    count_read =
        ap rd (slot_count (at S r) slot_is)
        ∙ to_z-of_z {w = w64} (record { sfits = let few = few_read in omega arith })

    pub few_count : nat_abs (count_at r l) ≤ 16
    few_count = omega (arith, few_read, ap nat_abs count_read)

    pub ends_read : take (1 + 2 * nat_abs (count_at r l) - 1) (drop 1 (slot_at r l)) ≡ flat (at S r)
    ends_read = slot_ends (at S r) slot_is (ap nat_abs count_read)

    module _ {s : Set} (z : Sized s) {new : List ℤ} (n : new ≡ slot s) where
      given : with_slot r l new ≡ layout (set S r s)
      given =
          (λ i. put_mid (33 * r) (slot_long r i) (h.is i) (n i))
          ∙ slot_put S r (shorts S sized) there s

      set_sized : All Sized (set S r s)
      set_sized = all_set Sized S r s z sized

      set_length : length (set S r s) ≡ registers
      set_length = length-set S r s ∙ sets_length registers l

      pub give_slots : Slots (with_slot r l new)
      give_slots = slots (set S r s) set_length set_sized given

      pub give_is : sets_in registers (with_slot r l new) ≡ set S r s
      give_is = sets_are (set S r s) set_length set_sized given
