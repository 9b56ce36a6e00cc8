-- The layout of the check's sets shows them: 33 numbers a register, and each set reads back from them, whatever stands behind. Assumes nothing.
use lib.IntN.{ℤ, pos}
use lib.ListN.{length, get_or, take, drop, replicate, length-append, length-replicate}
use lib.Seq.{take_at, drop-append-add, get_or-append-add}
use mathlib.Core.Path.{◌≡◌, refl, sym, ap, ◌∙◌, subst}
use mathlib.Core.List.{List, [], ◌∷◌, ◌++◌, append_assoc, append-nil}
use Prim.Native.Nat.{ℕ, zero, suc, ◌+◌, ◌-◌, ◌*◌, ◌≤◌, ◌<◌}
use native.Mathlib.Nat.{le_of_suc-le-suc}
use native.Mathlib.Omega.{arith}
use Rattle.meaning.specs.Lists.{over, All}
use Rattle.meaning.specs.Interval.{only}
use Rattle.meaning.specs.NumberIntervals.{Set, flat, intervals}
use Rattle.meaning.specs.Check.{Bands, slot_size, slot, layout, set_in, sets_need, interval_limit}
use Rattle.meaning.specs.CheckSets.{SoundBands, SetsShown}
use Rattle.laws.proofs.All.{all_from}
use Rattle.laws.proofs.CheckSets.{passed_sound}
use Rattle.laws.proofs.Flat.{intervals_flat, length_flat}

-- a set that its slot has room for
abbrev pub Short : Set → Type 0
Short s = length s ≤ 16

pub length_slot : (s : Set) → Short s → length (slot s) ≡ slot_size
unfolding slot
length_slot s h = omega (arith, length-append (flat s) (replicate (slot_size - 1 - length (flat s)) (pos 0)), length-replicate (slot_size - 1 - length (flat s)) (pos 0), length_flat s)

pub length_layout : (S : List Set) → All Short S → length (layout S) ≡ length S * slot_size
unfolding layout
length_layout [] h = refl
length_layout (s ∷ S) h = length-append (slot s) (layout S) ∙ omega (arith, length_slot s h.0, length_layout S h.1)

-- ---- and back

-- the first slot
set_in_first : (s : Set) (l : List ℤ) → set_in (slot s ++ l) 0 ≡ s
unfolding set_in slot
set_in_first s l =
    ap intervals (ap (take (2 * length s)) (append_assoc (flat s) (replicate (slot_size - 1 - length (flat s)) (pos 0)) l)
    ∙ take_at (flat s) (replicate (slot_size - 1 - length (flat s)) (pos 0) ++ l) (2 * length s) (length_flat s))
    ∙ intervals_flat s

-- the slots after it
set_in_next : (x l : List ℤ) (r : ℕ) → length x ≡ slot_size → set_in (x ++ l) (suc r) ≡ set_in l r
unfolding set_in
set_in_next x l r h =
    let a : slot_size * suc r ≡ length x + slot_size * r = omega arith in
    let b : slot_size * suc r + 1 ≡ length x + (slot_size * r + 1) = omega arith in
    rw (b, a, drop-append-add, get_or-append-add)

pub layout_front : (S : List Set) (rest : List ℤ) (r : ℕ) → All Short S → r < length S → set_in (layout S ++ rest) r ≡ get_or S r []
unfolding layout
layout_front [] rest r h k = absurd (let x : ⊥ = omega arith in x)
layout_front (s ∷ S) rest zero h k = ap (λ (l : List ℤ). set_in l 0) (append_assoc (slot s) (layout S) rest) ∙ set_in_first s (layout S ++ rest)
layout_front (s ∷ S) rest (suc r) h k =
    ap (λ (l : List ℤ). set_in l (suc r)) (append_assoc (slot s) (layout S) rest)
    ∙ set_in_next (slot s) (layout S ++ rest) r (length_slot s h.0)
    ∙ layout_front S rest r h.1 (le_of_suc-le-suc k)

-- with nothing behind
pub layout_back : (S : List Set) (r : ℕ) → All Short S → r < length S → set_in (layout S) r ≡ get_or S r []
layout_back S r h k = ap (λ (l : List ℤ). set_in l r) (sym (append-nil (layout S))) ∙ layout_front S [] r h k

-- what the check leaves in its lent slice
pub layout_over : (S : List Set) (old : List ℤ) (r : ℕ) → All Short S → r < length S → set_in (over (layout S) old) r ≡ get_or S r []
unfolding over
layout_over S old r h k = layout_front S (drop (length (layout S)) old) r h k

-- the sets of a check under the limit of 16
pub sound_short : {B : Bands} → SoundBands interval_limit B → All Short B.sets
sound_short {B} h = all_from Short B.sets (only (pos 0)) (λ r _. (h.each r).few)

-- and so those of all registers
pub length_shown : {B : Bands} → SoundBands interval_limit B → length (layout B.sets) ≡ sets_need
length_shown {B} h = length_layout B.sets (sound_short h) ∙ ap (λ (n : ℕ). n * slot_size) h.size

-- each register's set reads back from what a passed check leaves, whatever the slice held
pub sets_shown : SetsShown
sets_shown t n B e old r h =
    let s = passed_sound interval_limit t (omega arith) e in
    layout_over B.sets old r (sound_short s) (subst (λ (k : ℕ). r < k) (sym s.size) h)
