-- Calls that write intervals behind what a writer has already, one after the other. Assumes nothing.
use mathlib.Core.Path.{◌≡◌, refl, sym, ap, subst, ◌∙◌}
use mathlib.Core.List.{List, [], ◌∷◌, ◌++◌, append_assoc}
use borrow.Rule.Slice.Mut.{set_vals}
use Prim.Native.Nat.{◌+◌, ◌≤◌}
use native.Mathlib.Omega.{arith}
use native.Mathlib.Numerals.{add-one}
use lib.ListN.{length, set, take, drop, length-set, length-append}
use lib.Seq.{sets-eq, drop-drop}
use lib.IntN.{ℤ}
use Rattle.meaning.specs.Lists.{over}
use Rattle.meaning.specs.Interval.{Interval, span}
use Rattle.meaning.specs.NumberIntervals.{flat}
use Rattle.laws.proofs.Flat.{flat_append}
use Rattle.writer.specs.declared.Writer.{Writer}
use Rattle.writer.proofs.Chain.{appends_as, appends_none, appends_next, fits_next}
use Rattle.slices.specs.Adds.{Holds, Adds}

pub length_flat_append : (x y : List Interval) → length (flat (x ++ y)) ≡ length (flat x) + length (flat y)
length_flat_append x y = ap length (flat_append x y) ∙ length-append (flat x) (flat y)

pub adds_as : {x y : List Interval} {new old : Writer ℤ} → x ≡ y → Adds x new old → Adds y new old
adds_as {new = new} {old = old} e w = subst (λ (l : List Interval). Adds l new old) e w

pub adds_none : (w : Writer ℤ) → w.len ≤ length w.room.now → Adds [] w w
unfolding flat
adds_none w h = record { ends = appends_none w h }

-- both ends stored, each at its place
pub adds_stored : (w : Writer ℤ) (a b : ℤ) → w.len + 2 ≤ length w.room.now
    → Adds (span a b) (record { room = set_vals (set (set w.room.now w.len a) (w.len + 1) b) (set_vals (set w.room.now w.len a) w.room); len = w.len + 2 }) w
unfolding flat over
adds_stored w a b h =
    let l = w.room.now in
    let left : set (set l w.len a) (w.len + 1) b ≡ take w.len l ++ a ∷ b ∷ drop 2 (drop w.len l) =
    rw (add-one, drop-drop) (sets-eq (a ∷ b ∷ []) l w.len h ∙ append_assoc (take w.len l) (a ∷ b ∷ []) (drop (w.len + 2) l)) in
    record { ends = record { count = refl; left = left; room = h; long = length-set (set l w.len a) (w.len + 1) b ∙ length-set l w.len a; same = refl } }

-- room for intervals said another way, and for the first of two
pub holds_as : {x y : List Interval} (w : Writer ℤ) → x ≡ y → Holds y w → Holds x w
holds_as w e h = subst (λ (l : List Interval). Holds l w) (sym e) h

pub holds_first : (x y : List Interval) (w : Writer ℤ) → Holds (x ++ y) w → Holds x w
holds_first x y w h = omega (arith, length_flat_append x y)

span_two : (a b : ℤ) → length (flat (span a b)) ≡ 2
unfolding flat
span_two a b = refl

-- room for one interval is room for two numbers
pub room_two : (a b : ℤ) (w : Writer ℤ) → Holds (span a b) w → w.len + 2 ≤ length w.room.now
room_two a b w h = omega (arith, span_two a b)

-- one call, and then another: there is room for it, and what the two did
module _ {x : List Interval} {m o : Writer ℤ} (a : Adds x m o) where
  pub holds_next : (y : List Interval) → Holds (x ++ y) o → Holds y m
  holds_next y h = fits_next a.ends (flat y) (omega (arith, length_flat_append x y, length-append (flat x) (flat y)))

  pub adds_next : {y : List Interval} {n : Writer ℤ} → Adds y n m → Adds (x ++ y) n o
  adds_next {y} b = record { ends = appends_as (sym (flat_append x y)) (appends_next a.ends b.ends) }

-- ---- two calls that together write the intervals d
module _ (x y : List Interval) {d : List Interval} (e : x ++ y ≡ d) (o : Writer ℤ) (h : Holds d o) where
  pub two_first : Holds x o
  two_first = holds_first x y o (holds_as o e h)

  module _ {m : Writer ℤ} (a : Adds x m o) where
    pub two_second : Holds y m
    two_second = holds_next a y (holds_as o e h)

    pub two_added : {n : Writer ℤ} → Adds y n m → Adds d n o
    two_added b = adds_as e (adds_next a b)
