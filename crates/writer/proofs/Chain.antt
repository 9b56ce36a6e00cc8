-- Calls that write into a lent slice, one after the other. Assumes nothing.
use mathlib.Core.Path.{◌≡◌, refl, sym, ap, subst, ◌∙◌}
use mathlib.Core.List.{List, [], ◌++◌, append_assoc}
use borrow.Rule.Slice.Mut.{set_vals}
use borrow.Rule.Slice.PartMut.{put_mid}
use Prim.Native.Nat.{ℕ, ◌+◌, ◌≤◌}
use native.Mathlib.Omega.{arith}
use lib.ListN.{length, take, drop, length-append, take-append-drop}
use lib.Seq.{drop-drop}
use Rattle.std.specs.Borrow.{MutBor}
use Rattle.meaning.specs.Lists.{over}
use Rattle.laws.proofs.Over.{over_nil, take_over, drop_over, over_tail, tail_length, tail_take, tail_drop}
use Rattle.writer.specs.Written.{Starts, Fits, Appends}
use Rattle.writer.specs.declared.Writer.{Writer}

module _ {A : Type 0} where
  pub appends_as : {x y : List A} {new old : Writer A} → x ≡ y → Appends x new old → Appends y new old
  appends_as {new = new} {old = old} e w = subst (λ (l : List A). Appends l new old) e w

  pub appends_none : (w : Writer A) → w.len ≤ length w.room.now → Appends [] w w
  appends_none w h = record { count = omega arith; left = sym (ap (λ (l : List A). take w.len w.room.now ++ l) (over_nil (drop w.len w.room.now)) ∙ take-append-drop w.len w.room.now); room = omega arith; long = refl; same = refl }

  -- room for a part said another way, and for the first of two
  pub fits_as : {x y : List A} (at room : ℕ) → x ≡ y → at + length y ≤ room → at + length x ≤ room
  fits_as at room e h = subst (λ (l : List A). at + length l ≤ room) (sym e) h

  pub fits_first : (x y : List A) (at room : ℕ) → at + length (x ++ y) ≤ room → at + length x ≤ room
  fits_first x y at room h = omega (arith, length-append x y)

  -- one call, and then another
  module _ {x : List A} {m o : Writer A} (a : Appends x m o) where
    pub inside : m.len ≤ length m.room.now
    inside = omega (arith, a.long, a.count, a.room)

    pub fits_next : (y : List A) → Fits (x ++ y) o → Fits y m
    fits_next y h = omega (arith, a.long, a.count, length-append x y)

    before : take m.len m.room.now ≡ take o.len o.room.now ++ x
    before = (λ i. take (a.count i) (a.left i)) ∙ tail_take o.room.now x o.len a.room

    behind : drop m.len m.room.now ≡ drop (length x) (drop o.len o.room.now)
    behind =
        (λ i. drop (a.count i) (a.left i))
        ∙ tail_drop o.room.now x o.len a.room (o.len + length x) (omega arith)
        ∙ sym (drop-drop (length x) o.len o.room.now)

    joined : (y l : List A) → x ++ over y (drop (length x) l) ≡ over (x ++ y) l
    joined y l = sym (λ i. take_over x l i ++ over y (drop_over x l (length x) (omega arith) i)) ∙ over_tail x y l

    pub appends_next : {y : List A} {n : Writer A} → Appends y n m → Appends (x ++ y) n o
    appends_next {y} {n} b = record {
      count = omega (arith, a.count, b.count, length-append x y);
      left =
          b.left
          ∙ (λ i. before i ++ over y (behind i))
          ∙ append_assoc (take o.len o.room.now) x (over y (drop (length x) (drop o.len o.room.now)))
          ∙ ap (λ (l : List A). take o.len o.room.now ++ l) (joined y (drop o.len o.room.now));
      room = omega (arith, a.long, a.count, b.room, length-append x y);
      long = b.long ∙ a.long;
      same = b.same ∙ a.same;
    }

  -- what a writer holds after its first call
  pub first_written : {w v : Writer A} {lent : MutBor (List A)} {x : List A} → Starts w lent → Appends x v w → take v.len v.room.now ≡ x
  first_written {w} {x = x} s a = before a ∙ (λ i. take (s.empty i) w.room.now ++ x)

  -- a part in the middle that became another
  put_part : {x m : List A} (l : List A) (at k : ℕ) → m ≡ x → k ≡ length x → put_mid at k l m ≡ take at l ++ over x (drop at l)
  unfolding over
  put_part l at k e f i = take at l ++ (e i ++ drop (f i) (drop at l))

  pub appends_put : (w : Writer A) {x m : List A} {k end : ℕ} → m ≡ x → k ≡ length x → end ≡ w.len + length x → Fits x w → Appends x (record { room = set_vals (put_mid w.len k w.room.now m) w.room; len = end }) w
  appends_put w {x} {m} {k} e f g h =
      let left = put_part w.room.now w.len k e f in
      record { count = g; left = left; room = h; long = ap length left ∙ tail_length w.room.now x w.len h; same = refl }
