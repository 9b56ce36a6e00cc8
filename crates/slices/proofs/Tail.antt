-- A call that is lent the unused tail of what a writer fills, and writes from the front of it. Assumes nothing.
use mathlib.Core.Path.{◌≡◌, refl, ap, ◌∙◌}
use mathlib.Core.List.{List}
use Prim.Native.Nat.{ℕ, ◌+◌, ◌-◌, ◌≤◌}
use borrow.Rule.Slice.Mut.{set_vals}
use borrow.Rule.Slice.PartMut.{mid_of, put_mid}
use native.Mathlib.Omega.{arith}
use lib.ListN.{length, length-drop}
use lib.IntN.{ℤ}
use Rattle.meaning.specs.Interval.{Interval}
use Rattle.meaning.specs.NumberIntervals.{flat}
use Rattle.laws.proofs.Over.{tail_length, tail_whole, mid_tail}
use Rattle.writer.specs.declared.Writer.{Writer}
use Rattle.slices.specs.Adds.{Adds}
use Rattle.slices.specs.Wrote.{Wrote}

pub tail_long : (w : Writer ℤ) → w.len ≤ length w.room.now → length (mid_of w.len (length w.room.now - w.len) w.room.now) ≡ length w.room.now - w.len
tail_long w h = ap length (mid_tail w.room.now w.len h) ∙ length-drop w.len w.room.now

-- what the call wrote stands behind what the writer had
pub tail_added : (w : Writer ℤ) {x : List Interval} {m : List ℤ} {n : ℕ} → w.len ≤ length w.room.now → Wrote n x m (mid_of w.len (length w.room.now - w.len) w.room.now)
    → Adds x (record { room = set_vals (put_mid w.len (length w.room.now - w.len) w.room.now m) w.room; len = w.len + n }) w
tail_added w {x} {m} h k =
    let fits : w.len + length (flat x) ≤ length w.room.now = omega (arith, k.count, k.room, tail_long w h) in
    let left = tail_whole w.room.now w.len h (flat x) m k.left in
    record { ends = record { count = omega (arith, k.count); left = left; room = fits; long = ap length left ∙ tail_length w.room.now (flat x) w.len fits; same = refl } }
