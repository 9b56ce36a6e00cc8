-- The right set is laid behind room for the left one, the two are merged, and one pass joins them. Assumes nothing.
use mathlib.Core.Path.{◌≡◌, refl, ◌∙◌}
use Prim.Native.Nat.{◌+◌}
use native.Mathlib.Omega.{arith}
use lib.ListN.{length, take, length-append}
use lib.Seq.{length-take-le}
use Rattle.sets.proofs.Bridge.{set_valid}
use Rattle.sets.proofs.Merged.{laid, laid_long, laid_rest, laid_back, united_by, united_few}
use Rattle.sets.proofs.unite.Goals as goal

pub returns-then-k-lt2 : goal.returns-then-k-lt2
returns-then-k-lt2 c = united_few _ _ _ c.args.left.set c.args.right.set c.if-k-lt2.true

pub merge_in-requires : goal.merge_in-requires
merge_in-requires c =
    let w = c.args.work.now in
    let l = c.args.left.numbers.now in
    let r = c.args.right.numbers.now in
    let ys = c.copy_from_slice.new.self in
    let p = laid w r ys (length l) c.requires c.copy_from_slice.ensures.after in
    let b = laid_back w r ys (length l) c.requires c.copy_from_slice.ensures.after in
    let n = length-take-le (length l) w (omega (arith, c.requires)) in
    (rw p (omega (arith, length-append (take (length l) w) r, n)), set_valid l c.args.left.set, rw b (set_valid r c.args.right.set))

pub returns : goal.returns
returns c =
    let w = c.args.work.now in
    let l = c.args.left.numbers.now in
    let r = c.args.right.numbers.now in
    let ys = c.copy_from_slice.new.self in
    let q = laid_long w r ys (length l) c.requires c.copy_from_slice.ensures.after in
    let b = laid_back w r ys (length l) c.requires c.copy_from_slice.ensures.after in
    let zs = c.merge_in.new.ends in
    let e : length zs ≡ length l + length r = c.merge_in.auto.ends ∙ length-take-le (length l + length r) _ (omega (arith, q, c.requires)) in
    let m = rw b at c.merge_in.ensures in
    let d = laid_rest w r ys (length l) c.requires c.copy_from_slice.ensures.after in
    united_by l r w _ zs _ _ _ c.args.left.set c.args.right.set refl e m d c.join_pass.auto.ends c.join_pass.ensures
