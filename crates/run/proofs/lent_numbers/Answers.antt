-- After i turns the first i lent numbers stand at the front, and each that was read is from MIN to MAX.
use mathlib.Core.Path.{◌≡◌, refl, sym, ◌∙◌, subst}
use Prim.Native.Nat.{ℕ, suc, ◌≤◌}
use native.Mathlib.Omega.{arith}
use native.Mathlib.Numerals.{add-one}
use lib.IntN.{pos}
use lib.ListN.{length, take, get_or, length-set}
use Rattle.meaning.specs.Lists.{over, All}
use Rattle.meaning.specs.Number.{InRange}
use Rattle.laws.proofs.All.{all_next}
use mir.Facts.{to_z-of_z}
use Rattle.laws.proofs.Machine.{fit, fits_range}
use Rattle.laws.proofs.Over.{over_nil, over_take}
use Rattle.run.proofs.Steps.{start_is, copied_is}
use borrow.Author.Rules.{rules}
use Rattle.run.proofs.lent_numbers.Goals as goal

pub loop-i-init : goal.loop-i-init
loop-i-init c = (refl, sym (over_nil _), tt)

pub loop-i-preserved : goal.loop-i-preserved
loop-i-preserved c =
    let l = c.args.lent.now in
    let i = c.loop-i.i in
    let h : suc i ≤ length l = omega arith in
    let f = fit (get_or l i (pos 0)) (search rules) in
    let x = to_z-of_z f in
    let n = all_next InRange l i (pos 0) h c.loop-i.invariant.2 (fits_range f) in (
      simp length-set c.loop-i.invariant.0,
      rw (x, c.loop-i.invariant.1) (over_take _ l i (pos 0) (omega arith) h),
      subst (λ (k : ℕ). All InRange (take k l)) (sym (add-one i)) n,
    )

pub returns : goal.returns
returns c =
    let l = c.args.lent.now in
    let e : c.loop-i.i ≡ 16 = omega arith in
    let p : c.loop-i.numbers ≡ over (take 16 l) _ = rw e at c.loop-i.invariant.1 in
    let q : All InRange (take 16 l) = rw e at c.loop-i.invariant.2 in
    (c.if-lent-lt-REGISTERS.false, p ∙ copied_is l _ refl c.if-lent-lt-REGISTERS.false, subst (All InRange) (sym (start_is l)) q)
