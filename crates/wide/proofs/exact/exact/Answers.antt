-- The product has the product of the magnitudes as its magnitude, above the middle for equal signs and below it for different ones. Assumes nothing.
use Rattle.std.proofs.Common.{◌≡◌, ◌∙◌, ◌+◌, ◌*◌, ◌^◌, nat_abs, pos, ap, sym, to_z-of_z}
use mathlib.Core.Bool.{beq}
use lib.Signed.{lt_z}
use Rattle.laws.proofs.Machine.{rd}
use Rattle.wide.proofs.Words.{held_is}
use Rattle.wide.proofs.Middle.{is_above, is_below, is_up, is_down}
use Rattle.wide.proofs.exact.exact.Goals as goal
use Rattle.wide.proofs.exact.exact.Goals.{After-full-m}

-- after the call of `full`: its product, and the signs of x and y
module _ (c : After-full-m) where
  magnitudes : c.full-m.result.hi * 2 ^ 64 + c.full-m.result.lo ≡ nat_abs c.args.x * nat_abs c.args.y
  magnitudes =
      c.full-m.ensures
      ∙ (λ i. (c.unsigned_abs.ensures.value ∙ ap nat_abs (to_z-of_z c.ranges.x)) i * (c.unsigned_abs-2.ensures.value ∙ ap nat_abs (to_z-of_z c.ranges.y)) i)

  signs : beq (lt_z c.args.x (pos 0)) (lt_z c.args.y (pos 0)) ≡ beq (lt_z (rd c.args.x) (pos 0)) (lt_z (rd c.args.y) (pos 0))
  signs i = beq (lt_z (sym (to_z-of_z c.ranges.x) i) (pos 0)) (lt_z (sym (to_z-of_z c.ranges.y) i) (pos 0))

pub returns-then-x-y : goal.returns-then-x-y
returns-then-x-y c =
    let f = c.before.before in
    let m = c.full-m.result in
    let r = c.above.result in
    held_is r.hi r.lo (is_above (2 ^ 64) (2 ^ 63) m.hi m.lo (is_up c.args.x c.args.y (signs f ∙ c.if-x-y.true)) (magnitudes f) c.above.ensures)

pub returns-else-x-y : goal.returns-else-x-y
returns-else-x-y c =
    let f = c.before.before in
    let m = c.full-m.result in
    let r = c.below.result in
    held_is r.hi r.lo (is_below (2 ^ 64) (2 ^ 63) m.hi m.lo r.hi r.lo (is_down c.args.x c.args.y (signs f ∙ c.if-x-y.false)) (magnitudes f) c.below.ensures)
