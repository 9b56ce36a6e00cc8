-- The branches are the cases of the choice in the contract. Assumes nothing.
use Rattle.std.proofs.Common.{◌∙◌, sym, ◌++◌, cond, to_z-of_z}
use lib.Signed.{le_z}
use Rattle.meaning.specs.Number.{MIN, MAX}
use Rattle.meaning.specs.Interval.{span, whole, one, two, pieces, unscaled}
use Rattle.laws.proofs.Machine.{le_z_is}
use Rattle.slices.proofs.Behind.{adds_as}
use Rattle.interval.proofs.sum.put_split.Goals as goal

pub returns-then-reach_all : goal.returns-then-reach_all
unfolding pieces
returns-then-reach_all c =
    let a = c.args in
    let n = sym c.if-reach_all.true ∙ c.reach_all.ensures in
    adds_as (λ j. pieces unscaled (cond (n j) whole (cond (le_z a.u a.v) (one a.u a.v) (two a.u a.v)))) c.put_one.ensures

pub returns-then-u-v : goal.returns-then-u-v
unfolding pieces
returns-then-u-v c =
    let a = c.args in
    let n = sym c.if-reach_all.false ∙ c.reach_all.ensures in
    let t = sym c.if-u-v.true ∙ le_z_is c.ranges.u c.ranges.v in
    adds_as
    ((λ j. span (to_z-of_z c.ranges.u j) (to_z-of_z c.ranges.v j))
    ∙ (λ j. pieces unscaled (cond (n j) whole (cond (t j) (one a.u a.v) (two a.u a.v)))))
    c.put_one-then-u-v.ensures

pub returns-else-u-v : goal.returns-else-u-v
unfolding pieces
returns-else-u-v c =
    let a = c.args in
    let n = sym c.if-reach_all.false ∙ c.reach_all.ensures in
    let t = sym c.if-u-v.false ∙ le_z_is c.ranges.u c.ranges.v in
    adds_as
    ((λ j. span (to_z-of_z c.ranges.u j) MAX ++ span MIN (to_z-of_z c.ranges.v j))
    ∙ (λ j. pieces unscaled (cond (n j) whole (cond (t j) (one a.u a.v) (two a.u a.v)))))
    c.put_two.ensures
