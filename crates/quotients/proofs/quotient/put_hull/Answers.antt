-- Each corner is the wrapped quotient of two ends. Assumes nothing.
use Rattle.std.proofs.Common.{◌≡◌, ◌∙◌, ap₂, ℤ, ◌^◌, ◌<◌, w64, SFits, to_z-of_z, rules}
use lib.Signed.{mag}
use Rattle.meaning.specs.Interval.{span}
use Rattle.laws.proofs.Machine.{rd, back}
use Rattle.slices.proofs.Behind.{adds_as}
use Rattle.wide.proofs.Extremes.{least_of_four, greatest_of_four}
use Rattle.quotients.specs.Hull.{hull, wrapped_quotient}
use Rattle.quotients.proofs.quotient.put_hull.Goals as goal

-- a call of `quot` gives the quotient of the ends that it was given
corner : {x y r : ℤ} → SFits w64 x → SFits w64 y → mag r < 2 ^ 63 → r ≡ wrapped_quotient (rd x) (rd y) → rd r ≡ wrapped_quotient x y
corner x y f e = back _ f ∙ e ∙ ap₂ wrapped_quotient (to_z-of_z x) (to_z-of_z y)

pub returns : goal.returns
unfolding hull
returns c =
    let s = c.args.s in
    let e = c.args.e in
    let t = c.args.t in
    let f = c.args.f in
    let p = corner c.ranges.s c.ranges.t c.quot-a.type_inv c.quot-a.ensures in
    let q = corner c.ranges.s c.ranges.f c.quot-b.type_inv c.quot-b.ensures in
    let u = corner c.ranges.e c.ranges.t c.quot-c.type_inv c.quot-c.ensures in
    let v = corner c.ranges.e c.ranges.f c.quot-d.type_inv c.quot-d.ensures in
    let x = c.extremes-least in
    let l = back x.result.0 (search rules) ∙ x.ensures.least ∙ least_of_four wrapped_quotient s e t f p q u v in
    let g = back x.result.1 (search rules) ∙ x.ensures.greatest ∙ greatest_of_four wrapped_quotient s e t f p q u v in
    adds_as (λ j. span (l j) (g j)) c.put_one.ensures
