-- The order of two exact numbers is that of their words. Assumes nothing.
use Rattle.std.proofs.Common.{◌∙◌, ap, ◌*ℤ◌, ℤ, ◌≡◌, rules, to_z-of_z, SFits, w64}
use Rattle.meaning.specs.Number.{smaller, larger}
use Rattle.meaning.specs.Interval.{least_corner, greatest_corner}
use Rattle.laws.proofs.Machine.{rd}
use Rattle.wide.specs.Exact.{number_of}
use Rattle.wide.proofs.Spreads.{least_is, greatest_is}
use Rattle.wide.proofs.corners.corners.Goals as goal

-- what `exact` gives, of the arguments as the machine reads them back
exact_is : {x y r : ℤ} → SFits w64 x → SFits w64 y → r ≡ rd x *ℤ rd y → r ≡ x *ℤ y
exact_is f g e = e ∙ (λ i. to_z-of_z f i *ℤ to_z-of_z g i)

pub returns-clause-least : goal.returns-clause-least
unfolding least_corner
returns-clause-least c =
    let st = exact_is c.ranges.s c.ranges.t c.exact-a.ensures in
    let sf = exact_is c.ranges.s c.ranges.f c.exact-b.ensures in
    let et = exact_is c.ranges.e c.ranges.t c.exact-c.ensures in
    let ef = exact_is c.ranges.e c.ranges.f c.exact-d.ensures in
    ap number_of c.extremes.ensures.least
    ∙ least_is c.exact-a.result c.exact-b.result c.exact-c.result c.exact-d.result (search rules) (search rules) (search rules) (search rules)
    ∙ (λ i. smaller (smaller (st i) (sf i)) (smaller (et i) (ef i)))

pub returns-clause-greatest : goal.returns-clause-greatest
unfolding greatest_corner
returns-clause-greatest c =
    let st = exact_is c.ranges.s c.ranges.t c.exact-a.ensures in
    let sf = exact_is c.ranges.s c.ranges.f c.exact-b.ensures in
    let et = exact_is c.ranges.e c.ranges.t c.exact-c.ensures in
    let ef = exact_is c.ranges.e c.ranges.f c.exact-d.ensures in
    ap number_of c.extremes.ensures.greatest
    ∙ greatest_is c.exact-a.result c.exact-b.result c.exact-c.result c.exact-d.result (search rules) (search rules) (search rules) (search rules)
    ∙ (λ i. larger (larger (st i) (sf i)) (larger (et i) (ef i)))
