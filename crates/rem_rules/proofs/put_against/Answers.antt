-- The two tests are those of the definition. Assumes nothing.
use Rattle.std.proofs.Common.{◌∙◌, to_z-of_z}
use Rattle.meaning.specs.Number.{MIN}
use Rattle.meaning.specs.Interval.{span}
use Rattle.laws.proofs.Integers.{zarith}
use Rattle.laws.proofs.Machine.{num, same, other, lit}
use Rattle.slices.proofs.Behind.{adds_as}
use Rattle.rem_rules.proofs.MagnitudeRules.{least_in, least_out, against_more, against_least, against_self}
use Rattle.rem_rules.proofs.put_against.Goals as goal

pub returns-then-e-gt-MIN : goal.returns-then-e-gt-MIN
returns-then-e-gt-MIN c =
    let s = c.args.s in
    let e = c.args.e in
    adds_as (against_more s e (least_in s e c.ranges.e (same c.ranges.s (lit MIN tt) c.if-s-eq-MIN.true)) (omega (zarith, num c.ranges.e))) c.put_one.ensures

pub returns-else-e-gt-MIN : goal.returns-else-e-gt-MIN
returns-else-e-gt-MIN c =
    let s = c.args.s in
    let e = c.args.e in
    adds_as (against_least s e (least_in s e c.ranges.e (same c.ranges.s (lit MIN tt) c.if-s-eq-MIN.true)) (omega (zarith, num c.ranges.e))) c.put_one-else-e-gt-MIN.ensures

pub returns-else-s-eq-MIN : goal.returns-else-s-eq-MIN
returns-else-s-eq-MIN c =
    let s = c.args.s in
    let e = c.args.e in
    adds_as ((λ i. span (to_z-of_z c.ranges.s i) (to_z-of_z c.ranges.e i)) ∙ against_self s e (least_out s e c.ranges.s (other c.if-s-eq-MIN.false))) c.put_one-else-s-eq-MIN.ensures
