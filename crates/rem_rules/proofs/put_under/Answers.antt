-- 1 − d is the negative of d − 1, and d is at least 1. Assumes nothing.
use Rattle.std.proofs.Common.{◌∙◌, ◌-◌, ap, pos, rules, arith}
use Rattle.meaning.specs.Interval.{span}
use Rattle.laws.proofs.Machine.{fit, neg_ok, neg_is}
use Rattle.slices.proofs.Behind.{adds_as}
use Rattle.rem_rules.proofs.MagnitudeRules.{greatest_some, greatest_fits, under_read}
use Rattle.rem_rules.proofs.put_under.Goals as goal

pub overflow_sub-d : goal.overflow_sub-d
overflow_sub-d c = greatest_some c.args.right (search rules) (search rules) c.magnitudes_of-d.ensures

pub returns : goal.returns
returns c =
    let r = c.args.right in
    let m = c.magnitudes_of-d.ensures in
    let D = fit (pos (c.magnitudes_of-d.result.greatest - 1)) (greatest_fits r (search rules) (search rules) m) in
    adds_as (ap (λ a. span a (pos 0)) (neg_is D (neg_ok D (omega arith)) ∙ under_read r (search rules) (search rules) m)) c.put_one.ensures
