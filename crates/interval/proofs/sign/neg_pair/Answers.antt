-- The branches are the cases of the definition, and each number that is negated is above MIN. Assumes nothing.
use Rattle.std.proofs.Common.{◌∙◌, ◌++◌, ◌<ℤ◌, w64, SFits, rules}
use Rattle.meaning.specs.Number.{MIN, MAX}
use Rattle.meaning.specs.Interval.{span, only}
use Rattle.laws.proofs.Integers.{zarith}
use Rattle.laws.proofs.Machine.{num}
use Rattle.slices.proofs.Behind.{adds_as}
use Rattle.interval.proofs.SignRules.{negated, neg_least, neg_from_least, neg_plain}
use Rattle.interval.proofs.sign.neg_pair.Goals as goal

pub returns-then-left-gt-MIN : goal.returns-then-left-gt-MIN
returns-then-left-gt-MIN c =
    let l : SFits w64 c.args.left.lo = search rules in
    let h : SFits w64 c.args.left.hi = search rules in
    let a : MIN <ℤ c.args.left.lo = omega (zarith, num l) in
    let b : MIN <ℤ c.args.left.hi = omega (zarith, c.args.left.ordered) in
    adds_as ((λ j. span (negated h b j) (negated l a j)) ∙ neg_plain _ _ a) c.put_one.ensures

pub returns-then-left-gt-MIN-2 : goal.returns-then-left-gt-MIN-2
returns-then-left-gt-MIN-2 c =
    let l : SFits w64 c.args.left.lo = search rules in
    let h : SFits w64 c.args.left.hi = search rules in
    let b : MIN <ℤ c.args.left.hi = omega (zarith, num h) in
    adds_as ((λ j. span (negated h b j) MAX ++ only MIN) ∙ neg_from_least _ _ (omega (zarith, num l)) b) c.put_two.ensures

pub returns-else-left-gt-MIN-2 : goal.returns-else-left-gt-MIN-2
returns-else-left-gt-MIN-2 c =
    let l : SFits w64 c.args.left.lo = search rules in
    let h : SFits w64 c.args.left.hi = search rules in
    adds_as (neg_least _ _ (omega (zarith, num l)) (omega (zarith, num h))) c.put_one-else-left-gt-MIN-2.ensures
