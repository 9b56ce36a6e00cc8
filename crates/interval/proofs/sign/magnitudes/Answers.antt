-- The branches are the cases of the definition, and no number that is negated is MIN. Assumes nothing.
use Rattle.std.proofs.Common.{◌∙◌, ap, pos, neg_ℤ, ◌<ℤ◌, w64, SFits, to_z-of_z, rules}
use Rattle.std.specs.Int.{int_max}
use Rattle.meaning.specs.Number.{MIN}
use Rattle.meaning.specs.Interval.{span}
use Rattle.laws.proofs.Integers.{zarith}
use Rattle.laws.proofs.Machine.{num, back}
use Rattle.interval.proofs.SignRules.{negated, max_larger, rest_positive, rest_negative, rest_both}
use Rattle.interval.proofs.sign.magnitudes.Goals as goal
use Rattle.interval.proofs.sign.magnitudes.Goals.{then-left-ge0, else-left-ge0+then-left-le0, else-left-ge0+else-left-le0}

pub returns : goal.returns
returns c =
    let l : SFits w64 c.args.left.lo = search rules in
    let h : SFits w64 c.args.left.hi = search rules in
    let a = c.requires in
    let b : MIN <ℤ c.args.left.hi = omega (zarith, c.args.left.ordered) in
    elim c.if-left-ge0.branch [
      | then-left-ge0 w ↦ (λ j. span (w.result-is j).0 (w.result-is j).1.0) ∙ rest_positive _ _ (omega (zarith, num l))
      | else-left-ge0+then-left-le0 w ↦ (λ j. span (w.result-is j).0 (w.result-is j).1.0) ∙ (λ j. span (negated h b j) (negated l a j)) ∙ rest_negative _ _ (omega (zarith, num l)) (omega (zarith, num h))
      | else-left-ge0+else-left-le0 w ↦ (λ j. span (w.result-is j).0 (w.result-is j).1.0)
          ∙ ap (span (pos 0)) (back _ w.max.type_inv ∙ w.max.ensures.value ∙ (λ j. int_max (to_z-of_z h j) (negated l a j)) ∙ max_larger c.args.left.hi (neg_ℤ c.args.left.lo))
          ∙ rest_both _ _ (omega (zarith, num l)) (omega (zarith, num h))
    ]
