-- A part of a divisor is on the side of 0 that the divisor is on. Assumes nothing.
use Rattle.std.proofs.Common.{◌∙◌, ap, to_z-of_z}
use Rattle.std.proofs.Math.IntN.{pred_ℤ}
use mathlib.Core.Logic.{⊎_elim}
use Rattle.laws.proofs.Integers.{zarith, pred_parts, from_within, below_out, above_out}
use Rattle.laws.proofs.Parts.{one_sign}
use Rattle.interval.proofs.Cuts.{part_some}
use Rattle.interval.proofs.divisor.Divisor.below.Goals as goal

pub invariant_of-result : goal.invariant_of-result
invariant_of-result c =
    let d = c.args.self in
    let i = c.in_ok-numbers.numbers in
    let p = part_some _ _ _ c.in_ok-numbers.ensures in
    let last = p.2 ∙ ap pred_ℤ (to_z-of_z c.ranges.c) in
    let inside = from_within d.numbers.lo c.args.c d.numbers.hi c.requires in
    record {
      no_zero = ⊎_elim
          (λ q. below_out i.hi (omega (zarith, q, p.1)))
          (λ q. above_out i.lo (omega (zarith, q, last, pred_parts c.args.c, inside.below)))
          (one_sign d.no_zero);
    }
