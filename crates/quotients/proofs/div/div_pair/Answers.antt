-- Without 0 the divisor has a part below it and a part above it, each if there is one; a pair gives at most 12 intervals, so 24 numbers are room enough. Assumes nothing.
use Rattle.std.proofs.Common.{sym, rules, arith}
use Rattle.meaning.specs.Interval.{div_part}
use Rattle.slices.specs.Adds.{Adds}
use Rattle.slices.proofs.Behind.{adds_as, holds_as}
use Rattle.interval.specs.Part.{of_divisor}
use Rattle.interval.proofs.Branches.{none_after, divisor_written, divisor_missing}
use Rattle.interval.proofs.Cuts.{proper}
use Rattle.quotients.proofs.DivRules.{pair_plain, plain_room, lows_room, highs_room, pair_added}
use Rattle.quotients.proofs.div.div_pair.Goals as goal
use Rattle.quotients.proofs.div.div_pair.Goals.{in-Some, in_default}

pub div_part-requires : goal.div_part-requires
div_part-requires c =
    let o = proper c.args.left (search rules) (search rules) in
    let q = proper c.args.right (search rules) (search rules) in
    holds_as c.args.out.now (λ j. of_divisor (div_part c.args.left.lo c.args.left.hi) (sym c.in-Some.is j)) (lows_room o q c.contains.ensures c.if-contains.true c.negatives.result c.negatives.ensures c.args.out.now c.requires)

pub div_part-requires-in-Some-positives : goal.div_part-requires-in-Some-positives
div_part-requires-in-Some-positives c =
    let o = proper c.args.left (search rules) (search rules) in
    let q = proper c.args.right (search rules) (search rules) in
    let g = div_part c.args.left.lo c.args.left.hi in
    let first : Adds (of_divisor g c.negatives.result) c.match-negatives.out c.args.out.now = elim c.match-negatives.branch [
      | in-Some w ↦ divisor_written g w.out-is w.in-Some.is w.div_part.ensures
      | in_default w ↦ divisor_missing g w.out-is w.in_default.is (omega (arith, c.requires))
    ] in
    holds_as c.match-negatives.out (λ j. of_divisor g (sym c.in-Some-positives.is j))
    (highs_room o q c.contains.ensures c.if-contains.true c.negatives.result c.negatives.ensures c.args.out.now c.requires first c.positives.result c.positives.ensures)

pub div_part-requires-else-contains : goal.div_part-requires-else-contains
div_part-requires-else-contains c =
    let o = proper c.args.left (search rules) (search rules) in
    let q = proper c.args.right (search rules) (search rules) in
    plain_room o q c.contains.ensures c.if-contains.false c.args.out.now c.requires

pub returns-in-Some-positives : goal.returns-in-Some-positives
returns-in-Some-positives c =
    let o = proper c.args.left (search rules) (search rules) in
    let q = proper c.args.right (search rules) (search rules) in
    let g = div_part c.args.left.lo c.args.left.hi in
    let first : Adds (of_divisor g c.negatives.result) c.match-negatives.out c.args.out.now = elim c.match-negatives.branch [
      | in-Some w ↦ divisor_written g w.out-is w.in-Some.is w.div_part.ensures
      | in_default w ↦ divisor_missing g w.out-is w.in_default.is (omega (arith, c.requires))
    ] in
    pair_added o q c.contains.ensures c.if-contains.true c.negatives.result c.negatives.ensures c.args.out.now c.requires first c.positives.result c.positives.ensures
    (adds_as (λ j. of_divisor g (sym c.in-Some-positives.is j)) c.div_part-in-Some-positives.ensures)

pub returns-in_default-positives : goal.returns-in_default-positives
returns-in_default-positives c =
    let o = proper c.args.left (search rules) (search rules) in
    let q = proper c.args.right (search rules) (search rules) in
    let g = div_part c.args.left.lo c.args.left.hi in
    let first : Adds (of_divisor g c.negatives.result) c.match-negatives.out c.args.out.now = elim c.match-negatives.branch [
      | in-Some w ↦ divisor_written g w.out-is w.in-Some.is w.div_part.ensures
      | in_default w ↦ divisor_missing g w.out-is w.in_default.is (omega (arith, c.requires))
    ] in
    pair_added o q c.contains.ensures c.if-contains.true c.negatives.result c.negatives.ensures c.args.out.now c.requires first c.positives.result c.positives.ensures
    (adds_as (λ j. of_divisor g (sym c.in_default-positives.is j)) (none_after first))

pub returns-else-contains : goal.returns-else-contains
returns-else-contains c =
    let o = proper c.args.left (search rules) (search rules) in
    let q = proper c.args.right (search rules) (search rules) in
    adds_as (pair_plain o q c.contains.ensures c.if-contains.false) c.div_part-else-contains.ensures
