-- With MIN in D and −1 in R, D starts at MIN and R ends at −1, so each is left with one part at most; else the case is plain. Assumes nothing.
use Rattle.std.proofs.Common.{sym, rules, ℤ, List, arith}
use Rattle.meaning.specs.Interval as meant
use Rattle.slices.specs.Adds.{Adds}
use Rattle.slices.proofs.Behind.{adds_as, holds_as}
use Rattle.interval.specs.Part.{of_part, of_divisor}
use Rattle.interval.proofs.Branches.{none_after, part_written, part_missing}
use Rattle.interval.proofs.Cuts.{proper}
use Rattle.quotients.specs.Hull.{hull}
use Rattle.quotients.proofs.DivRules.{any_hull, plain_piece, first_room, lefts_room, rights_room, piece_added}
use Rattle.quotients.proofs.div.div_piece.Goals as goal
use Rattle.quotients.proofs.div.div_piece.Goals.{in-Some, in_default}

pub put_one-requires : goal.put_one-requires
put_one-requires c =
    let o = proper c.args.left (search rules) (search rules) in
    let d = c.args.right in
    first_room o d.numbers.ordered d.no_zero c.quotient_wraps.ensures c.if-quotient_wraps.true c.args.out.now c.requires

pub put_plain-requires : goal.put_plain-requires
put_plain-requires c =
    let o = proper c.args.left (search rules) (search rules) in
    let d = c.args.right in
    holds_as c.put_one.new.out (λ j. of_part (λ x y. hull x y d.numbers.lo d.numbers.hi) (sym c.in-Some.is j)) (lefts_room o d.numbers.ordered d.no_zero c.quotient_wraps.ensures c.if-quotient_wraps.true c.requires c.put_one.ensures c.above.result c.above.ensures)

pub put_plain-requires-in-Some-below : goal.put_plain-requires-in-Some-below
put_plain-requires-in-Some-below c =
    let o = proper c.args.left (search rules) (search rules) in
    let d = c.args.right in
    let g : ℤ → ℤ → List meant.Interval = λ x y. hull x y d.numbers.lo d.numbers.hi in
    let first : Adds (of_part g c.above.result) c.match-above.out c.put_one.new.out = elim c.match-above.branch [
      | in-Some w ↦ part_written g w.out-is w.in-Some.is w.put_plain.ensures
      | in_default w ↦ part_missing g w.out-is w.in_default.is (omega (arith, c.put_one.ensures.ends.count, c.put_one.ensures.ends.room, c.put_one.ensures.ends.long))
    ] in
    any_hull c.args.left.lo c.args.left.hi c.in-Some-below.rest.numbers.lo c.in-Some-below.rest.numbers.hi _ _ _ _ c.match-above.out
    (holds_as c.match-above.out (λ j. of_divisor (hull c.args.left.lo c.args.left.hi) (sym c.in-Some-below.is j))
    (rights_room o d.numbers.ordered d.no_zero c.quotient_wraps.ensures c.if-quotient_wraps.true c.requires c.put_one.ensures c.above.result c.above.ensures first c.below.result c.below.ensures))

pub put_plain-requires-else-quotient_wraps : goal.put_plain-requires-else-quotient_wraps
put_plain-requires-else-quotient_wraps c =
    let o = proper c.args.left (search rules) (search rules) in
    let d = c.args.right in
    holds_as c.args.out.now (plain_piece o d.numbers.ordered d.no_zero c.quotient_wraps.ensures c.if-quotient_wraps.false) c.requires

pub returns-in-Some-below : goal.returns-in-Some-below
returns-in-Some-below c =
    let o = proper c.args.left (search rules) (search rules) in
    let d = c.args.right in
    let g : ℤ → ℤ → List meant.Interval = λ x y. hull x y d.numbers.lo d.numbers.hi in
    let first : Adds (of_part g c.above.result) c.match-above.out c.put_one.new.out = elim c.match-above.branch [
      | in-Some w ↦ part_written g w.out-is w.in-Some.is w.put_plain.ensures
      | in_default w ↦ part_missing g w.out-is w.in_default.is (omega (arith, c.put_one.ensures.ends.count, c.put_one.ensures.ends.room, c.put_one.ensures.ends.long))
    ] in
    piece_added o d.numbers.ordered d.no_zero c.quotient_wraps.ensures c.if-quotient_wraps.true c.requires c.put_one.ensures c.above.result c.above.ensures first c.below.result c.below.ensures
    (adds_as (λ j. of_divisor (hull c.args.left.lo c.args.left.hi) (sym c.in-Some-below.is j)) c.put_plain-in-Some-below.ensures)

pub returns-in_default-below : goal.returns-in_default-below
returns-in_default-below c =
    let o = proper c.args.left (search rules) (search rules) in
    let d = c.args.right in
    let g : ℤ → ℤ → List meant.Interval = λ x y. hull x y d.numbers.lo d.numbers.hi in
    let first : Adds (of_part g c.above.result) c.match-above.out c.put_one.new.out = elim c.match-above.branch [
      | in-Some w ↦ part_written g w.out-is w.in-Some.is w.put_plain.ensures
      | in_default w ↦ part_missing g w.out-is w.in_default.is (omega (arith, c.put_one.ensures.ends.count, c.put_one.ensures.ends.room, c.put_one.ensures.ends.long))
    ] in
    piece_added o d.numbers.ordered d.no_zero c.quotient_wraps.ensures c.if-quotient_wraps.true c.requires c.put_one.ensures c.above.result c.above.ensures first c.below.result c.below.ensures
    (adds_as (λ j. of_divisor (hull c.args.left.lo c.args.left.hi) (sym c.in_default-below.is j)) (none_after first))

pub returns-else-quotient_wraps : goal.returns-else-quotient_wraps
returns-else-quotient_wraps c =
    let o = proper c.args.left (search rules) (search rules) in
    let d = c.args.right in
    adds_as (plain_piece o d.numbers.ordered d.no_zero c.quotient_wraps.ensures c.if-quotient_wraps.false) c.put_plain-else-quotient_wraps.ensures
