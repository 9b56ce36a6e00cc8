-- The arms are the cases of the spread of 1000·s and 1000·e. Assumes nothing.
use Rattle.meaning.specs.Number.{MIN, MAX}
use Rattle.slices.proofs.Behind.{room_two, adds_as, holds_as, two_first, two_second, two_added}
use Rattle.quotients.proofs.DivRules.{spread_part, piece_ordered, one_part, two_part}
use Rattle.quotients.proofs.div.div_part.Goals as goal

pub put_one-requires : goal.put_one-requires
put_one-requires c =
    let r = c.args.right.numbers in
    room_two MIN MAX c.args.out.now (holds_as c.args.out.now (spread_part c.args.left.ordered r.lo r.hi c.in-Whole.ensures) c.requires)

pub invariant_of-div_piece : goal.invariant_of-div_piece
invariant_of-div_piece c = record { ordered = piece_ordered c.args.left.ordered c.in-One.ensures }

pub div_piece-requires : goal.div_piece-requires
div_piece-requires c =
    let r = c.args.right.numbers in
    holds_as c.args.out.now (one_part c.args.left.ordered c.in-One.ensures r.lo r.hi) c.requires

pub div_piece-requires-in-Two : goal.div_piece-requires-in-Two
div_piece-requires-in-Two c =
    let r = c.args.right.numbers in
    two_first _ _ (two_part c.args.left.ordered c.in-Two.ensures r.lo r.hi) c.args.out.now c.requires

pub div_piece-requires-in-Two-2 : goal.div_piece-requires-in-Two-2
div_piece-requires-in-Two-2 c =
    let r = c.args.right.numbers in
    two_second _ _ (two_part c.args.left.ordered c.in-Two.ensures r.lo r.hi) c.args.out.now c.requires c.div_piece-in-Two.ensures

pub returns-in-Whole : goal.returns-in-Whole
returns-in-Whole c =
    let r = c.args.right.numbers in
    adds_as (spread_part c.args.left.ordered r.lo r.hi c.in-Whole.ensures) c.put_one.ensures

pub returns-in-One : goal.returns-in-One
returns-in-One c =
    let r = c.args.right.numbers in
    adds_as (one_part c.args.left.ordered c.in-One.ensures r.lo r.hi) c.div_piece.ensures

pub returns-in-Two : goal.returns-in-Two
returns-in-Two c =
    let r = c.args.right.numbers in
    two_added _ _ (two_part c.args.left.ordered c.in-Two.ensures r.lo r.hi) c.args.out.now c.requires c.div_piece-in-Two.ensures c.div_piece-in-Two-2.ensures
