-- Six turns are enough, and a pair gives at most 16 intervals. Assumes nothing.
use Rattle.std.proofs.Common.{rules}
use Rattle.meaning.specs.Interval.{rem_pair}
use Rattle.interval.proofs.Cuts.{proper}
use Rattle.remainders.proofs.RemRules.{rem_room}
use Rattle.remainders.proofs.rem_pair.Goals as goal

pub rem_with-requires : goal.rem_with-requires
rem_with-requires c = rem_room c.args.out.now (proper c.args.left (search rules) (search rules)) (proper c.args.right (search rules) (search rules)) c.requires

pub returns : goal.returns
unfolding rem_pair
returns c = c.rem_with.ensures
