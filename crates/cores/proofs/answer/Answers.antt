-- The results of all pairs stand in the work slice, and are joined there. Assumes nothing.
use Rattle.std.proofs.Common.{rules}
use Rattle.cores.proofs.Joined.{join_asks, cored}
use Rattle.cores.proofs.answer.Goals as goal

pub rebuild-count-requires : goal.rebuild-count-requires
rebuild-count-requires c =
    join_asks c.args.op c.args.left c.args.right c.new-results.ensures c.all.ensures (search rules)

pub returns : goal.returns
returns c =
    cored c.args.op c.args.left c.args.right c.new-results.ensures c.all.ensures (search rules) c.rebuild-count.auto.ends c.rebuild-count.ensures c.flag_of-flag.ensures
