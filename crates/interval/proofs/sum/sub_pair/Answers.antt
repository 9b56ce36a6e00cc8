-- The exact ends of the difference are as far apart as those of the sum, and the wrapped ends are the point results of the ends. Assumes nothing.
use Rattle.std.proofs.Common.{rules}
use Rattle.meaning.specs.Interval.{sub_pair}
use Rattle.number.proofs.Points.{sub_gives}
use Rattle.slices.proofs.Behind.{adds_as}
use Rattle.interval.proofs.SumRules.{split_is, far_difference}
use Rattle.interval.proofs.sum.sub_pair.Goals as goal

pub returns : goal.returns
unfolding sub_pair
returns c =
    let l = c.args.left in
    let r = c.args.right in
    adds_as (split_is _ _ (far_difference l.lo l.hi r.lo r.hi) (sub_gives {x = l.lo} {y = r.hi} (search rules) (search rules) c.sub-u.type_inv c.sub-u.ensures) (sub_gives {x = l.hi} {y = r.lo} (search rules) (search rules) c.sub-v.type_inv c.sub-v.ensures))
    c.put_split.ensures
