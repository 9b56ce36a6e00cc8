-- The wrapped ends are the point results of the ends. Assumes nothing.
use Rattle.std.proofs.Common.{refl, rules}
use Rattle.meaning.specs.Interval.{add_pair}
use Rattle.number.proofs.Points.{add_gives}
use Rattle.slices.proofs.Behind.{adds_as}
use Rattle.interval.proofs.SumRules.{split_is}
use Rattle.interval.proofs.sum.add_pair.Goals as goal

pub returns : goal.returns
unfolding add_pair
returns c =
    let l = c.args.left in
    let r = c.args.right in
    adds_as (split_is _ _ refl (add_gives {x = l.lo} {y = r.lo} (search rules) (search rules) c.add-u.type_inv c.add-u.ensures) (add_gives {x = l.hi} {y = r.hi} (search rules) (search rules) c.add-v.type_inv c.add-v.ensures))
    c.put_split.ensures
