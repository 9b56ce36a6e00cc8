-- The numbers behind the pair move down over it, and the new one is put where the last two numbers stood.
use mathlib.Core.Path.{◌∙◌}
use Rattle.laws.proofs.Machine.{back}
use Rattle.closing.proofs.Fronts.{push_is}
use Rattle.closing.proofs.push.Goals as goal

pub returns : goal.returns
returns c =
    let s = back c.args.s c.ranges.s.sfits in
    let e = back c.args.e c.ranges.e.sfits in
    c.put_pair.ensures ∙ rw (s, e) (push_is c.args.front.now c.args.at c.args.s c.args.e c.requires c.copy_within.new.self c.copy_within.ensures.after)
