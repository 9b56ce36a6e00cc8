-- The exact ends are as far apart as the two intervals are long together, and the test is moved so that its sum can't wrap. Assumes nothing.
use Rattle.std.proofs.Common.{◌+◌, ◌-◌, ◌^◌, ◌∙◌, leb, rules, arith}
use borrow.Author.Tests.{leb-true, le-leb}
use Rattle.laws.proofs.Integers.{same_test}
use Rattle.interval.proofs.SumRules.{distance_gives, sum_far}
use Rattle.interval.proofs.sum.reach_all.Goals as goal

pub returns : goal.returns
returns c =
    let l = c.args.left in
    let r = c.args.right in
    let a = c.distance.result in
    let b = c.distance-2.result in
    same_test (leb (2 ^ 64 - 1 - a) b) (leb (2 ^ 64 - 1) (a + b))
    (λ t. le-leb (2 ^ 64 - 1) (a + b) (omega (arith, leb-true (2 ^ 64 - 1 - a) b t, c.distance.type_inv)))
    (λ t. le-leb (2 ^ 64 - 1 - a) b (omega (arith, leb-true (2 ^ 64 - 1) (a + b) t)))
    ∙ sum_far l.lo l.hi r.lo r.hi (distance_gives {s = l.lo} {e = l.hi} (search rules) (search rules) c.distance.ensures)
    (distance_gives {s = r.lo} {e = r.hi} (search rules) (search rules) c.distance-2.ensures)
