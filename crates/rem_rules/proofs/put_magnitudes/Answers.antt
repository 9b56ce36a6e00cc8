-- Each return is the case of the definition that its tests say. Assumes nothing.
use Rattle.std.proofs.Common.{◌-◌, ◌%◌, arith}
use Rattle.slices.proofs.Behind.{adds_as, two_second, two_added}
use Rattle.rem_rules.proofs.MagnitudeRules.{magnitudes_all, magnitudes_wide, magnitudes_past, magnitudes_at, magnitudes_over, signed_two}
use Rattle.rem_rules.proofs.put_magnitudes.Goals as goal

pub returns-then-d-b : goal.returns-then-d-b
returns-then-d-b c = adds_as (magnitudes_all c.args.negated c.args.left c.args.right c.if-d-b.true) c.put_signed.ensures

pub returns-then-c-d : goal.returns-then-c-d
returns-then-c-d c = adds_as (magnitudes_wide c.args.negated c.args.left c.args.right c.if-d-b.false c.if-c-d.true) c.put_signed-then-c-d.ensures

pub returns-then-m-a : goal.returns-then-m-a
returns-then-m-a c = adds_as (magnitudes_past c.args.negated c.args.left c.args.right c.if-d-b.false c.if-c-d.false c.if-m-a.true) c.put_signed-then-m-a.ensures

pub put_signed-requires-then-a-m-clause-room : goal.put_signed-requires-then-a-m-clause-room
put_signed-requires-then-a-m-clause-room c =
    let e = magnitudes_over c.args.negated c.args.left c.args.right c.if-d-b.false c.if-c-d.false c.if-a-m.true in
    let two = signed_two c.args.negated (c.args.left.least % c.args.right.least) (c.args.right.least - 1) in
    omega (arith, two, two_second _ _ e c.args.out.now c.requires.room c.put_signed-2.ensures)

pub returns-then-a-m : goal.returns-then-a-m
returns-then-a-m c =
    let e = magnitudes_over c.args.negated c.args.left c.args.right c.if-d-b.false c.if-c-d.false c.if-a-m.true in
    two_added _ _ e c.args.out.now c.requires.room c.put_signed-2.ensures c.put_signed-then-a-m.ensures

pub returns-else-a-m : goal.returns-else-a-m
returns-else-a-m c = adds_as (magnitudes_at c.args.negated c.args.left c.args.right c.if-d-b.false c.if-c-d.false (omega arith)) c.put_signed-2.ensures
