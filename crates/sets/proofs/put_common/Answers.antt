-- The larger start and the smaller end are those of the definition. Assumes nothing.
use native.Mathlib.Omega.{arith}
use Rattle.meaning.specs.NumberIntervals.{flat}
use Rattle.slices.proofs.Behind.{adds_as, adds_none, holds_as}
use Rattle.sets.proofs.Shared.{common_some, common_none}
use Rattle.sets.proofs.put_common.Goals as goal

pub put_one-requires : goal.put_one-requires
unfolding flat
put_one-requires c =
    let r = c.ranges in
    holds_as c.args.out.now (common_some r.s r.e r.c r.d c.max-lo.type_inv c.min-hi.type_inv c.max-lo.ensures.value c.min-hi.ensures.value c.if-lo-hi.true) c.requires

pub returns-then-lo-hi : goal.returns-then-lo-hi
returns-then-lo-hi c =
    let r = c.ranges in
    adds_as (common_some r.s r.e r.c r.d c.max-lo.type_inv c.min-hi.type_inv c.max-lo.ensures.value c.min-hi.ensures.value c.if-lo-hi.true) c.put_one.ensures

pub returns-else-lo-hi : goal.returns-else-lo-hi
returns-else-lo-hi c =
    let r = c.ranges in
    adds_as (common_none r.s r.e r.c r.d c.max-lo.type_inv c.min-hi.type_inv c.max-lo.ensures.value c.min-hi.ensures.value c.if-lo-hi.false) (adds_none c.args.out.now (omega arith))
