-- The sets share a number just when their intersection has one. Assumes nothing.
use native.Mathlib.Omega.{arith}
use borrow.Author.Tests.{le-ltb, lt-ltb}
use Rattle.bools.proofs.Some.{ne_apart, ne_shared}
use Rattle.bools.proofs.ne.Goals as goal

pub returns-then-not-shared : goal.returns-then-not-shared
returns-then-not-shared c =
    let n = c.meet.new.out.len in
    let z = le-ltb 0 n c.if-not-shared.true in
    rw z (ne_apart _ _ n (omega (arith, c.meet.ensures.ends.count)) (omega (arith, c.if-not-shared.true)))

pub returns-else-not-shared : goal.returns-else-not-shared
returns-else-not-shared c =
    let n = c.meet.new.out.len in
    let z = lt-ltb 0 n c.if-not-shared.false in
    rw z (ne_shared _ _ n (omega (arith, c.meet.ensures.ends.count)) (λ e. omega (arith, e, c.if-not-shared.false)) _ c.same_number.ensures)
