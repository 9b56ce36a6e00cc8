-- The distance of the words is the distance of the numbers: it is far from two windows on, near behind, and else the lower words decide. Assumes nothing.
use Rattle.std.proofs.Common.{◌≡◌, ◌∙◌, ◌+◌, ◌*◌, ◌^◌, ◌≤◌, ◌<◌, true, false, leb, eqb, arith}
use borrow.Author.Tests.{eqb-true, eqb-false, ne_eqb, leb-true, leb-false}
use Rattle.meaning.specs.Interval.{far}
use Rattle.laws.proofs.Integers.{by_test}
use Rattle.wide.specs.declared.product.Wide.{Wide}
use Rattle.wide.specs.Exact.{number_of}
use Rattle.wide.proofs.Order.{near_behind, far_beyond, near_next, far_next, near_same, far_same}
use Rattle.wide.proofs.Words.{is_held}
use Rattle.wide.proofs.Spreads.{far_yes, far_no}
use Rattle.wide.proofs.spread.far_apart.Goals as goal

-- by the words
module _ (p q : Wide) where
  yes : p.hi * 2 ^ 64 + p.lo + 18446744073709551615 ≤ q.hi * 2 ^ 64 + q.lo → true ≡ far (number_of p) (number_of q)
  yes h = far_yes (is_held p.hi p.lo) (is_held q.hi q.lo) h

  no : q.hi * 2 ^ 64 + q.lo < p.hi * 2 ^ 64 + p.lo + 18446744073709551615 → false ≡ far (number_of p) (number_of q)
  no h = far_no (is_held p.hi p.lo) (is_held q.hi q.lo) h

pub returns-in-None : goal.returns-in-None
returns-in-None c = let x = c.args in no x.p x.q (near_behind x.p.hi x.q.hi x.p.lo x.q.lo (omega (arith, c.in-None.ensures)) (omega arith))

pub returns-then-p-eq0 : goal.returns-then-p-eq0
returns-then-p-eq0 c =
    let x = c.args in
    let e = c.in-Some-eq0.ensures in
    let n = c.in-Some-eq0.field-0-test in
    by_test (eqb x.q.lo 18446744073709551615)
    (λ a. a ∙ yes x.p x.q (far_same x.p.hi x.q.hi x.p.lo x.q.lo (omega arith) (omega (arith, eqb-true x.q.lo 18446744073709551615 a))))
    (λ a. a ∙ no x.p x.q (near_same x.p.hi x.q.hi x.p.lo x.q.lo (omega arith) (omega (arith, eqb-false x.q.lo 18446744073709551615 a))))

pub returns-else-p-eq0 : goal.returns-else-p-eq0
returns-else-p-eq0 c =
    let x = c.args in
    let e = c.in-Some-eq0.ensures in
    let n = c.in-Some-eq0.field-0-test in
    ne_eqb x.p.lo 0 c.if-p-eq0.false ∙ no x.p x.q (near_same x.p.hi x.q.hi x.p.lo x.q.lo (omega arith) (omega (arith, c.if-p-eq0.false)))

pub returns-in-Some-eq1 : goal.returns-in-Some-eq1
returns-in-Some-eq1 c =
    let x = c.args in
    let e = c.in-Some-eq1.ensures in
    let n = c.in-Some-eq1.field-0-test in
    let d = c.saturating_sub.ensures in
    by_test (leb c.saturating_sub.result 1)
    (λ a. let l = leb-true c.saturating_sub.result 1 a in a ∙ yes x.p x.q (far_next x.p.hi x.q.hi x.p.lo x.q.lo (omega arith) (omega arith)))
    (λ a. let l = leb-false c.saturating_sub.result 1 a in a ∙ no x.p x.q (near_next x.p.hi x.q.hi x.p.lo x.q.lo (omega arith) (omega arith) (omega arith)))

pub returns-in-Some : goal.returns-in-Some
returns-in-Some c = let x = c.args in let e = c.in-Some.ensures in let t = c.in-Some.field-0-test in let i = c.in-Some.is in yes x.p x.q (far_beyond x.p.hi x.q.hi x.p.lo x.q.lo (omega arith) (omega arith))
