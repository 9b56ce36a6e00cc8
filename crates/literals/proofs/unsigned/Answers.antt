-- `literals::unsigned` meets its contract: each test is the definition's, and a number held at the cap tells the same as the number.
use native.Mathlib.Omega.{arith}
use Rattle.literals.proofs.Within.{digits_le}
use Rattle.literals.proofs.Literals.{unsigned_none, unsigned_needless, unsigned_whole, unsigned_no_decimal, unsigned_long, unsigned_decimal}
use Rattle.literals.proofs.unsigned.Goals as goal
use Rattle.literals.proofs.unsigned.Goals.{then-i-eq0-via-then-i-eq0, then-i-eq0-via-else-i-eq0+then-needless, then-d-eq0-via-then-d-eq0, then-d-eq0-via-else-d-eq0+then-d-gt3}

pub returns-then-i-eq0 : goal.returns-then-i-eq0
returns-then-i-eq0 c =
    elim c.then-i-eq0.branch [
      | then-i-eq0-via-then-i-eq0 w ↦ unsigned_none c.args.negated c.args.o c.args.text.now c.digits-i.ensures w.if-i-eq0.true
      | then-i-eq0-via-else-i-eq0+then-needless w ↦
          unsigned_needless c.args.negated c.args.o c.args.text.now c.digits-i.ensures w.if-i-eq0.false w.needless.ensures
          w.if-needless.true
    ]

pub overflow_add-result : goal.overflow_add-result
overflow_add-result c = omega (arith, digits_le c.args.text.now)

pub returns-then-at-ne46 : goal.returns-then-at-ne46
returns-then-at-ne46 c =
    unsigned_whole c.args.negated c.args.o c.args.text.now c.digits-i.ensures c.if-i-eq0.false c.needless.ensures c.if-needless.false c.at.ensures
    c.first.ensures c.number-v.ensures c.if-at-ne46.true c.scaled.ensures c.finish.ensures

pub returns-then-d-eq0 : goal.returns-then-d-eq0
returns-then-d-eq0 c =
    elim c.then-d-eq0.branch [
      | then-d-eq0-via-then-d-eq0 w ↦
          unsigned_no_decimal c.args.negated c.args.o c.args.text.now c.digits-i.ensures c.if-i-eq0.false c.needless.ensures c.if-needless.false c.at.ensures
          c.first.ensures c.number-v.ensures c.if-at-ne46.false c.tail-t.ensures c.digits-d.ensures w.if-d-eq0.true
      | then-d-eq0-via-else-d-eq0+then-d-gt3 w ↦
          unsigned_long c.args.negated c.args.o c.args.text.now c.digits-i.ensures c.if-i-eq0.false c.needless.ensures c.if-needless.false c.at.ensures
          c.first.ensures c.number-v.ensures c.if-at-ne46.false c.tail-t.ensures c.digits-d.ensures w.if-d-eq0.false w.if-d-gt3.true
    ]

pub returns : goal.returns
returns c =
    unsigned_decimal c.args.negated c.args.o c.args.text.now c.digits-i.ensures c.if-i-eq0.false c.needless.ensures c.if-needless.false c.at.ensures
    c.first.ensures c.number-v.ensures c.if-at-ne46.false c.tail-t.ensures c.digits-d.ensures c.if-d-eq0.false c.if-d-gt3.false
    c.first-2.ensures c.number.ensures c.scaled-2.ensures c.finish-2.ensures
