-- `literals::read_register` meets its contract: the cap is far above 16, so the test on the held number is the definition's.
use Rattle.literals.proofs.Literals.{register_none, register_needless, register_there, register_past}
use Rattle.literals.proofs.read_register.Goals as goal
use Rattle.literals.proofs.read_register.Goals.{then-i-eq0-via-then-i-eq0, then-i-eq0-via-else-i-eq0+then-needless}

pub returns-then-i-eq0 : goal.returns-then-i-eq0
returns-then-i-eq0 c =
    elim c.then-i-eq0.branch [
      | then-i-eq0-via-then-i-eq0 w ↦ register_none c.args.text.now c.digits-i.ensures w.if-i-eq0.true
      | then-i-eq0-via-else-i-eq0+then-needless w ↦
          register_needless c.args.text.now c.digits-i.ensures w.if-i-eq0.false w.needless.ensures w.if-needless.true
    ]

pub returns-then-v : goal.returns-then-v
returns-then-v c =
    register_there c.args.text.now c.digits-i.ensures c.if-i-eq0.false c.needless.ensures
    c.if-needless.false c.first.ensures c.number-v.ensures c.if-v.true

pub returns-else-v : goal.returns-else-v
returns-else-v c =
    register_past c.args.text.now c.digits-i.ensures c.if-i-eq0.false c.needless.ensures c.if-needless.false
    c.first.ensures c.number-v.ensures c.if-v.false
