-- The lines that are left, worked on the state, come to what all of them do. Assumes nothing.
use Prim.Native.Nat.{ℕ}
use Rattle.meaning.specs.Text.{lines}
use Rattle.sheet.specs.Judging.{IsSheet}
use Rattle.run.proofs.Steps.{Running}
use Rattle.run.proofs.work.Given as goal

abbrev pub invariant-loop-n : goal.invariant-loop-n
invariant-loop-n l = (n : ℕ) (sheet : IsSheet l.text n) → Running l.lent l.initial.state l.state sheet.lines l.n-iterator.count (lines l.n-iterator.iter.rest.now)
