-- With the pieces of the registers below r written. Assumes nothing.
use Rattle.listed.proofs.Showing.{Below}
use Rattle.listed.proofs.Shown.write.Given as goal

abbrev pub invariant-loop-r : goal.invariant-loop-r
invariant-loop-r g l = Below g.T.RegisterText.text l.self l.r l.out l.initial.out
