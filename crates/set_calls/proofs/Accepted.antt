-- The operands that the arguments of a call are. Assumes nothing.
use Rattle.std.proofs.Common.{◌≡◌, ℤ, List, subst}
use Rattle.sets.specs.Sets.{Argument}
use Rattle.sets.specs.declared.Operand.{Operand}
use Rattle.sets.proofs.Operands.{argument_of}

pub argument_is : (x : Operand) {l : List ℤ} → x.set.numbers.now ≡ l → Argument l
argument_is x e = subst Argument e (argument_of x)

pub arguments_are : (x y : Operand) {l m : List ℤ} → (x.set.numbers.now ≡ l) × (y.set.numbers.now ≡ m) → Argument l × Argument m
arguments_are x y e = (argument_is x e.0, argument_is y e.1)
