-- The test is whether the text fits. Assumes nothing.
use mathlib.Core.Path.{refl, ap}
use mathlib.Core.List.{List, ◌++◌}
use Prim.Native.Nat.{ℕ}
use native.Mathlib.Omega.{arith}
use lib.ListN.{length, drop}
use Rattle.meaning.specs.Lists.{over}
use Rattle.texts.proofs.Answering.{writes_short, writes_all}
use Rattle.listing.proofs.hand_over.Goals as goal

pub returns-then-out-n : goal.returns-then-out-n
returns-then-out-n c = writes_short c.args.from.now c.args.out.now (omega arith)

pub returns : goal.returns
unfolding over
returns c =
    writes_all c.args.from.now
    refl (ap (λ (l : List ℕ). l ++ drop (length c.args.from.now) c.args.out.now) c.copy.ensures) (omega arith)
