-- A set has half as many intervals as ends. Assumes nothing.
use mathlib.Core.List.{[], ◌∷◌}
use mathlib.Core.Path.{ap}
use Prim.Native.Nat.{ℕ}
use native.Mathlib.Omega.{arith}
use lib.ListN.{length}
use Rattle.laws.proofs.Flat.{length_flat}
use Rattle.writer.proofs.Chain.{appends_as}
use Rattle.set_values.specs.Value.{set_of}
use Rattle.implementers.proofs.IntervalCountRegisterText.write.Goals as goal

pub returns : goal.returns
returns c =
    appends_as (ap (λ (n : ℕ). c.args.r ∷ n ∷ []) (omega (arith, ap length c.ends.ensures, length_flat (set_of c.args.set)))) c.push.ensures
