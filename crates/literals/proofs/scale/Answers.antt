-- `literals::scale` meets its contract: past three decimals the exponent is 0 either way.
use mathlib.Core.Path.{◌≡◌, ap, ◌∙◌}
use Prim.Native.Nat.{ℕ, ◌-◌, ◌^◌}
use native.Mathlib.Omega.{arith}
use Rattle.meaning.specs.Reading.{scale}
use Rattle.literals.proofs.scale.Goals as goal

pub returns : goal.returns
unfolding scale
returns c = let e : 3 - c.min.result ≡ 3 - c.args.d = omega arith in c.pow.ensures ∙ ap (λ (n : ℕ). 10 ^ n) e
