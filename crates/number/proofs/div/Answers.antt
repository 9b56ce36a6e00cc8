-- It is 1000 times the dividend, wrapped, then divided, wrapping, as the definition has it.
-- Assumes nothing.
use Rattle.std.proofs.Common.{◌≡◌, true, false, ℤ, pos, ◌*ℤ◌, ap, ◌∙◌, to_z-of_z}
use Rattle.std.specs.Prelude.{Some}
use lib.Signed.{quot_z}
use Rattle.meaning.specs.Number.{ONE, eq_z, wrap, quotient}
use Rattle.laws.proofs.Integers.{zarith, if_yes, if_no}
use Rattle.laws.proofs.Machine.{lit, ok, same, differ}
use Rattle.number.proofs.div.Goals as goal

pub returns-then-y-eq0 : goal.returns-then-y-eq0
unfolding quotient
returns-then-y-eq0 c =
    let e = same {y = pos 0} c.ranges.y (lit _ tt) c.if-y-eq0.true in
    let t : eq_z c.args.y (pos 0) ≡ true = omega zarith in
    if_yes _ _ t

pub returns-else-y-eq0 : goal.returns-else-y-eq0
unfolding quotient
returns-else-y-eq0 c =
    let m = to_z-of_z (ok c.wrapping_mul.type_inv) ∙ c.wrapping_mul.ensures ∙ ap (λ (z : ℤ). wrap (ONE *ℤ z)) (to_z-of_z c.ranges.x) in
    let d = differ c.args.y (pos 0) c.if-y-eq0.false in
    let t : eq_z c.args.y (pos 0) ≡ false = omega zarith in
    ap Some (to_z-of_z (ok c.quot.type_inv) ∙ c.quot.ensures ∙ (λ i. wrap (quot_z (m i) (to_z-of_z c.ranges.y i)))) ∙ if_no _ _ t
