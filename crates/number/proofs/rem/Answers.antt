-- By any divisor but 0 the remainder is the definition's. Assumes nothing.
use Rattle.std.proofs.Common.{◌≡◌, true, false, pos, ap, ◌∙◌, to_z-of_z}
use Rattle.std.specs.Prelude.{Some}
use lib.Signed.{rem_z}
use Rattle.meaning.specs.Number.{eq_z, remainder}
use Rattle.laws.proofs.Integers.{zarith, if_yes, if_no}
use Rattle.laws.proofs.Machine.{lit, same, differ, back}
use Rattle.number.proofs.rem.Goals as goal

pub returns-then-y-eq0 : goal.returns-then-y-eq0
unfolding remainder
returns-then-y-eq0 c =
    let e = same {y = pos 0} c.ranges.y (lit _ tt) c.if-y-eq0.true in
    let t : eq_z c.args.y (pos 0) ≡ true = omega zarith in
    if_yes _ _ t

pub returns-else-y-eq0 : goal.returns-else-y-eq0
unfolding remainder
returns-else-y-eq0 c =
    let d = differ c.args.y (pos 0) c.if-y-eq0.false in
    let t : eq_z c.args.y (pos 0) ≡ false = omega zarith in
    ap Some (back _ c.wrapping_rem.type_inv ∙ c.wrapping_rem.ensures ∙ (λ i. rem_z (to_z-of_z c.ranges.x i) (to_z-of_z c.ranges.y i))) ∙ if_no _ _ t
