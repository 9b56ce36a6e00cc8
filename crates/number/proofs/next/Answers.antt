-- The sum with 1 fits where x is below MAX, and is then the number after x. Assumes nothing.
use Rattle.std.proofs.Common.{◌≡◌, true, ℤ, pos, ◌+ℤ◌, ap, ◌∙◌, subst, to_z-of_z, w64, SFits, SomeIff, Option, Some, None}
use lib.Signed.{lt_z}
use Rattle.meaning.specs.Number.{MAX}
use Rattle.meaning.specs.Number as point
use Rattle.laws.proofs.Integers.{zarith, by_test, if_yes, if_no, add_parts}
use Rattle.laws.proofs.Machine.{num, fits_out}
use Rattle.number.proofs.Points.{add_one_is}
use Rattle.number.proofs.next.Goals as goal

next_is : {x : ℤ} {r : Option ℤ} → SFits w64 x → SomeIff r (SFits w64 (x +ℤ pos 1)) (x +ℤ pos 1) → r ≡ point.next x
unfolding point.next
next_is {x} {r = None} f h =
    by_test (lt_z x MAX)
    (λ p. absurd (h (fits_out _ (omega (zarith, num f, p, add_parts x (pos 1))))))
    (λ p. if_no _ _ p)
next_is {x} {r = Some y} f h =
    let t : lt_z x MAX ≡ true = omega (zarith, num h.0, add_parts x (pos 1)) in
    ap Some (h.1 ∙ add_one_is x) ∙ if_yes _ _ t

pub returns : goal.returns
returns c =
    let f = c.ranges.x in
    next_is f (subst (λ (z : ℤ). SomeIff c.checked_add.result (SFits w64 (z +ℤ pos 1)) (z +ℤ pos 1)) (to_z-of_z f) c.checked_add.ensures)
