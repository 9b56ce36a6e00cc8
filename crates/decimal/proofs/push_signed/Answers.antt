-- A minus and the digits of the magnitude, or the digits alone. Assumes nothing.
use mathlib.Core.Path.{◌≡◌, ap, ◌∙◌}
use mathlib.Core.List.{◌++◌}
use lib.IntN.{ℤ, pos, nat_abs}
use mir.Facts.{to_z-of_z}
use Prim.Native.Nat.{ℕ}
use lib.Signed.{◌≤ℤ◌, ◌<ℤ◌}
use Rattle.meaning.specs.Bytes.{bytes}
use Rattle.meaning.specs.Listing.{decimal, decimal_z}
use Rattle.laws.proofs.Integers.{zarith}
use Rattle.laws.proofs.Machine.{num}
use Rattle.decimal.proofs.Digits.{minus_digits, plain_digits}
use Rattle.writer.proofs.Chain.{appends_as, appends_next, fits_as, fits_next, fits_first}
use Rattle.decimal.proofs.push_signed.Goals as goal
use Rattle.decimal.proofs.push_signed.Goals.{then-x-lt0, else-x-lt0}

-- the minus and the digits of the magnitude, read back from the machine's x
negative : (x y : ℤ) (n : ℕ) → y ≡ x → n ≡ nat_abs y → x <ℤ pos 0 → bytes "-" ++ decimal n ≡ decimal_z x
negative x y n e d h = ap (λ (n : ℕ). bytes "-" ++ decimal n) (d ∙ ap nat_abs e) ∙ minus_digits x h

plain : (x y : ℤ) (n : ℕ) → y ≡ x → n ≡ nat_abs y → pos 0 ≤ℤ x → decimal n ≡ decimal_z x
plain x y n e d h = ap decimal (d ∙ ap nat_abs e) ∙ plain_digits x h

pub push-requires : goal.push-requires
push-requires c =
    let h : c.args.x <ℤ pos 0 = omega (zarith, num c.ranges.x) in
    fits_first (bytes "-") (decimal (nat_abs c.args.x)) _ _ (fits_as _ _ (minus_digits c.args.x h) c.requires)

pub push_number-requires : goal.push_number-requires
push_number-requires c =
    let e = to_z-of_z c.ranges.x in
    let d = c.unsigned_abs.ensures.value in
    elim c.if-x-lt0.branch [
      | then-x-lt0 w ↦
          let h : c.args.x <ℤ pos 0 = omega (zarith, num c.ranges.x) in
          rw w.out-is (fits_next w.push.ensures _ (fits_as _ _ (negative _ _ _ e d h) c.requires))
      | else-x-lt0 w ↦
          let h : pos 0 ≤ℤ c.args.x = omega (zarith, num c.ranges.x) in
          rw w.out-is (fits_as _ _ (plain _ _ _ e d h) c.requires)
    ]

pub returns : goal.returns
returns c =
    let e = to_z-of_z c.ranges.x in
    let d = c.unsigned_abs.ensures.value in
    elim c.if-x-lt0.branch [
      | then-x-lt0 w ↦
          let h : c.args.x <ℤ pos 0 = omega (zarith, num c.ranges.x) in
          appends_as (negative _ _ _ e d h) (appends_next w.push.ensures (rw w.out-is at c.push_number.ensures))
      | else-x-lt0 w ↦
          let h : pos 0 ≤ℤ c.args.x = omega (zarith, num c.ranges.x) in
          appends_as (plain _ _ _ e d h) (rw w.out-is at c.push_number.ensures)
    ]
