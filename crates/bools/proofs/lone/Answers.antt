-- One interval whose ends are the same. Assumes nothing.
use mathlib.Core.Path.{◌≡◌, sym, ◌∙◌}
use mathlib.Core.Bool.{true, false}
use Prim.Native.Nat.{◌<◌, ◌^◌}
use native.Mathlib.Omega.{arith}
use lib.Signed.{mag}
use Rattle.std.specs.Prelude.{None, Some}
use Rattle.meaning.specs.Number.{eq_z}
use Rattle.laws.proofs.Integers.{zarith, if_yes, if_no}
use Rattle.laws.proofs.Machine.{back, fit, same, differ}
use Rattle.writer.proofs.Pairs.{first, second}
use Rattle.bools.proofs.Ends.{constant_not, constant_one}
use Rattle.bools.proofs.lone.Goals as goal

pub returns-in-len1 : goal.returns-in-len1
returns-in-len1 c =
    let x = c.as_chunks.result.0.now in
    let a = first x 0 in
    let b = second x 0 in
    let g : mag a < 2 ^ 63 = omega arith in
    let h : mag b < 2 ^ 63 = omega arith in
    let e = same (fit a g) (fit b h) c.if-a-b.true in
    let t : eq_z a b ≡ true = omega (zarith, e) in
    let n = c.as_chunks.ensures.front_len in
    rw (back a g) (sym (constant_one c.args.s.now c.as_chunks.ensures.front (omega (arith, n, c.in-len1.len_at_least, c.in-len1.len_below)) ∙ sym (if_yes (Some a) None t)))

pub returns-in_default : goal.returns-in_default
returns-in_default c = sym (constant_not c.args.s.now (λ h. omega (arith, h, c.as_chunks.ensures.front_len, c.in_default.len_below)))

pub returns-in_default-2 : goal.returns-in_default-2
returns-in_default-2 c =
    let x = c.as_chunks.result.0.now in
    let t : eq_z (first x 0) (second x 0) ≡ false = omega (zarith, differ (first x 0) (second x 0) c.if-a-b.false) in
    let n = c.as_chunks.ensures.front_len in
    sym (constant_one c.args.s.now c.as_chunks.ensures.front (omega (arith, n, c.in-len1.len_at_least, c.in-len1.len_below)) ∙ sym (if_no (Some (first x 0)) None t))

pub returns-in_default-3 : goal.returns-in_default-3
returns-in_default-3 c = sym (constant_not c.args.s.now (λ h. omega (arith, h, c.as_chunks.ensures.front_len, c.in_default.len_at_least)))
