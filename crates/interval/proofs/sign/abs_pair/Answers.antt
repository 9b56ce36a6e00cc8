-- The branches are the cases of the definition: MIN is in an interval just when it is its start. Assumes nothing.
use Rattle.std.proofs.Common.{◌∙◌, ◌++◌, ap, List, w64, SFits, rules}
use Rattle.std.proofs.Math.IntN.{suc_ℤ}
use lib.Signed.{lt_z}
use Rattle.meaning.specs.Number.{MIN}
use Rattle.meaning.specs.Interval.{Interval, span, only, abs_rest}
use Rattle.laws.proofs.Integers.{zarith, is_within}
use Rattle.laws.proofs.Machine.{num, back}
use Rattle.slices.proofs.Behind.{adds_as}
use Rattle.interval.proofs.Cuts.{part_some, part_none}
use Rattle.interval.proofs.SignRules.{abs_least, abs_from_least, abs_plain}
use Rattle.interval.proofs.sign.abs_pair.Goals as goal

pub returns-then-left-gt-MIN : goal.returns-then-left-gt-MIN
returns-then-left-gt-MIN c =
    let l : SFits w64 c.args.left.lo = search rules in
    let m = c.magnitudes-m in
    adds_as ((λ j. span (back m.result.lo (search rules) j) (back m.result.hi (search rules) j)) ∙ m.ensures ∙ abs_plain _ _ (omega (zarith, num l))) c.put_one.ensures

pub above-requires : goal.above-requires
above-requires c =
    let l : SFits w64 c.args.left.lo = search rules in
    let h : SFits w64 c.args.left.hi = search rules in
    is_within (omega (zarith, num l)) (omega (zarith, num h))

pub returns-in-Some : goal.returns-in-Some
returns-in-Some c =
    let l : SFits w64 c.args.left.lo = search rules in
    let h : SFits w64 c.args.left.hi = search rules in
    let m = c.magnitudes-m-in-Some in
    let p = part_some (lt_z MIN c.args.left.hi) (suc_ℤ MIN) c.args.left.hi c.in-Some.ensures in
    adds_as
    ((λ j. only MIN ++ span (back m.result.lo (search rules) j) (back m.result.hi (search rules) j))
    ∙ ap (λ (x : List Interval). only MIN ++ x) (m.ensures ∙ (λ j. abs_rest (p.1 j) (p.2 j)))
    ∙ abs_from_least _ _ (omega (zarith, num l)) (omega (zarith, p.0, num h)))
    c.put_two.ensures

pub returns-in_default : goal.returns-in_default
returns-in_default c =
    let l : SFits w64 c.args.left.lo = search rules in
    let h : SFits w64 c.args.left.hi = search rules in
    let p = part_none (lt_z MIN c.args.left.hi) (suc_ℤ MIN) c.args.left.hi c.in_default.ensures in
    adds_as (abs_least _ _ (omega (zarith, num l)) (omega (zarith, p, num h))) c.put_one-in_default.ensures
