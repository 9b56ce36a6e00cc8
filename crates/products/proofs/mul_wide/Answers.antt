-- The corners are the exact ends of the definition, the least at most the greatest, and their spread is written with its own ends divided. Assumes nothing.
use Rattle.std.proofs.Common.{sym, ap, ap₂, ◌∙◌, ℤ, ◌≤ℤ◌, ◌*ℤ◌, w64, SFits, to_z-of_z, rules}
use mathlib.Core.Path.{subst₂}
use Rattle.meaning.specs.Interval.{spread, least_corner, greatest_corner}
use Rattle.laws.proofs.Machine.{rd}
use Rattle.laws.proofs.Products.{corners_ordered}
use Rattle.slices.proofs.Behind.{adds_as}
use Rattle.products.specs.Thousandths.{thousandths}
use Rattle.products.proofs.Thousandths.{thousandths_are}
use Rattle.products.proofs.mul_wide.Goals as goal

pub spread_of-requires : goal.spread_of-requires
spread_of-requires c =
    let l = c.args.left in
    let r = c.args.right in
    subst₂ (λ (p q : ℤ). p ≤ℤ q) (sym c.corners.ensures.least) (sym c.corners.ensures.greatest) (corners_ordered ◌*ℤ◌ (rd l.lo) (rd l.hi) (rd r.lo) (rd r.hi))

pub returns : goal.returns
returns c =
    let l = c.args.left in
    let r = c.args.right in
    let S : SFits w64 l.lo = search rules in
    let E : SFits w64 l.hi = search rules in
    let T : SFits w64 r.lo = search rules in
    let F : SFits w64 r.hi = search rules in
    let p = c.corners.ensures.least ∙ (λ i. least_corner ◌*ℤ◌ (to_z-of_z S i) (to_z-of_z E i) (to_z-of_z T i) (to_z-of_z F i)) in
    let q = c.corners.ensures.greatest ∙ (λ i. greatest_corner ◌*ℤ◌ (to_z-of_z S i) (to_z-of_z E i) (to_z-of_z T i) (to_z-of_z F i)) in
    adds_as (ap thousandths (c.spread_of.ensures ∙ ap₂ spread p q) ∙ sym (thousandths_are l.lo l.hi r.lo r.hi)) c.put_thousandths.ensures
