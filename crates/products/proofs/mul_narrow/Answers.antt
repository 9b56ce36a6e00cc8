-- No product of narrow ends leaves the range, and the corners are in window 0, so their spread is the one interval of them. Assumes nothing.
use Rattle.std.proofs.Common.{◌∙◌, ap, ◌*ℤ◌, w64, SFits, rules}
use Rattle.meaning.specs.Number.{thousandth}
use Rattle.meaning.specs.Interval.{span}
use Rattle.laws.proofs.Machine.{back}
use Rattle.slices.proofs.Behind.{adds_as}
use Rattle.wide.proofs.Extremes.{least_of_four, greatest_of_four}
use Rattle.products.proofs.SmallProducts.{st_fits, sf_fits, et_fits, ef_fits, product_read, small_mul}
use Rattle.products.proofs.mul_narrow.Goals as goal

pub returns : goal.returns
returns c =
    let s = c.args.left.lo in
    let e = c.args.left.hi in
    let t = c.args.right.lo in
    let f = c.args.right.hi in
    let n = c.requires.first_narrow in
    let m = c.requires.second_narrow in
    let S : SFits w64 s = search rules in
    let E : SFits w64 e = search rules in
    let T : SFits w64 t = search rules in
    let F : SFits w64 f = search rules in
    let p = product_read S T (st_fits s e t f n m) in
    let q = product_read S F (sf_fits s e t f n m) in
    let u = product_read E T (et_fits s e t f n m) in
    let v = product_read E F (ef_fits s e t f n m) in
    let x = c.extremes-least in
    let l = back x.result.0 (search rules) ∙ x.ensures.least ∙ least_of_four ◌*ℤ◌ s e t f p q u v in
    let g = back x.result.1 (search rules) ∙ x.ensures.greatest ∙ greatest_of_four ◌*ℤ◌ s e t f p q u v in
    let a = back _ c.milli.type_inv ∙ c.milli.ensures ∙ ap thousandth l in
    let b = back _ c.milli-2.type_inv ∙ c.milli-2.ensures ∙ ap thousandth g in
    adds_as ((λ j. span (a j) (b j)) ∙ small_mul s e t f n m) c.put_one.ensures
