-- What was written fits. Assumes nothing.
use Rattle.std.proofs.Common.{rules, length, ◌≡◌, Ok, sym}
use Rattle.std.proofs.lemmas.List.{length-take-le}
use native.Mathlib.Omega.{arith}
use Rattle.texts.proofs.Answering.{written_fits}
use Rattle.juwenfo.proofs.write_page.Goals as goal

pub slice_bounds-out-end : goal.slice_bounds-out-end
slice_bounds-out-end g c =
    let r : c.page.result ≡ Ok c.in-Ok.n = search rules in
    let e : length c.page.new.out ≡ 18688 = search rules in
    omega (arith, written_fits c.page.ensures r)

pub slice_bounds-print-end : goal.slice_bounds-print-end
slice_bounds-print-end g c =
    let r : c.page.result ≡ Ok c.in-Ok.n = search rules in
    let e : length c.page.new.out ≡ 18688 = search rules in
    sym (length-take-le _ _ (omega (arith, written_fits c.page.ensures r)))
