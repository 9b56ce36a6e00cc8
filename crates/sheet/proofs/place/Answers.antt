-- The line stands between what is behind the lines before it and the next LF. Assumes nothing.
use Rattle.std.proofs.Common.{arith, refl, ap, rules, ◌≡◌, suc}
use Rattle.meaning.specs.Text.{Split}
use Rattle.sheet.proofs.Feeds.{none_first, some_first}
use Rattle.sheet.proofs.Places.{placed_there, placed_none, placed_zero}
use Rattle.sheet.proofs.place.Goals as goal

pub returns-in_default : goal.returns-in_default
returns-in_default c = placed_zero c.default.ensures.0 c.default.ensures.1 c.args.text.now (omega (arith, c.in_default.ensures))

pub returns-in-Some-first_lf : goal.returns-in-Some-first_lf
returns-in-Some-first_lf c =
    let n : c.args.n ≡ suc c.in-Some.before = search rules in
    placed_there c.args.text.now c.in-Some.before c.line_start-start.result c.line_start-start.ensures refl n (some_first _ c.first_lf.ensures c.in-Some-first_lf.is)

pub returns-in-None : goal.returns-in-None
returns-in-None c =
    let n : c.args.n ≡ suc c.in-Some.before = search rules in
    let e = none_first _ c.first_lf.ensures c.in-None.is in
    placed_none c.args.text.now c.in-Some.before c.line_start-start.result c.line_start-start.ensures refl n c.default-in-None.ensures.0 c.default-in-None.ensures.1 (ap (λ (x : Split). x.lines) e)
