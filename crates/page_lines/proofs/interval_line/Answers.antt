-- The name, the start, the end and the count, with what stands between them. Assumes nothing.
use borrow.Author.Rules.{rules}
use lib.IntN.{ℤ}
use mathlib.Core.Path.{ap}
use mir.Facts.{to_z-of_z}
use mir.Syntax.{w64}
use mir.Val.{SFits}
use Rattle.meaning.specs.Listing.{decimal_z}
use Rattle.meaning.specs.Page.{right_set}
use Rattle.writer.proofs.Chain.{appends_as, appends_next}
use Rattle.page_lines.proofs.Writing.{line_is}
use Rattle.page_lines.proofs.interval_line.Goals as goal

pub returns : goal.returns
returns c =
    let lo : SFits w64 c.args.numbers.lo = search rules in
    let hi : SFits w64 c.args.numbers.hi = search rules in
    let start = appends_as (ap (λ (z : ℤ). right_set 20 (decimal_z z)) (to_z-of_z lo)) c.right_number.ensures.text in
    let end = appends_as (ap (λ (z : ℤ). right_set 20 (decimal_z z)) (to_z-of_z hi)) c.right_number-2.ensures.text in
    appends_as (line_is c.args.r c.args.numbers.lo c.args.numbers.hi)
    (appends_next c.left_name.ensures.text (appends_next c.push.ensures (appends_next start (appends_next c.push-2.ensures
    (appends_next end (appends_next c.push-3.ensures (appends_next c.right_count.ensures.text c.push-4.ensures)))))))
