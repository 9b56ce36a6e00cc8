-- Twenty bytes hold every number from MIN to MAX. Assumes nothing.
use mathlib.Core.Path.{ap, ◌∙◌}
use native.Mathlib.Omega.{arith}
use lib.ListN.{length}
use mir.Facts.{to_z-of_z}
use Rattle.meaning.specs.Listing.{decimal_z}
use Rattle.laws.proofs.Machine.{rd, rd_fits, fits_range}
use Rattle.laws.proofs.Decimals.{decimal_z_most}
use Rattle.writer.proofs.Chain.{appends_as, first_written}
use Rattle.meaning.specs.Page.{right_set}
use Rattle.page_lines.proofs.right_number.Goals as goal

pub push_signed-requires : goal.push_signed-requires
push_signed-requires c =
    let s = c.new-number.ensures in
    omega (arith, decimal_z_most (rd c.args.x) (fits_range (rd_fits c.ranges.x)), s.empty, ap length s.now)

pub returns-clause-text : goal.returns-clause-text
returns-clause-text c =
    appends_as (ap (right_set 20) (c.written.ensures ∙ first_written c.new-number.ensures c.push_signed.ensures ∙ ap decimal_z (to_z-of_z c.ranges.x))) c.right_text.ensures.text
