-- A sheet that passes has its lines, and anything else one line; no listing is longer than what is lent. Assumes nothing.
use native.Mathlib.Omega.{arith}
use Rattle.meaning.specs.Listing.{register_line}
use Rattle.writer.proofs.Chain.{appends_as, appends_next, fits_as, fits_first, fits_next}
use Rattle.listed.specs.Showing.{whole}
use Rattle.listing.proofs.Longest.{trouble_fits, listing_most}
use Rattle.listing.proofs.Lines.{pass_text, stopped_text, refused_text}
use Rattle.listing.proofs.list_into.Goals as goal

pub pass_line-requires : goal.pass_line-requires
pass_line-requires c =
    let k = rw c.in-Ok.is at c.of.ensures in
    fits_first _ (whole register_line c.in-Ok.shown) _ _ (fits_as _ _ (pass_text k) (omega (arith, listing_most c.args.text.now, c.requires)))

pub write-requires : goal.write-requires
write-requires c =
    let k = rw c.in-Ok.is at c.of.ensures in
    fits_next c.pass_line.ensures (whole register_line c.in-Ok.shown) (fits_as _ _ (pass_text k) (omega (arith, listing_most c.args.text.now, c.requires)))

pub trouble_line-requires : goal.trouble_line-requires
trouble_line-requires c = trouble_fits _ _ _ c.args.out.now (omega arith) c.requires

pub trouble_line-requires-in-Refused : goal.trouble_line-requires-in-Refused
trouble_line-requires-in-Refused c = trouble_fits _ _ _ c.args.out.now (omega arith) c.requires

pub returns-in-Ok : goal.returns-in-Ok
returns-in-Ok c = let k = rw c.in-Ok.is at c.of.ensures in appends_as (pass_text k) (appends_next c.pass_line.ensures c.write.ensures)

pub returns-in-Stopped : goal.returns-in-Stopped
returns-in-Stopped c =
    let k = rw c.in-Err.is at c.of.ensures in
    appends_as (stopped_text c.args.text.now c.in-Stopped.cause c.in-Stopped.line (rw c.in-Stopped.is at k)) c.trouble_line.ensures

pub returns-in-Refused : goal.returns-in-Refused
returns-in-Refused c =
    let k = rw c.in-Err.is at c.of.ensures in
    appends_as (refused_text c.args.text.now c.in-Refused.cause c.in-Refused.line (rw c.in-Refused.is at k)) c.trouble_line-in-Refused.ensures
