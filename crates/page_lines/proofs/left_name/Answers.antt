-- The name has at most three characters. Assumes nothing.
use native.Mathlib.Omega.{arith}
use mathlib.Core.List.{◌++◌}
use Rattle.meaning.specs.Bytes.{bytes}
use Rattle.meaning.specs.Listing.{decimal}
use Rattle.writer.proofs.Chain.{appends_as, appends_next}
use Rattle.page_lines.proofs.Writing.{left_is, name_most}
use Rattle.page_lines.proofs.left_name.Goals as goal

pub push_number-requires : goal.push_number-requires
push_number-requires c = omega (arith, name_most c.args.r c.requires.0)

pub overflow_sub-end : goal.overflow_sub-end
overflow_sub-end c = omega (arith, name_most c.args.r c.requires.0)

pub returns-clause-text : goal.returns-clause-text
returns-clause-text c =
    let w = appends_next c.push.ensures c.push_number.ensures in
    appends_as (left_is (bytes "r" ++ decimal c.args.r) _ (omega (arith, name_most c.args.r c.requires.0, w.count))) (appends_next w c.push_blanks.ensures.text)

pub returns-clause-width : goal.returns-clause-width
returns-clause-width c = omega (arith, name_most c.args.r c.requires.0)
