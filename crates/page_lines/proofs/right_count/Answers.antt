-- The members are one more than the distance of the ends, which a word holds but for 2^64. Assumes nothing.
use mathlib.Core.Path.{◌≡◌, ap, ◌∙◌}
use native.Mathlib.Omega.{arith}
use Prim.Native.Nat.{◌+◌}
use borrow.Author.Rules.{rules}
use lib.ListN.{length}
use Rattle.interval.proofs.SumRules.{distance_gives}
use Rattle.laws.proofs.Decimals.{decimal_most}
use Rattle.meaning.specs.Listing.{decimal}
use Rattle.writer.proofs.Chain.{appends_as, first_written}
use Rattle.meaning.specs.Page.{right_set}
use Rattle.page_lines.proofs.Writing.{most_members, fewer_members}
use Rattle.page_lines.proofs.right_count.Goals as goal

pub push_number-requires : goal.push_number-requires
push_number-requires c =
    let s = c.new-number.ensures in
    omega (arith, decimal_most 20 c.in-Some.count (omega arith) (omega arith), s.empty, ap length s.now)

pub returns-in-Some-clause-text : goal.returns-in-Some-clause-text
returns-in-Some-clause-text c =
    let d = distance_gives {s = c.args.numbers.lo} {e = c.args.numbers.hi} (search rules) (search rules) c.distance.ensures in
    let n : c.in-Some.count ≡ c.distance.result + 1 = search rules in
    appends_as (ap (right_set 20) (c.written.ensures ∙ first_written c.new-number.ensures c.push_number.ensures ∙ ap decimal n ∙ fewer_members c.args.numbers.lo c.args.numbers.hi c.distance.result d)) c.right_text.ensures.text

pub returns-in-None-clause-text : goal.returns-in-None-clause-text
returns-in-None-clause-text c =
    let d = distance_gives {s = c.args.numbers.lo} {e = c.args.numbers.hi} (search rules) (search rules) c.distance.ensures in
    appends_as (ap (right_set 20) (most_members c.args.numbers.lo c.args.numbers.hi _ (grind (arith, c.in-None.ensures)) d)) c.right_text-in-None.ensures.text
