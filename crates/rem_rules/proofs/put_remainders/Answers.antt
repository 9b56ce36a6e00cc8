-- The magnitudes of the ends are those of the definition. Assumes nothing.
use Rattle.std.proofs.Common.{rules}
use Rattle.slices.proofs.Behind.{adds_as, holds_as}
use Rattle.rem_rules.proofs.MagnitudeRules.{least_some, rule_f_read}
use Rattle.rem_rules.proofs.put_remainders.Goals as goal

pub put_magnitudes-requires-clause-second_positive : goal.put_magnitudes-requires-clause-second_positive
put_magnitudes-requires-clause-second_positive c = least_some c.args.right (search rules) (search rules) c.magnitudes_of-r.ensures

pub put_magnitudes-requires-clause-room : goal.put_magnitudes-requires-clause-room
put_magnitudes-requires-clause-room c =
    holds_as c.args.out.now (rule_f_read c.args.right (search rules) (search rules) c.magnitudes_of-r.ensures c.ranges.s c.ranges.e c.magnitudes_of-l.ensures) c.requires

pub returns : goal.returns
returns c =
    adds_as (rule_f_read c.args.right (search rules) (search rules) c.magnitudes_of-r.ensures c.ranges.s c.ranges.e c.magnitudes_of-l.ensures) c.put_magnitudes.ensures
