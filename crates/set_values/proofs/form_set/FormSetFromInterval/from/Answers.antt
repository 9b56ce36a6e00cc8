-- Start and end, as the type has them. Assumes nothing.
use mathlib.Core.Path.{◌∙◌}
use Rattle.std.proofs.Common.{rules}
use Rattle.set_values.proofs.Sets.{span_read, span_few}
use Rattle.set_values.proofs.form_set.FormSetFromInterval.from.Goals as goal

pub new-requires : goal.new-requires
new-requires c = let o = c.args.interval.ordered in search (rules, span_few)

pub returns : goal.returns
returns c = c.new.ensures ∙ search (rules, span_read)
