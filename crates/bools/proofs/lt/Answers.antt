-- A left start below a right end is a right end past a left start, and a left end at or past a right start the other way round. Assumes nothing.
use mathlib.Core.Path.{sym, ap, ◌∙◌}
use lib.Signed.{le_z, lt_z}
use Rattle.meaning.specs.Bools.{not_bools}
use Rattle.meaning.specs.NumberIntervals.{intervals, le_bools, lt_bools}
use Rattle.bools.proofs.Some.{some_swap}
use Rattle.bools.proofs.lt.Goals as goal

pub returns : goal.returns
unfolding le_bools lt_bools
returns c =
    let l = intervals c.args.left.numbers.now in
    let r = intervals c.args.right.numbers.now in
    c.not.ensures ∙ ap not_bools c.le.ensures
    ∙ λ i. record { bfalse = sym (some_swap (λ s e t f. le_z t e) l r) i; btrue = sym (some_swap (λ s e t f. lt_z s f) l r) i }
