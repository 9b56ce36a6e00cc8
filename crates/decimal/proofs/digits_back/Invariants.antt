use mathlib.Core.Path.{◌≡◌}
use lib.ListN.{drop}
use Rattle.meaning.specs.Listing.{digits_before, decimal}
use Rattle.decimal.proofs.digits_back.Given as goal

abbrev pub invariant-loop-at : goal.invariant-loop-at
invariant-loop-at l = digits_before l.at l.rest (drop l.at l.buffer) ≡ decimal l.n
