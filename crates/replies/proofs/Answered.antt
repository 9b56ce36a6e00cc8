-- Two answers that say the same are the same answer. Assumes nothing.
use Rattle.std.specs.Prelude.{◌≡◌, Result}
use Rattle.std.proofs.Common.{arith}
use Rattle.refusals.specs.declared.Cause.{Cause}
use Rattle.refusals.proofs.Rows.{number_not_zero}
use Rattle.replies.specs.declared.Written.{Written}
use Rattle.replies.specs.Returning.{returned}

pub returned_one_answer : (r s : Result Written Cause) → returned r ≡ returned s → r ≡ s
returned_one_answer r s e = grind (arith, number_not_zero)
