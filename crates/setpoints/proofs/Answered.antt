-- Two answers of the closest member that say the same are the same answer. Assumes nothing.
use Rattle.std.specs.Prelude.{◌≡◌, ℤ, Result}
use Rattle.std.proofs.Common.{arith}
use Rattle.refusals.specs.declared.Cause.{Cause}
use Rattle.refusals.proofs.Rows.{number_not_zero}
use Rattle.setpoints.specs.Saying.{member_of}

pub member_one_answer : (r s : Result ℤ Cause) → member_of r ≡ member_of s → r ≡ s
member_one_answer r s e = grind (arith, number_not_zero)
