-- No two rows have the same number, none has 0, and an answer is told by its ending.
use Rattle.std.proofs.Common.{◌≡◌, ◌≢◌, ℕ, Result, arith}
use Rattle.refusals.specs.declared.Cause.{Cause}
use Rattle.refusals.specs.declared.Trouble.{Trouble}
use Rattle.refusals.specs.Numbers.{number_of}
use Rattle.refusals.specs.Endings.{ending_of}

pub number_not_zero : (c : Cause) → number_of c ≢ 0
number_not_zero c = grind arith

pub number_one_row : (c d : Cause) → number_of c ≡ number_of d → c ≡ d
number_one_row c d e = grind arith

pub ending_one_answer : (r s : Result ℕ Trouble) → ending_of r ≡ ending_of s → r ≡ s
ending_one_answer r s e = grind (arith, number_one_row)
