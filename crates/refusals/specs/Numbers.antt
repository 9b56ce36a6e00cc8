-- The numbers of the table's rows. Assumes nothing.
use Rattle.std.specs.Prelude.{◌≡◌, ◌≢◌, ℕ, Result, MatchResult}
use Rattle.meaning.specs.Refusals.{not_normal, too_many, too_short, no_room, misshapen, ungrammatical, far_literal, misplaced, empty_set, zero_divisor, hold_broken, outside_in}
use Rattle.refusals.specs.declared.Cause.{Cause}
use Rattle.refusals.specs.declared.Cause.TheVariants.{NotNormal, TooMany, TooShort, NoRoom, Misshapen, Ungrammatical, FarLiteral, Misplaced, EmptySet, ZeroDivisor, HoldBroken, OutsideIn}
use Rattle.refusals.specs.declared.UnknownNumber.{UnknownNumber}

abbrev pub number_of : Cause → ℕ
number_of NotNormal = not_normal
number_of TooMany = too_many
number_of TooShort = too_short
number_of NoRoom = no_room
number_of Misshapen = misshapen
number_of Ungrammatical = ungrammatical
number_of FarLiteral = far_literal
number_of Misplaced = misplaced
number_of EmptySet = empty_set
number_of ZeroDivisor = zero_divisor
number_of HoldBroken = hold_broken
number_of OutsideIn = outside_in

-- the row with this number, or the number again where no row has it
abbrev pub Numbered : ℕ → Result Cause UnknownNumber → Type 0
Numbered number r = MatchResult r (λ cause. number_of cause ≡ number) (λ e. (e.0 ≡ number) × ((cause : Cause) → number_of cause ≢ number))
