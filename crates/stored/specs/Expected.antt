-- What a stored case expects of a call. Assumes nothing.
use Rattle.std.specs.Prelude.{◌≡◌, Bool, true, ℕ, ℤ, Result, Ok, Err, Option, MatchOption}
use Rattle.refusals.specs.declared.Cause.{Cause}
use Rattle.refusals.specs.declared.Trouble.{Trouble}
use Rattle.refusals.specs.declared.Trouble.TheVariants.{Refused, Stopped}
use Rattle.refusals.specs.Numbers.{number_of}
use Rattle.replies.specs.declared.Written.{Written}

-- the answer is the one for that number and value: number 0 is a success, any other a refusal
abbrev pub Expected : {A : Type 0} → (A → A → Bool) → Result A Cause → ℕ → A → Type 0
Expected eq (Ok v) number value = (number ≡ 0) × (eq v value ≡ true)
Expected eq (Err cause) number value = number ≡ number_of cause

-- the same of what a set call writes
abbrev pub ExpectedReply : Result Written Cause → ℕ → ℕ → Bool → Type 0
ExpectedReply (Ok w) number count flag = (number ≡ 0) × (w.count ≡ count) × (w.flag ≡ flag)
ExpectedReply (Err cause) number count flag = number ≡ number_of cause

-- the same of what nearest answers
abbrev pub ExpectedMember : Result ℤ Cause → ℕ → ℤ → Type 0
ExpectedMember (Ok m) number member = (number ≡ 0) × (m ≡ member)
ExpectedMember (Err cause) number member = number ≡ number_of cause

-- the answer is stored by that number and value
abbrev pub RepliedBy : {A : Type 0} → ℕ → A → Result A Cause → Type 0
RepliedBy number value (Ok v) = (number ≡ 0) × (v ≡ value)
RepliedBy number value (Err cause) = number ≡ number_of cause

-- the answer of a set call that is stored so, or none where none is
abbrev pub Replies : {A : Type 0} → ℕ → A → Option (Result A Cause) → Type 0
Replies {A} number value r = MatchOption r ((answer : Result A Cause) → RepliedBy number value answer → ⊥) (RepliedBy number value)

-- the answer is stored by that kind, number and line
abbrev pub StoredBy : ℕ → ℕ → ℕ → Result ℕ Trouble → Type 0
StoredBy kind number line (Ok n) = (kind ≡ 0) × (number ≡ 0) × (line ≡ n)
StoredBy kind number line (Err (Stopped cause l)) = (kind ≡ 1) × (number ≡ number_of cause) × (line ≡ l)
StoredBy kind number line (Err (Refused cause l)) = (kind ≡ 2) × (number ≡ number_of cause) × (line ≡ l)

-- the answer that is stored so, or none where none is
abbrev pub Reads : ℕ → ℕ → ℕ → Option (Result ℕ Trouble) → Type 0
Reads kind number line r = MatchOption r ((answer : Result ℕ Trouble) → StoredBy kind number line answer → ⊥) (StoredBy kind number line)
