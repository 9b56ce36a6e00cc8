-- What a sheet that passes shows: the registers that its lines write, each with its set, and what is made of them. Assumes nothing.
use Rattle.std.specs.Prelude.{length, get_or, ◌≡◌, Bool, false, cond, List, [], ◌++◌, ℕ, zero, suc, ◌<◌, Option, Some, None, Result, Ok, Err}
use Rattle.meaning.specs.Outcome.{done}
use Rattle.meaning.specs.NumberIntervals.{Set}
use Rattle.meaning.specs.Sheet.{registers, Line}
use Rattle.meaning.specs.Text.{sheet, read}
use Rattle.meaning.specs.Check.{Bands, at, interval_limit, check, check_text}
use Rattle.meaning.specs.Listing.{listed}
use Rattle.refusals.specs.declared.Trouble.{Trouble}
use Rattle.set_values.specs.Value.{sets_of}
use Rattle.sheet_check.specs.Checked.{Checked}
use Rattle.listed.specs.declared.Shown.{Shown}

-- the set of a register, if it is shown
abbrev pub if_shown : Bool → Set → Option Set
if_shown is s = cond is (Some s) None

abbrev pub shown : Shown → ℕ → Option Set
shown s r = if_shown (get_or s.marks r false) (at (sets_of s.registers) r)

-- what is made of a register that is shown
abbrev pub piece : {A : Type 0} → (ℕ → Set → List A) → ℕ → Option Set → List A
piece make r (Some s) = make r s
piece make r None = []

-- and of the next n registers from r on, ascending
unfoldable pub pieces : {A : Type 0} → (ℕ → Set → List A) → Shown → ℕ → ℕ → List A
pieces make s r zero = []
pieces make s r (suc n) = piece make r (shown s r) ++ pieces make s (suc r) n

-- of all registers
abbrev pub whole : {A : Type 0} → (ℕ → Set → List A) → Shown → List A
whole make s = pieces make s 0 registers

-- the text reads as these lines and passes with these sets, and each register that they write shows its set
pub record Shows (t : List ℕ) (s : Shown) : Type 0 where
  pub lines : List Line
  pub bands : Bands
  pub reads : read t ≡ sheet lines
  pub passes : check interval_limit lines ≡ done bands
  pub counts : length lines ≡ s.count
  pub shows : (r : ℕ) → r < registers → shown s r ≡ if_shown (listed lines r) (at bands.sets r)

-- such a sheet, or what the check of the text comes to in its place
abbrev pub Told : Result Shown Trouble → List ℕ → Type 0
Told (Ok s) t = Shows t s
Told (Err e) t = Checked (Err e) (check_text interval_limit t)
