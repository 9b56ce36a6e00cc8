-- What holds of the check's sets after every line: from a limit of 1 on each register's set is normal, not empty, and of at most `limit` intervals (`check_sets_lem` of laws/proofs/CheckSets.antt);
-- the set of an OP form is that of its set call with gaps closed (`form_sets`, there); a hold is judged exactly (`hold_exact` of laws/proofs/Holds.antt); and the layout shows the sets (`sets_shown` of laws/proofs/Slots.antt). Assumes nothing.
use Rattle.std.specs.Prelude.{ℤ, length, get_or, take, ◌≡◌, false, List, [], ℕ, ◌<◌, ◌≤◌}
use Rattle.meaning.specs.Refusals.{hold_broken}
use Rattle.meaning.specs.Lists.{over}
use Rattle.meaning.specs.Number.{Between, Op1, Op2}
use Rattle.meaning.specs.Outcome.{ok, stop, Outcome, done, stopped}
use Rattle.meaning.specs.NumberIntervals.{Set, ◌∈◌, Normal, set1, set2, flag1, flag2}
use Rattle.meaning.specs.Sheet.{registers, Form, form1, form2, hold, Line, FineForm}
use Rattle.meaning.specs.Text.{sheet, read}
use Rattle.meaning.specs.Run.{worked}
use Rattle.meaning.specs.Close.{close}
use Rattle.meaning.specs.CloseLaws.{ClosedTo}
use Rattle.meaning.specs.Check.{Bands, at, set_of, check_act, check, check_text, layout, set_in, interval_limit}

pub record SoundSet (limit : ℕ) (s : Set) : Type 0 where
  pub normal : Normal s
  pub filled : (z : ℤ) × (z ∈ s)
  pub few : length s ≤ limit

pub record SoundBands (limit : ℕ) (B : Bands) : Type 0 where
  pub size : length B.sets ≡ registers
  pub each : (r : ℕ) → SoundSet limit (at B.sets r)

-- the last state, or the state before the line that stopped the work
abbrev pub state_of : {A : Type 0} → Outcome A → A
state_of (done a) = a
state_of (stopped k n a) = a

-- after the first n lines, for every n
abbrev pub CheckSets : Type 0
CheckSets = (limit : ℕ) (t : List ℕ) (ls : List Line) → 1 ≤ limit → read t ≡ sheet ls → (n : ℕ) → SoundBands limit (state_of (check limit (take n ls)))

-- ---- the set of an OP form

-- `answer` is the answer of the form's set call on its arguments' sets: the set that demand 2 speaks of, and that is compared with the original's operator. s is this set with gaps closed
pub record ClosedAnswer (limit : ℕ) (answer s : Set) : Type 0 where
  pub normal : Normal answer
  pub is : s ≡ close limit answer
  pub closed : ClosedTo limit answer s
  pub sound : SoundSet limit s

-- of forms that pass: the arguments' sets are sound, and no divisor may be 0
pub record FormSetsAt (limit : ℕ) (B : Bands) : Type 0 where
  pub one : (o : Op1) (e : Form) (s : Set) → FineForm e → set_of limit B.sets (form1 o e) ≡ ok s
      → (a : Set) × (set_of limit B.sets e ≡ ok a) × SoundSet limit a × (flag1 o false ≡ false) × ClosedAnswer limit (set1 o a) s
  pub two : (o : Op2) (e f : Form) (s : Set) → FineForm e → FineForm f → set_of limit B.sets (form2 o e f) ≡ ok s
      → (a b : Set) × (set_of limit B.sets e ≡ ok a) × (set_of limit B.sets f ≡ ok b) × SoundSet limit a × SoundSet limit b × (flag2 o false a b ≡ false) × ClosedAnswer limit (set2 o a b) s

-- after the first n lines, for every n
abbrev pub FormSets : Type 0
FormSets = (limit : ℕ) (t : List ℕ) (ls : List Line) → 1 ≤ limit → read t ≡ sheet ls → (n : ℕ) → FormSetsAt limit (state_of (check limit (take n ls)))

-- ---- a hold is judged exactly

-- a member that is not from lo to hi
pub record Outside (lo hi : ℤ) (s : Set) : Type 0 where
  pub member : ℤ
  pub member_in : member ∈ s
  pub outside : Between lo member hi → ⊥

-- it passes and alters nothing just when every member is inside; 21 just when some member is outside
pub record HoldIs (limit : ℕ) (B : Bands) (r : ℕ) (lo hi : ℤ) : Type 0 where
  pub passes : check_act limit B (hold r lo hi) ≡ ok B → (z : ℤ) → z ∈ at B.sets r → Between lo z hi
  pub passes_if : ((z : ℤ) → z ∈ at B.sets r → Between lo z hi) → check_act limit B (hold r lo hi) ≡ ok B
  pub breaks : check_act limit B (hold r lo hi) ≡ stop hold_broken → Outside lo hi (at B.sets r)
  pub breaks_if : Outside lo hi (at B.sets r) → check_act limit B (hold r lo hi) ≡ stop hold_broken

abbrev pub HoldExact : Type 0
HoldExact = (limit : ℕ) (B : Bands) (r : ℕ) (lo hi : ℤ) → Normal (at B.sets r) → HoldIs limit B r lo hi

-- ---- each register's set reads back from what a passed check leaves, whatever the slice held

abbrev pub SetsShown : Type 0
SetsShown = (t : List ℕ) (n : ℕ) (B : Bands) → check_text interval_limit t ≡ worked n (done B) → (old : List ℤ) (r : ℕ) → r < registers → set_in (over (layout B.sets) old) r ≡ get_or B.sets r []
