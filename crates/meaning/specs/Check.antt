-- The check (01, "Sheet", as requests (iii), (v) and (vi) of document 02 amend it): its state is one set a register. Assumes nothing.
use Rattle.std.specs.Prelude.{ltb, ℤ, pos, negsuc, length, get_or, set, take, drop, replicate, Bool, true, false, cond, ◌&&◌, ◌||◌, List, [], ◌∷◌, ◌++◌, ℕ, ◌+◌, ◌-◌, ◌*◌}
use Rattle.std.specs.Int.Signed.{le_z}
use Rattle.meaning.specs.Refusals.{too_short, zero_divisor, hold_broken}
use Rattle.meaning.specs.Lists.{over}
use Rattle.meaning.specs.Outcome.{Res, ok, stop, bind, Outcome, done, stopped, work}
use Rattle.meaning.specs.Number.{MIN, MAX}
use Rattle.meaning.specs.Interval.{span, only}
use Rattle.meaning.specs.NumberIntervals.{Set, set1, set2, flag1, flag2, flat, intervals}
use Rattle.meaning.specs.Close.{close}
use Rattle.meaning.specs.Sheet.{registers, Form, lit, reg, form1, form2, Act, put, hold, Line, input, act}
use Rattle.meaning.specs.Text.{read}
use Rattle.meaning.specs.Run.{Judged, refused, worked, judge}

-- the registers' sets, register 0 first
pub record Bands : Type 0 where
  pub sets : List Set

-- the set of register r
abbrev pub at : List Set → ℕ → Set
at S r = get_or S r (only (pos 0))

-- no member is below lo or above hi
unfoldable pub inside : ℤ → Set → ℤ → Bool
inside lo [] hi = true
inside lo (i ∷ s) hi = le_z lo i.lo && (le_z i.hi hi && inside lo s hi)

-- how the answer of a form is settled, by its set and its flag
abbrev pub Settling : Type 0
Settling = Set → Bool → Res Set

-- the check's way (02, (iii) and (v)): 20 if the flag is set, else the set with gaps closed until `limit` intervals remain
unfoldable pub settle : ℕ → Settling
settle limit s flag = cond flag (stop zero_divisor) (ok (close limit s))

-- register r takes a set
abbrev pub give : Bands → ℕ → Set → Bands
give B r s = record { sets = set B.sets r s }

-- every register starts at [MIN,MAX]: it may hold any number (02, (vi))
abbrev pub start_sets : Bands
start_sets = record { sets = replicate registers (span MIN MAX) }

-- ---- the check by any way of settling

module _ (settles : Settling) where
  -- a literal is the set of that one number, (reg R) the register's set, an OP form the answer of its set call, settled before its outer form sees it; left argument, right, form
  unfoldable pub set_by : List Set → Form → Res Set
  set_by S (lit z) = ok (only z)
  set_by S (reg r) = ok (at S r)
  set_by S (form1 o e) = bind (set_by S e) (λ a. settles (set1 o a) (flag1 o false))
  set_by S (form2 o e f) = bind (set_by S e) (λ a. bind (set_by S f) (λ b. settles (set2 o a b) (flag2 o false a b)))

  -- put leaves E's set in R. hold alters nothing: 21 if R's set has a value outside
  unfoldable pub act_by : Bands → Act → Res Bands
  act_by B (put r e) = bind (set_by B.sets e) (λ s. ok (give B r s))
  act_by B (hold r lo hi) = cond (inside lo (at B.sets r) hi) (ok B) (stop hold_broken)

  -- in puts the set [LO,HI] there
  unfoldable pub line_by : Bands → Line → Res Bands
  line_by B (input r lo hi) = ok (give B r (span lo hi))
  line_by B (act a) = act_by B a

  -- a pass gives the sets after the last line
  unfoldable pub check_by : List Line → Outcome Bands
  check_by ls = work line_by 1 start_sets ls

  unfoldable pub text_by : List ℕ → Judged Bands
  text_by t = judge check_by (read t)

-- ---- the check under a limit of intervals

abbrev pub set_of : ℕ → List Set → Form → Res Set
set_of limit = set_by (settle limit)

abbrev pub check_act : ℕ → Bands → Act → Res Bands
check_act limit = act_by (settle limit)

abbrev pub check_line : ℕ → Bands → Line → Res Bands
check_line limit = line_by (settle limit)

abbrev pub check : ℕ → List Line → Outcome Bands
check limit = check_by (settle limit)

abbrev pub check_text : ℕ → List ℕ → Judged Bands
check_text limit = text_by (settle limit)

-- ---- the layout of the lent sets: per register how many intervals, then 32 for ends, unused ones 0

abbrev pub slot_size : ℕ
slot_size = 33

unfoldable pub slot : Set → List ℤ
slot s = pos (length s) ∷ (flat s ++ replicate (slot_size - 1 - length (flat s)) (pos 0))

unfoldable pub layout : List Set → List ℤ
layout [] = []
layout (s ∷ S) = slot s ++ layout S

-- and back: the set of register r in such numbers
abbrev pub count_in : ℤ → ℕ
count_in (pos n) = n
count_in (negsuc n) = 0

unfoldable pub set_in : List ℤ → ℕ → Set
set_in l r = intervals (take (2 * count_in (get_or l (slot_size * r) (pos 0))) (drop (slot_size * r + 1) l))

-- ---- the call: the check with a limit of 16 intervals, and the needs of its slices; what it returns is the `verdict`

abbrev pub sets_need : ℕ
sets_need = registers * slot_size

abbrev pub work_need : ℕ
work_need = 8192

abbrev pub interval_limit : ℕ
interval_limit = 16

-- 3 where a lent slice is short, before all else
unfoldable pub call_by : Settling → List ℕ → List ℤ → List ℤ → Judged Bands
call_by settles t sets work = cond (ltb (length sets) sets_need || ltb (length work) work_need) (refused too_short 0) (text_by settles t)

abbrev pub check_call : List ℕ → List ℤ → List ℤ → Judged Bands
check_call = call_by (settle interval_limit)

-- the sets are written on a pass only
abbrev pub sets_left_by : List ℤ → Judged Bands → List ℤ
sets_left_by sets (refused k l) = sets
sets_left_by sets (worked n (done B)) = over (layout B.sets) sets
sets_left_by sets (worked n (stopped k l B)) = sets

-- the needed work is 0 after a pass or a finding
abbrev pub work_left_by : List ℤ → Judged Bands → List ℤ
work_left_by work (refused k l) = work
work_left_by work (worked n o) = over (replicate work_need (pos 0)) work

unfoldable pub check_sets : List ℕ → List ℤ → List ℤ → List ℤ
check_sets t sets work = sets_left_by sets (check_call t sets work)

unfoldable pub check_work : List ℕ → List ℤ → List ℤ → List ℤ
check_work t sets work = work_left_by work (check_call t sets work)
