-- The public set calls (01, "NumberIntervals" and the table of refusals): the need of work, the order of refusals, and what a call returns and leaves in its slices. Assumes nothing.
use Rattle.std.specs.Prelude.{ltb, eqb, ℤ, pos, length, replicate, Bool, false, cond, List, [], ℕ, ◌*◌, ◌/◌}
use Rattle.meaning.specs.Refusals.{not_normal, too_many, too_short, no_room}
use Rattle.meaning.specs.Lists.{over}
use Rattle.meaning.specs.Number.{Op1, neg, abs, not', Op2, add, sub, mul, div, rem, le, lt, ne, and, or}
use Rattle.meaning.specs.NumberIntervals.{Set, union, intersect, set1, set2, flag1, flag2, flat, intervals, normal}

-- ---- the need of work: 2·k·n·m numbers for n and m intervals (m = 1 for one operand)

unfoldable pub factor1 : Op1 → ℕ
factor1 neg = 2
factor1 abs = 2
factor1 not' = 0

unfoldable pub factor2 : Op2 → ℕ
factor2 add = 2
factor2 sub = 2
factor2 mul = 2
factor2 div = 12
factor2 rem = 16
factor2 le = 0
factor2 lt = 0
factor2 ne = 0
factor2 and = 0
factor2 or = 0

-- how many intervals a slice of ends holds
abbrev pub count : List ℤ → ℕ
count s = length s / 2

abbrev pub need1 : ℕ → List ℤ → ℕ
need1 k left = 2 * k * count left

abbrev pub need2 : ℕ → List ℤ → List ℤ → ℕ
need2 k left right = 2 * k * count left * count right

-- ---- refusals of the arguments: 2 before 1, left before right; 0 is none

unfoldable pub refusal : List ℤ → ℕ
refusal s = cond (ltb 32 (length s)) too_many (cond (normal s) 0 not_normal)

unfoldable pub refusal2 : List ℤ → List ℤ → ℕ
refusal2 left right = cond (eqb (refusal left) 0) (refusal right) (refusal left)

-- ---- what a call returns: on success how many numbers were written, and the flag; a refusal returns count 0 and flag false with its number

pub record Returned : Type 0 where
  pub number : ℕ
  pub count : ℕ
  pub flag : Bool

abbrev pub written : ℕ → Bool → Returned
written n flag = record { number = 0; count = n; flag = flag }

abbrev pub refused : ℕ → Returned
refused k = record { number = k; count = 0; flag = false }

-- `k` is the refusal of the arguments, `need` the numbers of work that the call needs, `answer` the set and its flag that it writes if nothing is refused
module _ (k need : ℕ) (answer : Set) (flag : Bool) (out work : List ℤ) where
  -- then 3, 4
  unfoldable pub call_returns : Returned
  call_returns =
      cond (eqb k 0)
      (cond (ltb (length work) need) (refused too_short)
      (cond (ltb (length out) (length (flat answer))) (refused no_room)
      (written (length (flat answer)) flag)))
      (refused k)

  -- out is written on success only
  unfoldable pub call_out : List ℤ
  call_out =
      cond (eqb k 0)
      (cond (ltb (length work) need) out
      (cond (ltb (length out) (length (flat answer))) out
      (over (flat answer) out)))
      out

  -- after 4 or success the needed work is 0
  unfoldable pub call_work : List ℤ
  call_work = cond (eqb k 0) (cond (ltb (length work) need) work (over (replicate need (pos 0)) work)) work

-- ---- the calls. Those with factor 0 take no work slice: `work` is [] for them

module _ (o : Op1) (left : List ℤ) (flag : Bool) (out work : List ℤ) where
  abbrev pub returns1 : Returned
  returns1 = call_returns (refusal left) (need1 (factor1 o) left) (set1 o (intervals left)) (flag1 o flag) out work

  abbrev pub out1 : List ℤ
  out1 = call_out (refusal left) (need1 (factor1 o) left) (set1 o (intervals left)) (flag1 o flag) out work

  abbrev pub work1 : List ℤ
  work1 = call_work (refusal left) (need1 (factor1 o) left) (set1 o (intervals left)) (flag1 o flag) out work

module _ (o : Op2) (left : List ℤ) (flag : Bool) (right out work : List ℤ) where
  abbrev pub returns2 : Returned
  returns2 = call_returns (refusal2 left right) (need2 (factor2 o) left right) (set2 o (intervals left) (intervals right)) (flag2 o flag (intervals left) (intervals right)) out work

  abbrev pub out2 : List ℤ
  out2 = call_out (refusal2 left right) (need2 (factor2 o) left right) (set2 o (intervals left) (intervals right)) (flag2 o flag (intervals left) (intervals right)) out work

  abbrev pub work2 : List ℤ
  work2 = call_work (refusal2 left right) (need2 (factor2 o) left right) (set2 o (intervals left) (intervals right)) (flag2 o flag (intervals left) (intervals right)) out work

module _ (left right out : List ℤ) where
  abbrev pub returns_union : Returned
  returns_union = call_returns (refusal2 left right) 0 (union (intervals left) (intervals right)) false out []

  abbrev pub out_union : List ℤ
  out_union = call_out (refusal2 left right) 0 (union (intervals left) (intervals right)) false out []

  abbrev pub returns_intersect : Returned
  returns_intersect = call_returns (refusal2 left right) 0 (intersect (intervals left) (intervals right)) false out []

  abbrev pub out_intersect : List ℤ
  out_intersect = call_out (refusal2 left right) 0 (intersect (intervals left) (intervals right)) false out []
