-- Demand 2 for the calls: the set that a call writes where it refuses nothing. The numbers of a slice are i64, so they are from MIN to MAX.
-- The theorem is `demand2_calls` of laws/proofs/Demand2Calls.antt. Assumes nothing.
use Rattle.std.specs.Prelude.{ℤ, length, take, ◌≡◌, Bool, true, false, ◌⊎◌, List, ◌≤◌}
use Rattle.std.specs.Prelude.{Some}
use Rattle.meaning.specs.Lists.{All}
use Rattle.meaning.specs.Number.{Between, InRange, least_product, greatest_product, Op1, Op2, add, sub, mul, div, rem, le, lt, ne, and, or, point1, point2}
use Rattle.meaning.specs.NumberIntervals.{Set, ◌∈◌, Normal, flag1, flag2, flat, intervals}
use Rattle.meaning.specs.SetCalls.{Returned, returns1, out1, returns2, out2, returns_union, out_union, returns_intersect, out_intersect}
use Rattle.meaning.specs.Demand2.{Result1, Result2}

-- the set that the numbers which a call has written show
abbrev pub shown : Returned → List ℤ → Set
shown r out = intervals (take r.count out)

-- the numbers of l are the ends of a normal set, each of them
pub record Ends (l : List ℤ) : Type 0 where
  pub normal : Normal (intervals l)
  pub whole : flat (intervals l) ≡ l

-- what is written stands in `out`, and is the ends of a normal set
pub record Stands (r : Returned) (out : List ℤ) : Type 0 where
  pub fits : r.count ≤ length out
  pub ends : Ends (take r.count out)

-- add, sub, le and lt give nothing but point results
abbrev pub exact2 : Op2 → Bool
exact2 add = true
exact2 sub = true
exact2 mul = false
exact2 div = false
exact2 rem = false
exact2 le = true
exact2 lt = true
exact2 ne = false
exact2 and = false
exact2 or = false

-- and where both sets have a member, all do but mul, div and rem
abbrev pub exact_filled2 : Op2 → Bool
exact_filled2 add = true
exact_filled2 sub = true
exact_filled2 mul = false
exact_filled2 div = false
exact_filled2 rem = false
exact_filled2 le = true
exact_filled2 lt = true
exact_filled2 ne = true
exact_filled2 and = true
exact_filled2 or = true

-- one operand: the argument and the answer are normal, the answer holds every point result and no other number; the flag is the one of the definitions
pub record Call1 (o : Op1) (left : List ℤ) (flag : Bool) (r : Returned) (out : List ℤ) : Type 0 where
  pub left_ends : Ends left
  pub stands : Stands r out
  pub holds : (x : ℤ) → x ∈ intervals left → point1 o x ∈ shown r out
  pub only : (z : ℤ) → z ∈ shown r out → Result1 o (intervals left) z
  pub flagged : r.flag ≡ flag1 o flag

-- two operands: no other number where the operation is exact
pub record Call2 (o : Op2) (left : List ℤ) (flag : Bool) (right : List ℤ) (r : Returned) (out : List ℤ) : Type 0 where
  pub left_ends : Ends left
  pub right_ends : Ends right
  pub stands : Stands r out
  pub holds : (x y z : ℤ) → x ∈ intervals left → y ∈ intervals right → point2 o x y ≡ Some z → z ∈ shown r out
  pub only : exact2 o ≡ true → (z : ℤ) → z ∈ shown r out → Result2 o (intervals left) (intervals right) z
  -- mul gives nothing outside the range of products (02, (vii))
  pub products : o ≡ mul → (z : ℤ) → z ∈ shown r out → Between least_product z greatest_product
  pub filled_only : exact_filled2 o ≡ true → (x y z : ℤ) → x ∈ intervals left → y ∈ intervals right → z ∈ shown r out → Result2 o (intervals left) (intervals right) z
  pub flagged : r.flag ≡ flag2 o flag (intervals left) (intervals right)

-- union and intersect: the answer is normal, has just the members that `is` says, and no flag
pub record CallJust (is : ℤ → Type 0) (left right : List ℤ) (r : Returned) (out : List ℤ) : Type 0 where
  pub left_ends : Ends left
  pub right_ends : Ends right
  pub stands : Stands r out
  pub holds : (z : ℤ) → is z → z ∈ shown r out
  pub only : (z : ℤ) → z ∈ shown r out → is z
  pub flagged : r.flag ≡ false

-- where a call refuses nothing
abbrev pub Right1 : Op1 → List ℤ → Bool → Returned → List ℤ → Type 0
Right1 o left flag r out = r.number ≡ 0 → Call1 o left flag r out

abbrev pub Right2 : Op2 → List ℤ → Bool → List ℤ → Returned → List ℤ → Type 0
Right2 o left flag right r out = r.number ≡ 0 → Call2 o left flag right r out

-- the members of either, or of both
abbrev pub RightUnion : List ℤ → List ℤ → Returned → List ℤ → Type 0
RightUnion left right r out = r.number ≡ 0 → CallJust (λ z. (z ∈ intervals left) ⊎ (z ∈ intervals right)) left right r out

abbrev pub RightIntersect : List ℤ → List ℤ → Returned → List ℤ → Type 0
RightIntersect left right r out = r.number ≡ 0 → CallJust (λ z. (z ∈ intervals left) × (z ∈ intervals right)) left right r out

pub record CallsRight : Type 0 where
  pub call1 : (o : Op1) (left : List ℤ) (flag : Bool) (out work : List ℤ) → All InRange left → Right1 o left flag (returns1 o left flag out work) (out1 o left flag out work)
  pub call2 : (o : Op2) (left : List ℤ) (flag : Bool) (right out work : List ℤ) → All InRange left → All InRange right
      → Right2 o left flag right (returns2 o left flag right out work) (out2 o left flag right out work)
  pub union_call : (left right out : List ℤ) → All InRange left → All InRange right → RightUnion left right (returns_union left right out) (out_union left right out)
  pub intersect_call : (left right out : List ℤ) → All InRange left → All InRange right → RightIntersect left right (returns_intersect left right out) (out_intersect left right out)
