-- Demand 2, for whole normal sets: neg, abs, add and sub return just the point results; every other operation a set that holds every point result. So do not, le and lt just these,
-- and and, or and ne where both sets have a member.
-- The theorem is `demand2` of laws/proofs/Demand2.antt. Assumes nothing.
use Rattle.std.specs.Prelude.{ℤ, pos, length, ◌≡◌, Bool, true, false, List, ◌⊎◌, ℕ, ◌≤◌}
use Rattle.std.specs.Prelude.{Some}
use Rattle.meaning.specs.Lists.{All}
use Rattle.meaning.specs.Number.{Between, product, least_product, greatest_product, Op1, neg, abs, not', Op2, add, sub, mul, div, rem, le, lt, ne, and, or, point1, point2}
use Rattle.meaning.specs.Interval.{Interval, span, Proper, PairOp, neg_pair, abs_pair, add_pair, sub_pair, uncut_pair, mul_pair, div_pair, rem_step, rem_pair}
use Rattle.meaning.specs.NumberIntervals.{Set, ◌∈◌, Normal, rebuild, union, intersect, set1, set2, uncut_mul, flag1, flag2}

-- z is the point result of a member, or of a member of each set
pub record Result1 (o : Op1) (a : Set) (z : ℤ) : Type 0 where
  pub member : ℤ
  pub member_in : member ∈ a
  pub gives : point1 o member ≡ z

pub record Result2 (o : Op2) (a b : Set) (z : ℤ) : Type 0 where
  pub left : ℤ
  pub right : ℤ
  pub left_in : left ∈ a
  pub right_in : right ∈ b
  pub gives : point2 o left right ≡ Some z

-- every point result is a member of the answer
abbrev pub Holds1 : Op1 → Type 0
Holds1 o = (a : Set) (z : ℤ) → Normal a → Result1 o a z → z ∈ set1 o a

abbrev pub Holds2 : Op2 → Type 0
Holds2 o = (a b : Set) (z : ℤ) → Normal a → Normal b → Result2 o a b z → z ∈ set2 o a b

-- every member of the answer is a point result
abbrev pub Only1 : Op1 → Type 0
Only1 o = (a : Set) (z : ℤ) → Normal a → z ∈ set1 o a → Result1 o a z

abbrev pub Only2 : Op2 → Type 0
Only2 o = (a b : Set) (z : ℤ) → Normal a → Normal b → z ∈ set2 o a b → Result2 o a b z

-- so it is where both sets have a member
abbrev pub OnlyFilled2 : Op2 → Type 0
OnlyFilled2 o = (a b : Set) (x y z : ℤ) → Normal a → Normal b → x ∈ a → y ∈ b → z ∈ set2 o a b → Result2 o a b z

-- the flag is the left set's flag, or set since the left set has a member and 0 is in the right one; otherwise it is not set
pub record FlagIs (o : Op2) : Type 0 where
  pub kept : (a b : Set) → flag2 o true a b ≡ true
  pub set_if : (flag : Bool) (a b : Set) (x : ℤ) → Normal a → Normal b → x ∈ a → pos 0 ∈ b → flag2 o flag a b ≡ true
  pub only_if : (a b : Set) → Normal a → Normal b → flag2 o false a b ≡ true → ((x : ℤ) × (x ∈ a)) × (pos 0 ∈ b)

-- the flag is the left set's flag
abbrev pub Keeps1 : Op1 → Type 0
Keeps1 o = (flag : Bool) → flag1 o flag ≡ flag

abbrev pub Keeps2 : Op2 → Type 0
Keeps2 o = (flag : Bool) (a b : Set) → flag2 o flag a b ≡ flag

-- the flag is false
abbrev pub Clears2 : Op2 → Type 0
Clears2 o = (flag : Bool) (a b : Set) → flag2 o flag a b ≡ false

-- at most k intervals for one interval, or one pair
abbrev pub Few1 : ℕ → (ℤ → ℤ → Set) → Type 0
Few1 k f = (s e : ℤ) → Proper s e → length (f s e) ≤ k

abbrev pub Few2 : ℕ → PairOp → Type 0
Few2 k f = (s e t g : ℤ) → Proper s e → Proper t g → length (f s e t g) ≤ k

pub record Demand2 : Type 0 where
  pub holds1 : (o : Op1) → Holds1 o
  pub holds2 : (o : Op2) → Holds2 o
  pub neg_only : Only1 neg
  pub abs_only : Only1 abs
  pub add_only : Only2 add
  pub sub_only : Only2 sub
  pub not_only : Only1 not'
  pub le_only : Only2 le
  pub lt_only : Only2 lt
  pub ne_only : OnlyFilled2 ne
  pub and_only : OnlyFilled2 and
  pub or_only : OnlyFilled2 or
  -- mul (02, (vii)): no product leaves its range, nor does a member of the answer; the answer has just the members of 01's answer that are in the range; no interval is lost by the cut
  pub product_range : (x y : ℤ) → Between least_product (product x y) greatest_product
  pub mul_range : (a b : Set) (z : ℤ) → Normal a → Normal b → z ∈ set2 mul a b → Between least_product z greatest_product
  pub mul_cut : (a b : Set) → Normal a → Normal b → set2 mul a b ≡ intersect (uncut_mul a b) (span least_product greatest_product)
  pub mul_kept : (s e t f : ℤ) → length (mul_pair s e t f) ≡ length (uncut_pair s e t f)
  -- the members of union and intersect
  pub union_holds : (a b : Set) (z : ℤ) → Normal a → Normal b → (z ∈ a) ⊎ (z ∈ b) → z ∈ union a b
  pub union_only : (a b : Set) (z : ℤ) → Normal a → Normal b → z ∈ union a b → (z ∈ a) ⊎ (z ∈ b)
  pub intersect_holds : (a b : Set) (z : ℤ) → Normal a → Normal b → z ∈ a → z ∈ b → z ∈ intersect a b
  pub intersect_only : (a b : Set) (z : ℤ) → Normal a → Normal b → z ∈ intersect a b → (z ∈ a) × (z ∈ b)
  -- every answer is normal, so its ends are from MIN to MAX
  pub normal1 : (o : Op1) (a : Set) → Normal a → Normal (set1 o a)
  pub normal2 : (o : Op2) (a b : Set) → Normal a → Normal b → Normal (set2 o a b)
  pub union_normal : (a b : Set) → Normal a → Normal b → Normal (union a b)
  pub intersect_normal : (a b : Set) → Normal a → Normal b → Normal (intersect a b)
  -- the flag
  pub div_flag : FlagIs div
  pub rem_flag : FlagIs rem
  pub neg_flag : Keeps1 neg
  pub abs_flag : Keeps1 abs
  pub add_flag : Keeps2 add
  pub sub_flag : Keeps2 sub
  pub mul_flag : Keeps2 mul
  pub not_flag : (flag : Bool) → flag1 not' flag ≡ false
  pub le_flag : Clears2 le
  pub lt_flag : Clears2 lt
  pub ne_flag : Clears2 ne
  pub and_flag : Clears2 and
  pub or_flag : Clears2 or
  -- the work of one pair: 2, 12 and 16 intervals
  pub neg_few : Few1 2 neg_pair
  pub abs_few : Few1 2 abs_pair
  pub add_few : Few2 2 add_pair
  pub sub_few : Few2 2 sub_pair
  pub mul_few : Few2 2 mul_pair
  pub div_few : Few2 12 div_pair
  pub rem_few : Few2 16 rem_pair
  -- each "by" in the rules of rem is the whole rule list again: the falling number never ends it
  pub rem_rules : (s e t f : ℤ) → Proper s e → Proper t f → rem_pair s e t f ≡ rem_step rem_pair s e t f
  -- the join of intervals in any order is normal and keeps just the members
  pub join_normal : (l : List Interval) → All (λ i. Proper i.lo i.hi) l → Normal (rebuild l)
  pub join_holds : (l : List Interval) (z : ℤ) → All (λ i. Proper i.lo i.hi) l → z ∈ l → z ∈ rebuild l
  pub join_only : (l : List Interval) (z : ℤ) → All (λ i. Proper i.lo i.hi) l → z ∈ rebuild l → z ∈ l
  -- a set is fixed by its members, so the way of joining does not matter
  pub unique : (a b : Set) → Normal a → Normal b → ((z : ℤ) → z ∈ a → z ∈ b) → ((z : ℤ) → z ∈ b → z ∈ a) → a ≡ b
