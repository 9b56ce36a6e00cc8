-- What a set call promises: the number, count and flag that it returns (nearest: the number and the member), what it leaves in its slices, demand 2 or for a setpoint its like, and with which length of `out`, where it has one, it does not return 4. `r`, `out'` and `work'` are what the call returned and left. Assumes nothing.
use Rattle.std.specs.Prelude.{ℤ, length, ◌≡◌, Bool, false, List, [], ℕ}
use Rattle.meaning.specs.Number.{Op1, Op2}
use Rattle.meaning.specs.SetCalls.{Returned, returns1, out1, work1, returns2, out2, work2, returns_union, out_union, returns_intersect, out_intersect}
use Rattle.meaning.specs.Demand2Calls.{Right1, Right2, RightUnion, RightIntersect}
use Rattle.meaning.specs.Rooms.{most1, most2, most_both, NeverShort}
use Rattle.meaning.specs.Setpoints.{ReturnedMember, nearest_returns, within_returns, within_out}
use Rattle.meaning.specs.Closest.{RightNearest, RightWithin}

-- neg, abs: one operand, with work
pub record Works1 (o : Op1) (left : List ℤ) (flag : Bool) (out work : List ℤ) (r : Returned) (out' work' : List ℤ) : Type 0 where
  pub returns : r ≡ returns1 o left flag out work
  pub writes : out' ≡ out1 o left flag out work
  pub clears : work' ≡ work1 o left flag out work
  pub demand2 : Right1 o left flag r out'
  pub room : NeverShort (most1 o left) out r

-- add, sub, mul, div, rem: two operands, with work
pub record Works2 (o : Op2) (left : List ℤ) (flag : Bool) (right out work : List ℤ) (r : Returned) (out' work' : List ℤ) : Type 0 where
  pub returns : r ≡ returns2 o left flag right out work
  pub writes : out' ≡ out2 o left flag right out work
  pub clears : work' ≡ work2 o left flag right out work
  pub demand2 : Right2 o left flag right r out'
  pub room : NeverShort (most2 o left right) out r

-- not: one operand, without work
pub record Gives1 (o : Op1) (left out : List ℤ) (r : Returned) (out' : List ℤ) : Type 0 where
  pub returns : r ≡ returns1 o left false out []
  pub writes : out' ≡ out1 o left false out []
  pub demand2 : Right1 o left false r out'
  pub room : NeverShort (most1 o left) out r

-- and, or, le, lt, ne: two operands, without work
pub record Gives2 (o : Op2) (left right out : List ℤ) (r : Returned) (out' : List ℤ) : Type 0 where
  pub returns : r ≡ returns2 o left false right out []
  pub writes : out' ≡ out2 o left false right out []
  pub demand2 : Right2 o left false right r out'
  pub room : NeverShort (most2 o left right) out r

pub record Unites (left right out : List ℤ) (r : Returned) (out' : List ℤ) : Type 0 where
  pub returns : r ≡ returns_union left right out
  pub writes : out' ≡ out_union left right out
  pub demand2 : RightUnion left right r out'
  pub room : NeverShort (most_both left right) out r

pub record Meets (left right out : List ℤ) (r : Returned) (out' : List ℤ) : Type 0 where
  pub returns : r ≡ returns_intersect left right out
  pub writes : out' ≡ out_intersect left right out
  pub demand2 : RightIntersect left right r out'
  pub room : NeverShort (most_both left right) out r

-- nearest: it is lent no slice to write to
pub record Nears (set : List ℤ) (x : ℤ) (r : ReturnedMember) : Type 0 where
  pub returns : r ≡ nearest_returns set x
  pub setpoint : RightNearest set x r

-- within: one set, a number and a distance, without work
pub record Reaches (set : List ℤ) (x : ℤ) (d : ℕ) (out : List ℤ) (r : Returned) (out' : List ℤ) : Type 0 where
  pub returns : r ≡ within_returns set x d out
  pub writes : out' ≡ within_out set x d out
  pub setpoint : RightWithin set x d r out'
  pub room : NeverShort (length set) out r
