-- How long an answer can be: a call that is lent an `out` of so many numbers never returns 4. The contract of each set call promises it (Promises.antt).
-- The theorem is `rooms` of sets/proofs/Rooms.antt, for arguments whose numbers are from MIN to MAX, as those of a slice of i64 are. Assumes nothing.
use Rattle.std.specs.Prelude.{ℤ, length, ◌≡◌, Bool, List, ℕ, ◌+◌, ◌≤◌}
use Rattle.meaning.specs.Refusals.{no_room}
use Rattle.meaning.specs.Lists.{All}
use Rattle.meaning.specs.Number.{InRange, Op1, neg, abs, not', Op2, add, sub, mul, div, rem, le, lt, ne, and, or}
use Rattle.meaning.specs.SetCalls.{factor1, factor2, need1, need2, Returned, returns1, returns2, returns_union, returns_intersect}

-- as many numbers as the need of work, or 4 where the answer is made of 0 and 1000
abbrev pub most1 : Op1 → List ℤ → ℕ
most1 neg left = need1 (factor1 neg) left
most1 abs left = need1 (factor1 abs) left
most1 not' left = 4

abbrev pub most2 : Op2 → List ℤ → List ℤ → ℕ
most2 add left right = need2 (factor2 add) left right
most2 sub left right = need2 (factor2 sub) left right
most2 mul left right = need2 (factor2 mul) left right
most2 div left right = need2 (factor2 div) left right
most2 rem left right = need2 (factor2 rem) left right
most2 le left right = 4
most2 lt left right = 4
most2 ne left right = 4
most2 and left right = 4
most2 or left right = 4

-- for union and intersect, as many as both arguments have
abbrev pub most_both : List ℤ → List ℤ → ℕ
most_both left right = length left + length right

-- what was returned is not 4, if `out` has `most` numbers or more
abbrev pub NeverShort : ℕ → List ℤ → Returned → Type 0
NeverShort most out r = most ≤ length out → r.number ≡ no_room → ⊥

pub record Rooms : Type 0 where
  pub room1 : (o : Op1) (left : List ℤ) (flag : Bool) (out work : List ℤ) → All InRange left → NeverShort (most1 o left) out (returns1 o left flag out work)
  pub room2 : (o : Op2) (left : List ℤ) (flag : Bool) (right out work : List ℤ) → All InRange left → All InRange right → NeverShort (most2 o left right) out (returns2 o left flag right out work)
  pub union_room : (left right out : List ℤ) → All InRange left → All InRange right → NeverShort (most_both left right) out (returns_union left right out)
  pub intersect_room : (left right out : List ℤ) → All InRange left → All InRange right → NeverShort (most_both left right) out (returns_intersect left right out)
