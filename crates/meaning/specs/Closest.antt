-- What the definitions of Setpoints.antt come to in the words of document 02 (ii), over members, and so what the two calls give where they refuse nothing.
-- The theorems are `setpoints` and `setpoint_calls` of laws/proofs/Setpoints.antt. Assumes nothing.
use Rattle.std.specs.Prelude.{ℤ, length, ◌≤ℤ◌, ◌≡◌, false, List, [], ◌∷◌, ℕ, ◌-◌, ◌≤◌, ◌<◌, ◌^◌}
use Rattle.meaning.specs.Lists.{All}
use Rattle.meaning.specs.Number.{InRange, distance}
use Rattle.meaning.specs.Interval.{Interval}
use Rattle.meaning.specs.NumberIntervals.{Set, ◌∈◌, Normal, intervals}
use Rattle.meaning.specs.SetCalls.{Returned}
use Rattle.meaning.specs.Demand2Calls.{shown, Ends, Stands}
use Rattle.meaning.specs.Rooms.{NeverShort}
use Rattle.meaning.specs.Setpoints.{nearest, near, ReturnedMember, nearest_returns, within_returns, within_out}

-- of the numbers with the property P, m is one, none lies closer to x, and none at the same distance is lower
pub record Closest (P : ℤ → Type 0) (x m : ℤ) : Type 0 where
  pub has : P m
  pub least : (z : ℤ) → P z → distance m x ≤ distance z x
  pub lowest : (z : ℤ) → P z → distance z x ≡ distance m x → m ≤ℤ z

-- of the members of s
abbrev pub ClosestIn : Set → ℤ → ℤ → Type 0
ClosestIn s x m = Closest (λ z. z ∈ s) x m

pub record Setpoints : Type 0 where
  -- distances of numbers run from 0 to 2^64 − 1
  pub distance_most : (a b : ℤ) → InRange a → InRange b → distance a b ≤ 2 ^ 64 - 1
  pub nearest_closest : (i : Interval) (s : Set) (x : ℤ) → Normal (i ∷ s) → ClosestIn (i ∷ s) x (nearest (i ∷ s) x)
  -- there is no other
  pub closest_one : (s : Set) (x m n : ℤ) → ClosestIn s x m → ClosestIn s x n → m ≡ n
  -- just the members within the distance, as a normal set of no more intervals
  pub near_holds : (s : Set) (x : ℤ) (d : ℕ) (z : ℤ) → z ∈ s → distance z x ≤ d → z ∈ near s x d
  pub near_only : (s : Set) (x : ℤ) (d : ℕ) (z : ℤ) → z ∈ near s x d → (z ∈ s) × (distance z x ≤ d)
  pub near_normal : (s : Set) (x : ℤ) (d : ℕ) → Normal s → Normal (near s x d)
  pub near_few : (s : Set) (x : ℤ) (d : ℕ) → length (near s x d) ≤ length s
  -- it is empty just where the closest member lies farther
  pub none_near : (i : Interval) (s : Set) (x : ℤ) (d : ℕ) → Normal (i ∷ s) → d < distance (nearest (i ∷ s) x) x → near (i ∷ s) x d ≡ []
  pub farther : (i : Interval) (s : Set) (x : ℤ) (d : ℕ) → Normal (i ∷ s) → near (i ∷ s) x d ≡ [] → d < distance (nearest (i ∷ s) x) x

-- ---- the calls, where they refuse nothing

-- the argument is a normal set, and the member is its closest
pub record NearestCall (set : List ℤ) (x : ℤ) (r : ReturnedMember) : Type 0 where
  pub set_ends : Ends set
  pub closest : ClosestIn (intervals set) x r.member

-- the argument and the answer are normal; the answer has just the members within the distance, no more numbers than the argument, and no flag; it is empty just where the closest lies farther
pub record WithinCall (set : List ℤ) (x : ℤ) (d : ℕ) (r : Returned) (out : List ℤ) : Type 0 where
  pub set_ends : Ends set
  pub stands : Stands r out
  pub holds : (z : ℤ) → z ∈ intervals set → distance z x ≤ d → z ∈ shown r out
  pub only : (z : ℤ) → z ∈ shown r out → (z ∈ intervals set) × (distance z x ≤ d)
  pub few : r.count ≤ length set
  pub none_near : d < distance (nearest (intervals set) x) x → r.count ≡ 0
  pub farther : r.count ≡ 0 → d < distance (nearest (intervals set) x) x
  pub unflagged : r.flag ≡ false

abbrev pub RightNearest : List ℤ → ℤ → ReturnedMember → Type 0
RightNearest set x r = r.number ≡ 0 → NearestCall set x r

abbrev pub RightWithin : List ℤ → ℤ → ℕ → Returned → List ℤ → Type 0
RightWithin set x d r out = r.number ≡ 0 → WithinCall set x d r out

pub record SetpointCalls : Type 0 where
  pub nearest_call : (set : List ℤ) (x : ℤ) → All InRange set → RightNearest set x (nearest_returns set x)
  pub within_call : (set : List ℤ) (x : ℤ) (d : ℕ) (out : List ℤ) → All InRange set → RightWithin set x d (within_returns set x d out) (within_out set x d out)
  -- an `out` as long as the set is long enough
  pub within_room : (set : List ℤ) (x : ℤ) (d : ℕ) (out : List ℤ) → NeverShort (length set) out (within_returns set x d out)
