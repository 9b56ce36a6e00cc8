-- Closest permitted setpoint (02, (ii)): the member of a set closest to a number, the members within a distance of it, and the two calls. Distances are exact and do not wrap. Assumes nothing.
use Rattle.std.specs.Prelude.{ltb, eqb, ℤ, pos, ◌+ℤ◌, ◌-ℤ◌, false, cond, List, [], ◌∷◌, ℕ}
use Rattle.std.specs.Int.Signed.{lt_z}
use Rattle.meaning.specs.Refusals.{empty_set}
use Rattle.meaning.specs.Number.{distance}
use Rattle.meaning.specs.Interval.{cut_to}
use Rattle.meaning.specs.NumberIntervals.{Set, filled, intervals}
use Rattle.meaning.specs.SetCalls.{Returned, refusal, call_returns, call_out}

-- ---- the member at least distance, the lower one on a tie

-- the number of [lo,hi] closest to x
unfoldable pub clamp : ℤ → ℤ → ℤ → ℤ
clamp x lo hi = cond (lt_z x lo) lo (cond (lt_z hi x) hi x)

-- of a and b the one closer to x; a on a tie
unfoldable pub nearer : ℤ → ℤ → ℤ → ℤ
nearer x a b = cond (ltb (distance b x) (distance a x)) b a

-- the closest of a and the members of s, which are above a
unfoldable pub nearest_from : ℤ → ℤ → Set → ℤ
nearest_from x a [] = a
nearest_from x a (i ∷ s) = nearest_from x (nearer x a (clamp x i.lo i.hi)) s

-- an empty set has none: the call refuses it
unfoldable pub nearest : Set → ℤ → ℤ
nearest [] x = pos 0
nearest (i ∷ s) x = nearest_from x (clamp x i.lo i.hi) s

-- ---- the members within distance d: those from x − d to x + d; what is left of a normal set is normal, so nothing is joined

unfoldable pub near : Set → ℤ → ℕ → Set
near s x d = cut_to (x -ℤ pos d) (x +ℤ pos d) s

-- ---- refusals: 2, 1, then 10; 0 is none

unfoldable pub setpoint_refusal : List ℤ → ℕ
setpoint_refusal s = cond (eqb (refusal s) 0) (cond (filled (intervals s)) 0 empty_set) (refusal s)

-- ---- the calls

-- what `nearest` returns: number 0 and the member; a refusal gives its number and member 0
pub record ReturnedMember : Type 0 where
  pub number : ℕ
  pub member : ℤ

abbrev pub given : ℤ → ReturnedMember
given m = record { number = 0; member = m }

abbrev pub withheld : ℕ → ReturnedMember
withheld k = record { number = k; member = pos 0 }

unfoldable pub nearest_returns : List ℤ → ℤ → ReturnedMember
nearest_returns set x = cond (eqb (setpoint_refusal set) 0) (given (nearest (intervals set) x)) (withheld (setpoint_refusal set))

-- `within` is a set call without work: 4 comes last, and the flag is false
module _ (set : List ℤ) (x : ℤ) (d : ℕ) (out : List ℤ) where
  abbrev pub within_returns : Returned
  within_returns = call_returns (setpoint_refusal set) 0 (near (intervals set) x d) false out []

  abbrev pub within_out : List ℤ
  within_out = call_out (setpoint_refusal set) 0 (near (intervals set) x d) false out []
