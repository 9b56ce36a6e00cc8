-- The theorems of meaning/specs/Closest.antt: of the definitions by the laws of Closest and Near, and of the calls, which give or write what the definitions say where they refuse nothing. Assumes nothing.
use lib.Dec.{eqb}
use lib.IntN.{ℤ}
use lib.ListN.{length}
use mathlib.Core.Path.{◌≡◌, refl, sym, ap, subst, ◌∙◌}
use mathlib.Core.Bool.{Bool, true, false, cond}
use mathlib.Core.List.{List, [], ◌∷◌}
use Prim.Native.Nat.{ℕ, ◌≤◌, ◌<◌}
use native.Mathlib.Omega.{arith}
use borrow.Author.Tests.{eq-eqb, eqb-true}
use Rattle.meaning.specs.Lists.{All}
use Rattle.meaning.specs.Refusals.{no_room, empty_set}
use Rattle.meaning.specs.Number.{InRange, distance}
use Rattle.meaning.specs.NumberIntervals.{Set, ◌∈◌, Normal, filled, flat, intervals}
use Rattle.meaning.specs.SetCalls.{Returned, refusal}
use Rattle.meaning.specs.Rooms.{NeverShort}
use Rattle.meaning.specs.Setpoints.{nearest, near, setpoint_refusal, ReturnedMember, given, withheld, nearest_returns, within_returns, within_out}
use Rattle.meaning.specs.Closest.{ClosestIn, Setpoints, RightNearest, RightWithin, SetpointCalls}
use Rattle.laws.proofs.Integers.{clash}
use Rattle.laws.proofs.Flat.{length_flat, length_intervals}
use Rattle.laws.proofs.Demand2Calls.{argument_ends, call_wrote, shows, wrote_ends, flagged}
use Rattle.laws.proofs.Lengths.{refusal_known, never_short}
use Rattle.laws.proofs.Distances.{distance_most}
use Rattle.laws.proofs.Closest.{nearest_closest, closest_one}
use Rattle.laws.proofs.Near.{near_holds, near_only, near_normal, near_few, none_near, farther}

pub setpoints : Setpoints
setpoints = record {
  distance_most = distance_most;
  nearest_closest = nearest_closest;
  closest_one = λ s. closest_one (λ z. z ∈ s);
  near_holds = near_holds;
  near_only = near_only;
  near_normal = near_normal;
  near_few = near_few;
  none_near = none_near;
  farther = farther;
}

-- ---- refusals: a set that is not refused is a normal set with a member

pub record Allowed (set : List ℤ) : Type 0 where
  pub unrefused : refusal set ≡ 0
  pub has_member : filled (intervals set) ≡ true

pub allowed : (set : List ℤ) → setpoint_refusal set ≡ 0 → Allowed set
unfolding setpoint_refusal
allowed set e = go (eqb (refusal set) 0) (filled (intervals set)) refl refl e
  where
    go : (a b : Bool) → eqb (refusal set) 0 ≡ a → filled (intervals set) ≡ b → cond a (cond b 0 empty_set) (refusal set) ≡ 0 → Allowed set
    go true true p q e = record { unrefused = eqb-true (refusal set) 0 p; has_member = q }
    go true false p q e = absurd (omega arith)
    go false b p q e = clash (eq-eqb (refusal set) 0 e) p

setpoint_known : (set : List ℤ) → setpoint_refusal set ≡ no_room → ⊥
unfolding setpoint_refusal
setpoint_known set = go (eqb (refusal set) 0) (filled (intervals set))
  where
    go : (a b : Bool) → cond a (cond b 0 empty_set) (refusal set) ≡ no_room → ⊥
    go true true e = omega arith
    go true false e = omega arith
    go false b e = refusal_known set e

-- ---- nearest

closest_of : (s : Set) (x : ℤ) → Normal s → filled s ≡ true → ClosestIn s x (nearest s x)
closest_of [] x n e = clash e refl
closest_of (i ∷ s) x n e = nearest_closest i s x n

-- a call that refuses nothing had a set with a member, and gives its closest
pub nearest_gave : (set : List ℤ) (x : ℤ) → (nearest_returns set x).number ≡ 0 → (setpoint_refusal set ≡ 0) × (nearest_returns set x ≡ given (nearest (intervals set) x))
unfolding nearest_returns
nearest_gave set x e = go (eqb (setpoint_refusal set) 0) refl e
  where
    m : ReturnedMember
    m = given (nearest (intervals set) x)

    go : (a : Bool) → eqb (setpoint_refusal set) 0 ≡ a → (cond a m (withheld (setpoint_refusal set))).number ≡ 0 → (setpoint_refusal set ≡ 0) × (cond a m (withheld (setpoint_refusal set)) ≡ m)
    go true p e = (eqb-true (setpoint_refusal set) 0 p, refl)
    go false p e = clash (eq-eqb (setpoint_refusal set) 0 e) p

pub nearest_call : (set : List ℤ) (x : ℤ) → (setpoint_refusal set ≡ 0 → All InRange set) → RightNearest set x (nearest_returns set x)
nearest_call set x r e =
    let g = nearest_gave set x e in
    let a = allowed set g.0 in
    let s = argument_ends set (r g.0) a.unrefused in
    record {
      set_ends = s;
      closest = subst (λ (m : ReturnedMember). ClosestIn (intervals set) x m.member) (sym g.1) (closest_of (intervals set) x s.normal a.has_member);
    }

-- ---- within

-- of a set with a member the answer has no ends just where the closest lies farther
no_ends : (s : Set) (x : ℤ) (d : ℕ) → Normal s → filled s ≡ true → d < distance (nearest s x) x → length (flat (near s x d)) ≡ 0
unfolding flat
no_ends [] x d n e h = clash e refl
no_ends (i ∷ s) x d n e h = ap (λ (l : Set). length (flat l)) (none_near i s x d n h)

farther_away : (s : Set) (x : ℤ) (d : ℕ) → Normal s → filled s ≡ true → length (flat (near s x d)) ≡ 0 → d < distance (nearest s x) x
farther_away [] x d n e h = clash e refl
farther_away (i ∷ s) x d n e h = farther i s x d n (none (near (i ∷ s) x d) h)
  where
    none : (l : Set) → length (flat l) ≡ 0 → l ≡ []
    none [] h = refl
    none (j ∷ l) h = absurd (let z : ⊥ = omega (arith, length_flat (j ∷ l)) in z)

module _ (set : List ℤ) (x : ℤ) (d : ℕ) (out : List ℤ) where
  abbrev answer : Set
  answer = near (intervals set) x d

  -- it is no longer than the set
  no_longer : length (flat answer) ≤ length set
  no_longer = omega (arith, near_few (intervals set) x d, length_flat answer, length_intervals set)

  pub within_call : (setpoint_refusal set ≡ 0 → All InRange set) → RightWithin set x d (within_returns set x d out) (within_out set x d out)
  within_call r e =
      let k = setpoint_refusal set in
      let w = call_wrote k 0 answer false out [] e in
      let a = allowed set w.unrefused_args in
      let s = argument_ends set (r w.unrefused_args) a.unrefused in
      let h = shows k 0 answer false out [] w in
      let counted = ap (λ (t : Returned). t.count) w.returned in
      record {
        set_ends = s;
        stands = wrote_ends k 0 answer false out [] w (near_normal (intervals set) x d s.normal);
        holds = λ z m n. subst (λ (l : Set). z ∈ l) (sym h) (near_holds (intervals set) x d z m n);
        only = λ z m. near_only (intervals set) x d z (subst (λ (l : Set). z ∈ l) h m);
        few = subst (λ (t : Returned). t.count ≤ length set) (sym w.returned) no_longer;
        none_near = λ f. counted ∙ no_ends (intervals set) x d s.normal a.has_member f;
        farther = λ z. farther_away (intervals set) x d s.normal a.has_member (sym counted ∙ z);
        unflagged = flagged k 0 answer false out [] w;
      }

  pub within_room : NeverShort (length set) out (within_returns set x d out)
  within_room h = never_short _ 0 answer false out [] (setpoint_known set) (λ _. omega (arith, h, no_longer))

pub setpoint_calls : SetpointCalls
setpoint_calls = record {
  nearest_call = λ set x r. nearest_call set x (λ _. r);
  within_call = λ set x d out r. within_call set x d out (λ _. r);
  within_room = within_room;
}
