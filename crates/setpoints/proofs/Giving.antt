-- A call gives or writes what its definition says, and a set that it does not refuse was read by the code, so its numbers are from MIN to MAX: `setpoint_calls` speaks of it. Assumes nothing.
use Rattle.std.proofs.Common.{◌≡◌, ℕ, ℤ, List, false, sym, ap, subst, ◌∙◌, arith, Option, Some, None}
use Rattle.std.specs.Option.{ok_or}
use Rattle.meaning.specs.NumberIntervals.{intervals}
use Rattle.meaning.specs.SetCalls.{Returned, refusal}
use Rattle.meaning.specs.Setpoints.{nearest, near, setpoint_refusal, ReturnedMember, given, withheld, nearest_returns}
use Rattle.meaning.specs.Closest.{NearestCall, WithinCall}
use Rattle.meaning.specs.Promises.{Nears, Reaches}
use Rattle.laws.proofs.Setpoints.{nearest_call, within_call, within_room}
use Rattle.sets.specs.Sets.{Argument}
use Rattle.replies.specs.Returning.{Handed}
use Rattle.refusals.specs.declared.Cause.TheVariants.{EmptySet}
use Rattle.setpoints.specs.Saying.{member_of, IsClosest}
use Rattle.set_calls.proofs.Right.{ranged, carried, carried_room}

-- ---- nearest

module _ (set : List ℤ) (x : ℤ) where
  -- the contract, by what the code gives
  nears : {r : ReturnedMember} → r ≡ nearest_returns set x → (setpoint_refusal set ≡ 0 → Argument set) → Nears set x r
  nears p h = record {
    returns = p;
    setpoint = λ n. subst (NearestCall set x) (sym p) (nearest_call set x (λ z. ranged (h z)) (sym (ap (λ (a : ReturnedMember). a.number) p) ∙ n));
  }

  -- k is the refusal as the code has it
  pub nears_refused : {k : ℕ} → k ≡ setpoint_refusal set → (k ≡ 0 → ⊥) → Nears set x (withheld k)
  unfolding nearest_returns
  nears_refused e h = nears (grind arith) (λ z. absurd (h (e ∙ z)))

  pub nears_given : 0 ≡ setpoint_refusal set → Argument set → {m : ℤ} → m ≡ nearest (intervals set) x → Nears set x (given m)
  unfolding nearest_returns
  nears_given h a q = nears (grind arith) (λ _. a)

  -- what the code finds in a set that no set call refuses
  pub nears_found : 0 ≡ refusal set → Argument set → (r : Option ℤ) → IsClosest r (intervals set) x → Nears set x (member_of (ok_or r EmptySet))
  unfolding setpoint_refusal
  nears_found h a None f = nears_refused (grind (arith, h, f)) (λ e. absurd (omega (arith, e)))
  nears_found h a (Some m) f = nears_given (grind (arith, h, f.0)) a f.1

-- ---- within

module _ (set : List ℤ) (x : ℤ) (d : ℕ) (out : List ℤ) {r : Returned} {o : List ℤ} where
  pub reaches : Handed (setpoint_refusal set) 0 (near (intervals set) x d) false out r o → (setpoint_refusal set ≡ 0 → Argument set) → Reaches set x d out r o
  reaches e h = record {
    returns = e.0;
    writes = e.1;
    setpoint = λ n. carried (λ t l. WithinCall set x d t l) e.0 e.1 n (within_call set x d out (λ z. ranged (h z)));
    room = carried_room _ out e.0 (within_room set x d out);
  }
