-- The empty set is normal and has no member; any other is refused for what every call refuses. Assumes nothing.
use Rattle.std.proofs.Common.{◌≡◌, ◌≤◌, ℤ, List, [], ◌∷◌, length, true, refl, arith}
use Rattle.meaning.specs.NumberIntervals.{normal, intervals}
use Rattle.meaning.specs.SetCalls.{refusal}
use Rattle.meaning.specs.Setpoints.{setpoint_refusal}
use Rattle.laws.proofs.Flat.{normal_even}
use Rattle.setpoints.proofs.Filled.{some}
use Rattle.setpoints.proofs.accept_filled.Goals as goal

empty : (l : List ℤ) → length l ≡ 0 → setpoint_refusal l ≡ 10
unfolding setpoint_refusal refusal normal intervals
empty [] e = refl
empty (x ∷ l) e = absurd (omega arith)

given : (l : List ℤ) → 1 ≤ length l → setpoint_refusal l ≡ refusal l
unfolding setpoint_refusal refusal
given l h = let e = normal_even l in let f = some l in grind (arith, h, e, f)

pub returns-then-is_empty-clause-refused : goal.returns-then-is_empty-clause-refused
returns-then-is_empty-clause-refused c =
    let n : length c.args.s.now ≡ 0 = grind arith in
    let e = empty c.args.s.now n in
    grind (arith, e)

pub returns-clause-refused : goal.returns-clause-refused
returns-clause-refused c =
    let n : 1 ≤ length c.args.s.now = grind arith in
    let e = given c.args.s.now n in
    grind (arith, e)
