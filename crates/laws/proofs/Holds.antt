-- A hold is judged exactly: `inside`, the check's test of it, is true just when every member of the set is from LO to HI, and where it is false some member is outside. Assumes nothing.
use lib.IntN.{ℤ}
use lib.Signed.{le_z, ≤ℤ_refl}
use mathlib.Core.Path.{◌≡◌, refl, sym, ap, ◌∙◌}
use mathlib.Core.Bool.{Bool, true, false, cond, ◌&&◌}
use mathlib.Core.List.{[], ◌∷◌}
use Rattle.meaning.specs.Refusals.{hold_broken}
use Rattle.meaning.specs.Number.{Between}
use Rattle.meaning.specs.NumberIntervals.{Set, ◌∈◌, here, there, Normal}
use Rattle.meaning.specs.Outcome.{ok, stop}
use Rattle.meaning.specs.Check.{at, inside, act_by}
use Rattle.meaning.specs.CheckSets.{Outside, HoldExact}
use Rattle.laws.proofs.Integers.{zarith, never, by_test, and_both}
use Rattle.laws.proofs.Members.{between}
use Rattle.laws.proofs.Work.{guard_ok, not_stop}

-- a hold that passes: every member is from lo to hi
pub inside_all : (lo hi : ℤ) {z : ℤ} {s : Set} → inside lo s hi ≡ true → z ∈ s → Between lo z hi
unfolding inside
inside_all lo hi {z} e (here {i} {s} b) =
    let h = and_both (le_z lo i.lo) (le_z i.hi hi && inside lo s hi) e in
    let k = and_both (le_z i.hi hi) (inside lo s hi) h.1 in
    let p = h.0 in
    let q = k.0 in
    let u = b.above in
    let v = b.below in
    between {lo = lo} {z = z} {hi = hi} (omega zarith) (omega zarith)
inside_all lo hi e (there {i} {s} m) =
    let h = and_both (le_z lo i.lo) (le_z i.hi hi && inside lo s hi) e in
    inside_all lo hi (and_both (le_z i.hi hi) (inside lo s hi) h.1).1 m

-- a hold that does not pass: some member is outside
pub inside_else : (lo hi : ℤ) (s : Set) → Normal s → inside lo s hi ≡ false → Outside lo hi s
unfolding inside
inside_else lo hi [] n e = never e
inside_else lo hi (i ∷ s) n e = go (le_z lo i.lo) (le_z i.hi hi) refl refl e (inside_else lo hi s n.2)
  where
    go : (t u : Bool) → le_z lo i.lo ≡ t → le_z i.hi hi ≡ u → (t && (u && inside lo s hi)) ≡ false → (inside lo s hi ≡ false → Outside lo hi s) → Outside lo hi (i ∷ s)
    go false u p q e r = record { member = i.lo; member_in = here (between (≤ℤ_refl i.lo) n.0.ordered); outside = λ b. let x = b.above in absurd (omega zarith) }
    go true false p q e r = record { member = i.hi; member_in = here (between n.0.ordered (≤ℤ_refl i.hi)); outside = λ b. let x = b.below in absurd (omega zarith) }
    go true true p q e r = let o = r e in record { member = o.member; member_in = there o.member_in; outside = o.outside }

pub all_inside : (lo hi : ℤ) (s : Set) → Normal s → ((z : ℤ) → z ∈ s → Between lo z hi) → inside lo s hi ≡ true
all_inside lo hi s n h = by_test (inside lo s hi) (λ e. e) (λ e. let o = inside_else lo hi s n e in absurd (o.outside (h o.member o.member_in)))

-- the line itself: a hold passes just when every member is inside, and 21 is its answer just when some member is outside
pub hold_exact : HoldExact
unfolding act_by
hold_exact limit B r lo hi n =
    let s = at B.sets r in
    record {
      passes = λ e z m. inside_all lo hi (guard_ok (inside lo s hi) hold_broken (ok B) e).0 m;
      passes_if = λ h. ap (λ (t : Bool). cond t (ok B) (stop hold_broken)) (all_inside lo hi s n h);
      breaks = λ e. by_test (inside lo s hi) (λ t. not_stop (sym e ∙ ap (λ (u : Bool). cond u (ok B) (stop hold_broken)) t)) (inside_else lo hi s n);
      breaks_if = λ o. by_test (inside lo s hi) (λ t. absurd (o.outside (inside_all lo hi t o.member_in))) (λ t. ap (λ (u : Bool). cond u (ok B) (stop hold_broken)) t);
    }
