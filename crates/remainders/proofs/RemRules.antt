-- The rules of rem by the tests that the code makes, and the parts of an interval that it goes on with. Assumes nothing.
use lib.IntN.{ℤ, pos, negsuc, suc_ℤ, pred_ℤ}
use lib.Signed.{lt_z}
use mathlib.Core.Path.{◌≡◌, refl, sym, ap, ◌∙◌}
use mathlib.Core.Bool.{true, false, cond, ◌&&◌}
use mathlib.Core.List.{List, [], ◌++◌}
use Prim.Native.Nat.{ℕ, suc, ◌+◌, ◌-◌, ◌≤◌}
use native.Mathlib.Omega.{arith}
use lib.ListN.{length}
use mir.Syntax.{w64}
use mir.Val.{SFits}
use mir.Facts.{to_z-of_z}
use Rattle.std.specs.Prelude.{Option}
use Rattle.meaning.specs.Number.{MIN, within}
use Rattle.meaning.specs.Interval as meant
use Rattle.meaning.specs.Interval.{Proper, PairOp, span, without, each, rule_a, rule_b, rule_c, rule_d, rule_e, rule_f, rem_step, rem_with, rem_pair}
use Rattle.laws.proofs.Flat.{length_flat}
use Rattle.laws.proofs.Machine.{rd}
use Rattle.laws.proofs.RemainderRules.{step_a, step_b, step_c, step_d, step_e, step_f}
use Rattle.laws.proofs.RemainderCounts.{rem_few}
use Rattle.writer.specs.declared.Writer.{Writer}
use Rattle.slices.specs.Adds.{Holds}
use Rattle.slices.proofs.Behind.{holds_as, two_first}
use Rattle.interval.specs.declared.Interval.{Interval}
use Rattle.interval.specs.Part.{of_part, spans}
use Rattle.interval.proofs.Cuts.{each_cut, part_is}

-- ---- the ends of an interval as the machine reads them

pub ends_read : {A : Type 0} (g : ℤ → ℤ → A) (i : Interval) → SFits w64 i.lo → SFits w64 i.hi → g (rd i.lo) (rd i.hi) ≡ g i.lo i.hi
ends_read g i f h k = g (to_z-of_z f k) (to_z-of_z h k)

-- ---- what g gives of the parts of an interval below and above a number in it

cut_is : (g : ℤ → ℤ → List meant.Interval) (i : Interval) {c : ℤ} → SFits w64 c → within i.lo c i.hi ≡ true
    → cond (lt_z i.lo (rd c)) (g i.lo (pred_ℤ (rd c))) [] ++ cond (lt_z (rd c) i.hi) (g (suc_ℤ (rd c)) i.hi) [] ≡ each g (without c i.lo i.hi)
cut_is g i {c} f h =
    each_cut g (rd c) i.lo i.hi (ap (λ (z : ℤ). within i.lo z i.hi) (to_z-of_z f) ∙ h)
    ∙ ap (λ (z : ℤ). each g (without z i.lo i.hi)) (to_z-of_z f)

pub parts_are : (g : ℤ → ℤ → List meant.Interval) (i : Interval) (below above : Option Interval) {c : ℤ} → SFits w64 c → within i.lo c i.hi ≡ true
    → spans below ≡ cond (lt_z i.lo (rd c)) (span i.lo (pred_ℤ (rd c))) [] → spans above ≡ cond (lt_z (rd c) i.hi) (span (suc_ℤ (rd c)) i.hi) []
    → of_part g below ++ of_part g above ≡ each g (without c i.lo i.hi)
parts_are g i below above {c} f h b a =
    (λ k. part_is g below (lt_z i.lo (rd c)) i.lo (pred_ℤ (rd c)) b k ++ part_is g above (lt_z (rd c) i.hi) (suc_ℤ (rd c)) i.hi a k)
    ∙ cut_is g i f h

-- there is room for the part below where there is room for both
pub below_room : (g : ℤ → ℤ → List meant.Interval) (i : Interval) (below : Option Interval) {c : ℤ} (w : Writer ℤ) → SFits w64 c → within i.lo c i.hi ≡ true
    → spans below ≡ cond (lt_z i.lo (rd c)) (span i.lo (pred_ℤ (rd c))) [] → Holds (each g (without c i.lo i.hi)) w → Holds (of_part g below) w
below_room g i below {c} w f h b room = holds_as w (part_is g below (lt_z i.lo (rd c)) i.lo (pred_ℤ (rd c)) b) (two_first _ _ (cut_is g i f h) w room)

-- ---- the number that falls

pub with_none : (n : ℕ) (s e t f : ℤ) → n ≡ 0 → [] ≡ rem_with n s e t f
unfolding rem_with
with_none n s e t f h = sym (ap (λ (k : ℕ). rem_with k s e t f) h)

with_suc : (k : ℕ) (s e t f : ℤ) → rem_step (rem_with k) s e t f ≡ rem_with (suc k) s e t f
unfolding rem_with
with_suc k s e t f = refl

with_step : (n : ℕ) (s e t f : ℤ) → (n ≡ 0 → ⊥) → rem_step (rem_with (n - 1)) s e t f ≡ rem_with n s e t f
with_step n s e t f h = at (n - 1) (omega arith)
  where
    at : (k : ℕ) → suc k ≡ n → rem_step (rem_with k) s e t f ≡ rem_with n s e t f
    at k d = with_suc k s e t f ∙ ap (λ (j : ℕ). rem_with j s e t f) d

-- ---- the rules

-- what a rule gives is what the first that fits gives
abbrev Written : ℕ → Interval → Interval → PairOp → Type 0
Written n l r rule = rule l.lo l.hi r.lo r.hi ≡ rem_with n l.lo l.hi r.lo r.hi

-- by the tests that have failed, and the one that has not
module _ (n : ℕ) (l r : Interval) (more : n ≡ 0 → ⊥) where
  written : {x : List meant.Interval} → rem_step (rem_with (n - 1)) l.lo l.hi r.lo r.hi ≡ x → x ≡ rem_with n l.lo l.hi r.lo r.hi
  written e = sym e ∙ with_step n l.lo l.hi r.lo r.hi more

  pub written_a : true ≡ within r.lo (pos 0) r.hi → Written n l r (rule_a (rem_with (n - 1)))
  written_a a = written (step_a (rem_with (n - 1)) l.lo l.hi r.lo r.hi (sym a))

  module _ (no_a : false ≡ within r.lo (pos 0) r.hi) where
    pub written_b : true ≡ (within l.lo MIN l.hi && within r.lo (negsuc 0) r.hi) → Written n l r (rule_b (rem_with (n - 1)))
    written_b b = written (step_b (rem_with (n - 1)) l.lo l.hi r.lo r.hi (sym no_a) (sym b))

    module _ (no_b : false ≡ (within l.lo MIN l.hi && within r.lo (negsuc 0) r.hi)) where
      pub written_c : true ≡ within l.lo (pos 0) l.hi → Written n l r (rule_c (rem_with (n - 1)))
      written_c c = written (step_c (rem_with (n - 1)) l.lo l.hi r.lo r.hi (sym no_a) (sym no_b) (sym c))

      module _ (no_c : false ≡ within l.lo (pos 0) l.hi) where
        pub written_d : true ≡ within r.lo MIN r.hi → Written n l r (rule_d (rem_with (n - 1)))
        written_d d = written (step_d (rem_with (n - 1)) l.lo l.hi r.lo r.hi (sym no_a) (sym no_b) (sym no_c) (sym d))

        module _ (no_d : false ≡ within r.lo MIN r.hi) where
          pub written_e : true ≡ within l.lo MIN l.hi → Written n l r (rule_e (rem_with (n - 1)))
          written_e e = written (step_e (rem_with (n - 1)) l.lo l.hi r.lo r.hi (sym no_a) (sym no_b) (sym no_c) (sym no_d) (sym e))

          pub written_f : false ≡ within l.lo MIN l.hi → Written n l r rule_f
          written_f f = written (step_f (rem_with (n - 1)) l.lo l.hi r.lo r.hi (sym no_a) (sym no_c) (sym no_d) (sym f))

-- ---- room

pub rem_room : {s e t f : ℤ} (w : Writer ℤ) → Proper s e → Proper t f → w.len + 32 ≤ length w.room.now → Holds (rem_with 6 s e t f) w
unfolding rem_pair
rem_room {s} {e} {t} {f} w o q h = omega (arith, length_flat (rem_pair s e t f), rem_few o q)
