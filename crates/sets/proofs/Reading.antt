-- The test of a slice of ends for the normal form: each turn passes one interval, and what is left decides. Assumes nothing.
use mathlib.Core.Path.{◌≡◌, refl, sym, ap, ◌∙◌}
use mathlib.Core.List.{List, [], ◌∷◌, ◌++◌, append_assoc}
use mathlib.Core.Bool.{Bool, true, false, ◌&&◌}
use Prim.Native.Nat.{◌≤◌, ◌<◌}
use native.Mathlib.Omega.{arith}
use lib.ListN.{length, drop}
use lib.IntN.{ℤ}
use lib.Signed.{le_z}
use Rattle.meaning.specs.Lists.{All}
use Rattle.meaning.specs.Number.{InRange}
use Rattle.meaning.specs.NumberIntervals.{apart, normal, Normal, intervals}
use Rattle.laws.proofs.Flat.{ends_normal}
use Rattle.sorting.proofs.Steps.{end_at}

regroup : (a b c : Bool) → (a && (b && c)) ≡ ((a && b) && c)
regroup true b c = refl
regroup false b c = refl

and_true : (a : Bool) → (a && true) ≡ a
and_true true = refl
and_true false = refl

all_joined : (l m : List ℤ) → All InRange l → All InRange m → All InRange (l ++ m)
all_joined [] m p q = q
all_joined (x ∷ l) m p q = (p.0, all_joined l m p.1 q)

-- before a turn `ends` is left of s
pub record Passed (s ends : List ℤ) : Type 0 where
  pub done : List ℤ
  pub whole : s ≡ done ++ ends
  pub ranged : All InRange done
  pub same : normal s ≡ normal ends

pub passed_start : (s : List ℤ) → Passed s s
passed_start s = record { done = []; whole = refl; ranged = tt; same = refl }

-- the first interval, and the next one apart from it
normal_three : (l : List ℤ) → 3 ≤ length l → normal l ≡ ((le_z (end_at l 0) (end_at l 1) && apart (end_at l 1) (end_at l 2)) && normal (drop 2 l))
unfolding normal
normal_three [] h = absurd (omega arith)
normal_three (a ∷ []) h = absurd (omega arith)
normal_three (a ∷ b ∷ []) h = absurd (omega arith)
normal_three (a ∷ b ∷ c ∷ r) h = regroup (le_z a b) (apart b c) (normal (c ∷ r))

front_two : (l : List ℤ) → 2 ≤ length l → l ≡ end_at l 0 ∷ end_at l 1 ∷ drop 2 l
front_two [] h = absurd (omega arith)
front_two (a ∷ []) h = absurd (omega arith)
front_two (a ∷ b ∷ r) h = refl

none : (l : List ℤ) → length l < 1 → l ≡ []
none [] h = refl
none (a ∷ l) h = absurd (omega arith)

odd : (l : List ℤ) → length l ≡ 1 → normal l ≡ false
unfolding normal
odd [] h = absurd (omega arith)
odd (a ∷ []) h = refl
odd (a ∷ b ∷ l) h = absurd (omega arith)

last : (l : List ℤ) → length l ≡ 2 → normal l ≡ le_z (end_at l 0) (end_at l 1)
unfolding normal
last [] h = absurd (omega arith)
last (a ∷ []) h = absurd (omega arith)
last (a ∷ b ∷ []) h = and_true (le_z a b)
last (a ∷ b ∷ c ∷ l) h = absurd (omega arith)

both : (l : List ℤ) → length l ≡ 2 → InRange (end_at l 0) → InRange (end_at l 1) → All InRange l
both [] h q r = tt
both (a ∷ []) h q r = absurd (omega arith)
both (a ∷ b ∷ []) h q r = (q, (r, tt))
both (a ∷ b ∷ c ∷ l) h q r = absurd (omega arith)

module _ {s ends : List ℤ} (p : Passed s ends) where
  module _ (h : 3 ≤ length ends) where
    pub passed_next
        : (le_z (end_at ends 0) (end_at ends 1) && apart (end_at ends 1) (end_at ends 2)) ≡ true → InRange (end_at ends 0) → InRange (end_at ends 1)
        → Passed s (drop 2 ends)
    passed_next t q r = record {
      done = p.done ++ end_at ends 0 ∷ end_at ends 1 ∷ [];
      whole = p.whole ∙ ap (λ (l : List ℤ). p.done ++ l) (front_two ends (omega arith)) ∙ sym (append_assoc p.done (end_at ends 0 ∷ end_at ends 1 ∷ []) (drop 2 ends));
      ranged = all_joined p.done (end_at ends 0 ∷ end_at ends 1 ∷ []) p.ranged (q, (r, tt));
      same = p.same ∙ normal_three ends h ∙ ap (λ (b : Bool). b && normal (drop 2 ends)) t;
    }

    pub passed_not : (le_z (end_at ends 0) (end_at ends 1) && apart (end_at ends 1) (end_at ends 2)) ≡ false → false ≡ normal s
    passed_not t = sym (p.same ∙ normal_three ends h ∙ ap (λ (b : Bool). b && normal (drop 2 ends)) t)

  normal_whole : normal s ≡ true → All InRange ends → Normal (intervals s)
  normal_whole t q = ends_normal s t (rw p.whole (all_joined p.done ends p.ranged q))

  -- nothing is left
  pub passed_none : length ends < 1 → (true ≡ normal s) × Normal (intervals s)
  unfolding normal
  passed_none h =
      let t = p.same ∙ ap normal (none ends h) in
      (sym t, normal_whole t (rw (none ends h) tt))

  -- the last interval
  pub passed_two : length ends ≡ 2 → le_z (end_at ends 0) (end_at ends 1) ≡ normal s
  passed_two h = sym (p.same ∙ last ends h)

  pub normal_two : length ends ≡ 2 → InRange (end_at ends 0) → InRange (end_at ends 1) → le_z (end_at ends 0) (end_at ends 1) ≡ true → Normal (intervals s)
  normal_two h q r t = normal_whole (sym (passed_two h) ∙ t) (both ends h q r)

  -- half an interval
  pub passed_odd : length ends ≡ 1 → false ≡ normal s
  passed_odd h = sym (p.same ∙ odd ends h)

-- the two tests of a turn, the second made only if the first holds
pub both_made : (a b c : ℤ) {found v : Bool} → le_z a b ≡ true → found ≡ apart b c → v ≡ found → (le_z a b && apart b c) ≡ v
both_made a b c t u w = ap (λ (x : Bool). x && apart b c) t ∙ sym u ∙ sym w

pub one_made : (a b c : ℤ) {v : Bool} → le_z a b ≡ false → v ≡ false → (le_z a b && apart b c) ≡ v
one_made a b c t w = ap (λ (x : Bool). x && apart b c) t ∙ sym w
