-- An interval without one number: its parts, each inside it and without that number, and every other member in one of them. Assumes nothing.
use lib.IntN.{ℤ, pos, negsuc, suc_ℤ, pred_ℤ}
use lib.ListN.{length}
use lib.Signed.{lt_z, ◌≤ℤ◌, ◌<ℤ◌, ≤ℤ_refl}
use mathlib.Core.Path.{◌≡◌, refl}
use mathlib.Core.Bool.{Bool, true, false, cond}
use mathlib.Core.Logic.{◌⊎◌, inl, inr}
use mathlib.Core.List.{List, [], ◌++◌}
use Prim.Native.Nat.{◌≤◌}
use native.Mathlib.Omega.{arith}
use Rattle.meaning.specs.Number.{Between, within}
use Rattle.meaning.specs.Interval.{Interval, span, Proper, without}
use Rattle.meaning.specs.NumberIntervals.{◌∈◌, here, there}
use Rattle.laws.proofs.Integers.{zarith, never, by_order, suc_parts, pred_parts, within_case, from_within, below_out, above_out, ≤ℤ_trans}
use Rattle.laws.proofs.Members.{between, Each}

-- ---- by the cases of the definition

module _ (c s e : ℤ) where
  pub without_case {ℓ} : (P : List Interval → Type ℓ)
      → (s <ℤ c → c <ℤ e → P (span s (pred_ℤ c) ++ span (suc_ℤ c) e)) → (s <ℤ c → e ≡ c → P (span s (pred_ℤ c)))
      → (s ≡ c → c <ℤ e → P (span (suc_ℤ c) e)) → (s ≡ c → e ≡ c → P [])
      → (c <ℤ s → P (span s e)) → (e <ℤ c → P (span s e)) → P (without c s e)
  unfolding without
  without_case P both below above none under over =
      within_case (λ t. P (cond t (cond (lt_z s c) (span s (pred_ℤ c)) [] ++ cond (lt_z c e) (span (suc_ℤ c) e) []) (span s e))) s c e
      (λ h k. go h k (lt_z s c) (lt_z c e) refl refl) under over
    where
      go : s ≤ℤ c → c ≤ℤ e → (t u : Bool) → lt_z s c ≡ t → lt_z c e ≡ u → P (cond t (span s (pred_ℤ c)) [] ++ cond u (span (suc_ℤ c) e) [])
      go h k true true p q = both (omega zarith) (omega zarith)
      go h k true false p q = below (omega zarith) (omega zarith)
      go h k false true p q = above (omega zarith) (omega zarith)
      go h k false false p q = none (omega zarith) (omega zarith)

  pub without_none : within s c e ≡ false → without c s e ≡ span s e
  unfolding without
  without_none n = rw n

-- ---- one part

pub record Part (c s e a b : ℤ) : Type 0 where
  pub ordered : a ≤ℤ b
  pub from : s ≤ℤ a
  pub to : b ≤ℤ e
  pub gone : within a c b ≡ false

pub part_proper : {c s e a b : ℤ} → Proper s e → Part c s e a b → Proper a b
part_proper o p = record { low = ≤ℤ_trans o.low p.from; ordered = p.ordered; high = ≤ℤ_trans p.to o.high }

module _ {c s e : ℤ} where
  pub low_part : s <ℤ c → c ≤ℤ e → Part c s e s (pred_ℤ c)
  low_part h k = let o = pred_parts c in record { ordered = omega zarith; from = ≤ℤ_refl s; to = omega zarith; gone = above_out s (omega zarith) }

  pub high_part : s ≤ℤ c → c <ℤ e → Part c s e (suc_ℤ c) e
  high_part h k = let o = suc_parts c in record { ordered = omega zarith; from = omega zarith; to = ≤ℤ_refl e; gone = below_out e (omega zarith) }

pub parts : (c : ℤ) {s e : ℤ} → s ≤ℤ e → Each (Part c s e) (without c s e)
parts c {s} {e} o =
    without_case c s e (Each (Part c s e))
    (λ h k. (low_part h (omega zarith), (high_part (omega zarith) k, tt)))
    (λ h k. (low_part h (omega zarith), tt))
    (λ h k. (high_part (omega zarith) k, tt))
    (λ h k. tt)
    (λ h. (record { ordered = o; from = ≤ℤ_refl s; to = ≤ℤ_refl e; gone = below_out e h }, tt))
    (λ h. (record { ordered = o; from = ≤ℤ_refl s; to = ≤ℤ_refl e; gone = above_out s h }, tt))

-- ---- a member that is not c is in one of the parts

module _ {c s e x : ℤ} (n : x ≡ c → ⊥) (b : Between s x e) where
  below_or_above {ℓ} : {P : Type ℓ} → (x <ℤ c → P) → (c <ℤ x → P) → P
  below_or_above f g = by_order x c f (λ h. by_order c x g (λ k. absurd (n (omega zarith))))

  pub in_without : x ∈ without c s e
  in_without =
      let p = pred_parts c in
      let q = suc_parts c in
      without_case c s e (λ l. x ∈ l)
      (λ i j. below_or_above (λ l. here (between b.above (omega zarith))) (λ l. there (here (between (omega zarith) b.below))))
      (λ i j. below_or_above (λ l. here (between b.above (omega zarith))) (λ l. absurd (omega (zarith, b.below))))
      (λ i j. below_or_above (λ l. absurd (omega (zarith, b.above))) (λ l. here (between (omega zarith) b.below)))
      (λ i j. absurd (n (omega (zarith, b.above, b.below))))
      (λ i. here b)
      (λ i. here b)

-- ---- how many parts

pub two_parts : (c s e : ℤ) → length (without c s e) ≤ 2
two_parts c s e = without_case c s e (λ l. length l ≤ 2) (λ _ _. omega arith) (λ _ _. omega arith) (λ _ _. omega arith) (λ _ _. omega arith) (λ _. omega arith) (λ _. omega arith)

-- one where nothing is below c, or nothing above it
pub one_above : {c s : ℤ} (e : ℤ) → c ≤ℤ s → length (without c s e) ≤ 1
one_above {c} {s} e h = without_case c s e (λ l. length l ≤ 1) (λ i j. absurd (omega zarith)) (λ _ _. omega arith) (λ _ _. omega arith) (λ _ _. omega arith) (λ _. omega arith) (λ _. omega arith)

pub one_below : {c e : ℤ} (s : ℤ) → e ≤ℤ c → length (without c s e) ≤ 1
one_below {c} {e} s h = without_case c s e (λ l. length l ≤ 1) (λ i j. absurd (omega zarith)) (λ _ _. omega arith) (λ _ _. omega arith) (λ _ _. omega arith) (λ _. omega arith) (λ _. omega arith)

-- ---- an interval without 0

-- all of [t,f] is above 0, or all below
abbrev pub OneSign : ℤ → ℤ → Type 0
OneSign t f = (pos 1 ≤ℤ t) ⊎ (f ≤ℤ negsuc 0)

pub one_sign : {t f : ℤ} → within t (pos 0) f ≡ false → OneSign t f
one_sign {t} {f} n = within_case (λ b. b ≡ false → OneSign t f) t (pos 0) f (λ _ _ e. never e) (λ l _. inl (omega zarith)) (λ l _. inr (omega zarith)) n

pub part_sign : {c t f a b : ℤ} → OneSign t f → Part c t f a b → OneSign a b
part_sign (inl h) p = inl (≤ℤ_trans h p.from)
part_sign (inr h) p = inr (≤ℤ_trans p.to h)

-- −1 in it is its end
pub ends_at_minus_one : {t f : ℤ} → OneSign t f → within t (negsuc 0) f ≡ true → f ≡ negsuc 0
ends_at_minus_one {t} {f} (inl h) m = absurd (≤ℤ_trans h (from_within t (negsuc 0) f m).above).le
ends_at_minus_one {t} {f} (inr h) m = omega (zarith, (from_within t (negsuc 0) f m).below)
