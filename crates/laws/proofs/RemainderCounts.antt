-- rem of a pair gives at most 16 intervals. Rule by rule from the last one, since a rule leaves only later ones to its self-calls: (f) gives p intervals, where p is 1 unless the
-- divisor is a single number other than 1 and −1. Assumes nothing.
use lib.IntN.{ℤ, pos, negsuc, suc_ℤ, ◌-ℤ◌}
use lib.ListN.{length, length-append}
use lib.Signed.{lt_z, ◌≤ℤ◌, ◌<ℤ◌}
use mathlib.Core.Path.{◌≡◌, refl, sym, ap, ◌∙◌, subst}
use mathlib.Core.Bool.{Bool, true, false, cond, ◌&&◌}
use mathlib.Core.List.{List, [], ◌++◌}
use Prim.Native.Nat.{ℕ, zero, suc, ◌+◌, ◌*◌, ◌≤◌}
use native.Mathlib.Nat.{mul-le-mul_right}
use native.Mathlib.Omega.{arith}
use Rattle.meaning.specs.Number.{MIN, within}
use Rattle.meaning.specs.Interval.{Interval, span, only, Proper, each, without, cut_left, cut_right, greatest_magnitude, against, rem_with, rem_pair}
use Rattle.laws.proofs.Integers.{zarith, clash, by_test, cond_case, and_both, and_left, and_right, within_case, is_within, below_out, above_out, from_within, one_part, abs_parts, suc_parts, ≤ℤ_trans}
use Rattle.laws.proofs.Members.{Each, all_both, all_any, length_each}
use Rattle.laws.proofs.Parts.{Part, parts, part_proper, low_part, high_part, without_case, without_none, one_above, one_below, one_sign, ends_at_minus_one}
use Rattle.laws.proofs.RemainderRules.{step_a, step_b, step_c, step_d, step_e, step_f, bit, bit_le, part_bit, Fewer, fewer_two, fewer_one}

-- a number that is not in an interval is not in its parts
kept : {c s e a b : ℤ} (k : ℤ) → Part c s e a b → within s k e ≡ false → within a k b ≡ false
kept {c} {s} {e} {a} {b} k p n =
    within_case (λ t. t ≡ false) a k b (λ i j. clash (is_within {s = s} {z = k} {e = e} (≤ℤ_trans p.from i) (≤ℤ_trans j p.to)) n) (λ _. refl) (λ _. refl)

-- the second of two tests that are not both true
second : {t u : Bool} → (t && u) ≡ false → t ≡ true → u ≡ false
second {t} {u} b i = sym (ap (λ (z : Bool). z && u) i) ∙ b

against_one : (s e : ℤ) → length (against s e) ≡ 1
unfolding against
against_one s e =
    cond_case (λ l. length l ≡ 1) (within s MIN e) (cond (lt_z MIN e) (span MIN (pos 0)) (only (pos 0))) (span s e)
    (λ _. cond_case (λ l. length l ≡ 1) (lt_z MIN e) (span MIN (pos 0)) (only (pos 0)) (λ _. refl) (λ _. refl))
    (λ _. refl)

-- ---- the results on few parts

-- at most one part, of at most m intervals
one_each : (P : ℤ → ℤ → Type 0) (m : ℕ) (g : ℤ → ℤ → List Interval) (l : List Interval) → length l ≤ 1 → Each P l → ((a b : ℤ) → P a b → length (g a b) ≤ m) → length (each g l) ≤ m
one_each P m g l h k w = omega (arith, length_each P m g l k w, mul-le-mul_right m h)

each_none : (g : ℤ → ℤ → List Interval) → length (each g []) ≡ 0
unfolding each
each_none g = refl

each_one : (g : ℤ → ℤ → List Interval) (a b : ℤ) → length (each g (span a b)) ≡ length (g a b)
unfolding each
each_one g a b = omega (arith, length-append (g a b) [])

each_two : (g : ℤ → ℤ → List Interval) (a b c d : ℤ) → length (each g (span a b ++ span c d)) ≡ length (g a b) + length (g c d)
unfolding each
each_two g a b c d = omega (arith, length-append (g a b) (g c d ++ []), length-append (g c d) [])

-- ---- the rules, from the last one

-- (f)
at_f : (p n : ℕ) (s e : ℤ) {t f : ℤ} → within t (pos 0) f ≡ false → within s (pos 0) e ≡ false → Fewer p t f → within t MIN f ≡ false → within s MIN e ≡ false
    → length (rem_with n s e t f) ≤ p
unfolding rem_with
at_f p zero s e a c w d k = omega arith
at_f p (suc n) s e {t} {f} a c w d k = subst (λ (l : List Interval). length l ≤ p) (sym (step_f (rem_with n) s e t f a c d k)) (w.at s e)

-- (e): one more where MIN is in L
at_e : (p n : ℕ) {s e t f : ℤ} → Proper s e → within t (pos 0) f ≡ false → (within s MIN e && within t (negsuc 0) f) ≡ false → within s (pos 0) e ≡ false → Fewer p t f
    → within t MIN f ≡ false → length (rem_with n s e t f) ≤ p + bit (within s MIN e)
unfolding rem_with
at_e p zero o a b c w d = omega arith
at_e p (suc n) {s} {e} {t} {f} o a b c w d =
    by_test (within s MIN e)
    (λ k. subst (λ (l : List Interval). length l ≤ p + bit (within s MIN e)) (sym (step_e (rem_with n) s e t f a b c d k))
    (omega (
      arith,
      ap bit k,
      length-append (cut_left (rem_with n) MIN s e t f) (span (pos 1 -ℤ pos (greatest_magnitude t f)) (pos 0)),
      one_each (Part MIN s e) p (λ u v. rem_with n u v t f) (without MIN s e) (one_above e o.low) (parts MIN o.ordered) (λ u v x. at_f p n u v a (kept (pos 0) x c) w d x.gone),
    )))
    (λ k. omega (arith, ap bit k, at_f p (suc n) s e a c w d k))

-- R without MIN has (f) give at most p
Few : ℕ → ℤ → ℤ → Type 0
Few p t f = Each (Fewer p) (without MIN t f)

-- (d): one more where MIN is in R
at_d : (p n : ℕ) {s e t f : ℤ} → Proper s e → Proper t f → within t (pos 0) f ≡ false → (within s MIN e && within t (negsuc 0) f) ≡ false → within s (pos 0) e ≡ false → Few p t f
    → length (rem_with n s e t f) ≤ p + bit (within t MIN f) + bit (within s MIN e)
unfolding rem_with Few
at_d p zero o q a b c w = omega arith
at_d p (suc n) {s} {e} {t} {f} o q a b c w =
    by_test (within t MIN f)
    (λ d. subst (λ (l : List Interval). length l ≤ p + bit (within t MIN f) + bit (within s MIN e)) (sym (step_d (rem_with n) s e t f a b c d))
    (omega (
      arith,
      ap bit d,
      against_one s e,
      length-append (cut_right (rem_with n) MIN s e t f) (against s e),
      one_each (λ u v. Fewer p u v × Part MIN t f u v) (p + bit (within s MIN e)) (rem_with n s e) (without MIN t f) (one_above f q.low)
          (all_both (Fewer p) (Part MIN t f) (without MIN t f) w (parts MIN q.ordered))
          (λ u v x. at_e p n o (kept (pos 0) x.1 a) (inner u v x.1) c x.0 x.1.gone),
    )))
    (λ d. omega (arith, ap bit d, at_e p (suc n) o a b c (subst (Each (Fewer p)) (without_none MIN t f d) w).0 d))
  where
    inner : (u v : ℤ) → Part MIN t f u v → (within s MIN e && within u (negsuc 0) v) ≡ false
    inner u v x = by_test (within s MIN e) (λ i. and_right (within s MIN e) (kept (negsuc 0) x (second b i))) (λ i. and_left (within u (negsuc 0) v) i)

-- (c): both halves of L, and {0}
at_c : (p n : ℕ) {s e t f : ℤ} → Proper s e → Proper t f → within t (pos 0) f ≡ false → (within s MIN e && within t (negsuc 0) f) ≡ false → Few p t f
    → length (rem_with n s e t f) ≤ 2 * (p + bit (within t MIN f)) + bit (within s MIN e) + 1
unfolding rem_with
at_c p zero o q a b w = omega arith
at_c p (suc n) {s} {e} {t} {f} o q a b w =
    by_test (within s (pos 0) e)
    (λ c. subst (λ (l : List Interval). length l ≤ 2 * (p + bit (within t MIN f)) + bit (within s MIN e) + 1) (sym (step_c (rem_with n) s e t f a b c))
    (omega (arith, halves c, length-append (cut_left (rem_with n) (pos 0) s e t f) (only (pos 0)))))
    (λ c. omega (arith, at_d p (suc n) o q a b c w))
  where
    half : (u v : ℤ) → Part (pos 0) s e u v → length (rem_with n u v t f) ≤ p + bit (within t MIN f) + bit (within u MIN v)
    half u v x =
        at_d p n (part_proper o x) q a
        (by_test (within s MIN e) (λ i. and_right (within u MIN v) (second b i)) (λ i. and_left (within t (negsuc 0) f) (kept MIN x i))) x.gone w

    lower : s <ℤ pos 0 → pos 0 ≤ℤ e → length (rem_with n s (negsuc 0) t f) ≤ p + bit (within t MIN f) + bit (within s MIN e)
    lower h k = let x : Part (pos 0) s e s (negsuc 0) = low_part h k in omega (arith, half s (negsuc 0) x, part_bit x MIN)

    higher : s ≤ℤ pos 0 → pos 0 <ℤ e → length (rem_with n (pos 1) e t f) ≤ p + bit (within t MIN f)
    higher h k =
        let x : Part (pos 0) s e (pos 1) e = high_part h k in
        omega (arith, half (pos 1) e x, ap bit (below_out {s = pos 1} {z = MIN} e (record { lt = tt })))

    halves : within s (pos 0) e ≡ true → length (each (λ u v. rem_with n u v t f) (without (pos 0) s e)) ≤ 2 * (p + bit (within t MIN f)) + bit (within s MIN e)
    halves c =
        without_case (pos 0) s e (λ l. length (each (λ u v. rem_with n u v t f) l) ≤ 2 * (p + bit (within t MIN f)) + bit (within s MIN e))
        (λ h k. omega (arith, each_two (λ u v. rem_with n u v t f) s (negsuc 0) (pos 1) e, lower h (omega zarith), higher (omega zarith) k))
        (λ h k. omega (arith, each_one (λ u v. rem_with n u v t f) s (negsuc 0), lower h (omega zarith)))
        (λ h k. omega (arith, each_one (λ u v. rem_with n u v t f) (pos 1) e, higher (omega zarith) k))
        (λ h k. omega (arith, each_none (λ u v. rem_with n u v t f)))
        (λ h. clash c (below_out e h))
        (λ h. clash c (above_out s h))

-- (b)
at_b : (p r n : ℕ) {s e t f : ℤ} → Proper s e → Proper t f → within t (pos 0) f ≡ false → (within s MIN e && within t (negsuc 0) f) ≡ true → Few p t f → Each (Few r) (without (negsuc 0) t f)
    → length (rem_with n s e t f) ≤ 2 * p + 2 * r + 4 * bit (within t MIN f) + 4
unfolding rem_with
at_b p r zero o q a b w x = omega arith
at_b p r (suc n) {s} {e} {t} {f} o q a b w x =
    let m = and_both (within s MIN e) (within t (negsuc 0) f) b in
    let l = ends_at_minus_one (one_sign a) m.1 in
    subst (λ (l : List Interval). length l ≤ 2 * p + 2 * r + 4 * bit (within t MIN f) + 4) (sym (step_b (rem_with n) s e t f a b))
    (omega (
      arith,
      length-append (cut_left (rem_with n) MIN s e t f) (cut_right (rem_with n) (negsuc 0) s e t f ++ only (pos 0)),
      length-append (cut_right (rem_with n) (negsuc 0) s e t f) (only (pos 0)),
      one_each (Part MIN s e) (2 * (p + bit (within t MIN f)) + 1) (λ u v. rem_with n u v t f) (without MIN s e) (one_above e o.low) (parts MIN o.ordered)
          (λ u v y. omega (arith, ap bit y.gone, at_c p n (part_proper o y) q a (and_left (within t (negsuc 0) f) y.gone) w)),
      one_each (λ u v. Few r u v × Part (negsuc 0) t f u v) (2 * (r + bit (within t MIN f)) + 2) (rem_with n s e) (without (negsuc 0) t f) (one_below t (omega (zarith, l)))
          (all_both (Few r) (Part (negsuc 0) t f) (without (negsuc 0) t f) x (parts (negsuc 0) q.ordered))
          (λ u v y. omega (arith, part_bit y.1 MIN, ap bit m.0, at_c r n o (part_proper q y.1) (kept (pos 0) y.1 a) (and_right (within s MIN e) y.1.gone) y.0)),
    ))

-- ---- where (f) gives one interval

module _ {t f : ℤ} (q : Proper t f) (a : within t (pos 0) f ≡ false) (m : within t (negsuc 0) f ≡ true) where
  last_is : f ≡ negsuc 0
  last_is = ends_at_minus_one (one_sign a) m

  to_minus_one : {s : ℤ} → s ≤ℤ f → Fewer 1 s f
  to_minus_one {s} h = fewer_one (λ _. omega (zarith, last_is, abs_parts s, abs_parts f, one_part s, one_part f))

  few : Few 1 t f
  unfolding Few
  few =
      without_case MIN t f (Each (Fewer 1))
      (λ h k. absurd (omega (zarith, h, q.low)))
      (λ h k. absurd (omega (zarith, h, q.low)))
      (λ h k. (to_minus_one (omega (zarith, suc_parts MIN)), tt))
      (λ h k. tt)
      (λ h. (to_minus_one q.ordered, tt))
      (λ h. absurd (omega (zarith, h, q.low, q.ordered)))

  few_within : within t MIN f ≡ true → Each (Few 1) (without (negsuc 0) t f)
  unfolding Few
  few_within d =
      without_case (negsuc 0) t f (Each (Few 1))
      (λ h k. absurd (omega (zarith, k, last_is)))
      (λ h k. (inner, tt))
      (λ h k. absurd (omega (zarith, k, last_is)))
      (λ h k. tt)
      (λ h. clash m (below_out f h))
      (λ h. clash m (above_out t h))
    where
      from : t ≤ℤ MIN
      from = (from_within t MIN f d).above

      wide : Fewer 1 (suc_ℤ MIN) (negsuc 1)
      wide = fewer_one (λ e. absurd (omega arith))

      inner : Each (Fewer 1) (without MIN t (negsuc 1))
      inner =
          without_case MIN t (negsuc 1) (Each (Fewer 1))
          (λ h k. absurd (omega (zarith, h, q.low)))
          (λ h k. absurd (omega (zarith, h, q.low)))
          (λ h k. (wide, tt))
          (λ h k. tt)
          (λ h. absurd (omega (zarith, h, from)))
          (λ h. absurd h.lt)

few_above : {f : ℤ} → pos 1 ≤ℤ f → Few 1 (pos 1) f
unfolding Few
few_above {f} h = subst (Each (Fewer 1)) (sym (without_none MIN (pos 1) f (below_out {s = pos 1} {z = MIN} f (record { lt = tt })))) (fewer_one (λ _. omega (zarith, abs_parts f, one_part f)), tt)

few_any : (t f : ℤ) → Few 2 t f
unfolding Few
few_any t f = all_any (Fewer 2) (without MIN t f) fewer_two

-- ---- all rules

-- (b) to (f)
no_zero : (n : ℕ) {s e t f : ℤ} → Proper s e → Proper t f → within t (pos 0) f ≡ false → length (rem_with n s e t f) ≤ 12
no_zero n {s} {e} {t} {f} o q a =
    by_test (within s MIN e && within t (negsuc 0) f)
    (λ b. let m = (and_both (within s MIN e) (within t (negsuc 0) f) b).1 in
    by_test (within t MIN f)
    (λ d. omega (arith, ap bit d, at_b 1 1 n o q a b (few q a m) (few_within q a m d)))
    (λ d. omega (arith, ap bit d, at_b 1 2 n o q a b (few q a m) (all_any (Few 2) (without (negsuc 0) t f) few_any))))
    (λ b. omega (arith, bit_le (within t MIN f), bit_le (within s MIN e), at_c 2 n o q a b (few_any t f)))

-- R above 0
all_above : (n : ℕ) {s e f : ℤ} → Proper s e → Proper (pos 1) f → length (rem_with n s e (pos 1) f) ≤ 4
all_above n {s} {e} {f} o q =
    omega (
      arith,
      bit_le (within s MIN e),
      ap bit (below_out {s = pos 1} {z = MIN} f (record { lt = tt })),
      at_c 1 n o q (below_out f (record { lt = tt })) (and_right (within s MIN e) (below_out f (record { lt = tt }))) (few_above q.ordered),
    )

-- (a): both halves of R
at_a : (n : ℕ) {s e t f : ℤ} → Proper s e → Proper t f → length (rem_with n s e t f) ≤ 16
unfolding rem_with
at_a zero o q = omega arith
at_a (suc n) {s} {e} {t} {f} o q =
    by_test (within t (pos 0) f)
    (λ a. subst (λ (l : List Interval). length l ≤ 16) (sym (step_a (rem_with n) s e t f a)) (halves a))
    (λ a. omega (arith, no_zero (suc n) o q a))
  where
    lower : t <ℤ pos 0 → pos 0 ≤ℤ f → length (rem_with n s e t (negsuc 0)) ≤ 12
    lower h k = let x : Part (pos 0) t f t (negsuc 0) = low_part h k in no_zero n o (part_proper q x) x.gone

    higher : t ≤ℤ pos 0 → pos 0 <ℤ f → length (rem_with n s e (pos 1) f) ≤ 4
    higher h k = let x : Part (pos 0) t f (pos 1) f = high_part h k in all_above n o (part_proper q x)

    halves : within t (pos 0) f ≡ true → length (each (rem_with n s e) (without (pos 0) t f)) ≤ 16
    halves c =
        without_case (pos 0) t f (λ l. length (each (rem_with n s e) l) ≤ 16)
        (λ h k. omega (arith, each_two (rem_with n s e) t (negsuc 0) (pos 1) f, lower h (omega zarith), higher (omega zarith) k))
        (λ h k. omega (arith, each_one (rem_with n s e) t (negsuc 0), lower h (omega zarith)))
        (λ h k. omega (arith, each_one (rem_with n s e) (pos 1) f, higher (omega zarith) k))
        (λ h k. omega (arith, each_none (rem_with n s e)))
        (λ h. clash c (below_out f h))
        (λ h. clash c (above_out t h))

pub rem_few : {s e t f : ℤ} → Proper s e → Proper t f → length (rem_pair s e t f) ≤ 16
unfolding rem_pair
rem_few o q = at_a 6 o q
