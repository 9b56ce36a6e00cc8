-- The ends of a set behind its first start, e₁ s₂ e₂ s₃ .. eₙ: a gap is a pair e s, and closing it takes the pair out. Taking out the gaps that a part must
-- lose first, or those of the whole list, leaves the same (`shrink`). Assumes nothing.
use mathlib.Core.Path.{◌≡◌, refl, sym, ap, ◌∙◌}
use mathlib.Core.Bool.{Bool, true, false, not, ◌&&◌}
use mathlib.Core.Logic.{⊎_elim}
use mathlib.Core.List.{List, [], ◌∷◌, ◌++◌}
use Prim.Native.Nat.{ℕ, zero, suc, ◌+◌, ◌*◌, ◌%◌, ◌≤◌, ◌<◌}
use native.Mathlib.Omega.{arith}
use lib.Dec.{leb}
use lib.ListN.{length}
use lib.IntN.{ℤ}
use borrow.Author.Tests.{leb-true, leb-false, le-leb}
use Rattle.laws.proofs.Integers.{by_test, and_both, and_yes, and_left, and_right, and_cases, not_false, not_true, never}
use Rattle.meaning.specs.Close.{missing}
use Rattle.closing.specs.Gaps.{at_least, thin}

-- n gaps are taken out
unfoldable pub thin_by : ℕ → List ℤ → List ℤ
thin_by zero l = l
thin_by (suc n) l = thin_by n (thin l)

-- ---- how long

pub thin_length : (l : List ℤ) → 2 ≤ length l → length (thin l) + 2 ≡ length l
unfolding thin at_least
thin_length [] h = absurd (omega arith)
thin_length (e ∷ []) h = absurd (omega arith)
thin_length (e ∷ s ∷ r) h = by_test (at_least (missing e s) r) (λ t. rw t (omega arith)) (λ t. rw t (later r t (thin_length r)))
  where
    later : (r : List ℤ) → at_least (missing e s) r ≡ false → (2 ≤ length r → length (thin r) + 2 ≡ length r) → suc (suc (length (thin r))) + 2 ≡ suc (suc (length r))
    later [] t k = never t
    later (x ∷ []) t k = never t
    later (x ∷ y ∷ r) t k = omega (arith, k (omega arith))

thin_few : (l : List ℤ) → length l < 2 → thin l ≡ l
unfolding thin
thin_few [] h = refl
thin_few (e ∷ []) h = refl
thin_few (e ∷ s ∷ r) h = absurd (omega arith)

-- ---- fewer than g

pub at_least_less : {g h : ℕ} (l : List ℤ) → g ≤ h → at_least h l ≡ true → at_least g l ≡ true
unfolding at_least
at_least_less [] k t = refl
at_least_less (e ∷ []) k t = refl
at_least_less {g} {h} (e ∷ s ∷ r) k t =
    let b = and_both (leb h (missing e s)) (at_least h r) t in
    and_yes (le-leb g (missing e s) (omega (arith, leb-true h (missing e s) b.0))) (at_least_less r k b.1)

pub at_least_append : (g : ℕ) (p r : List ℤ) → length p % 2 ≡ 0 → at_least g (p ++ r) ≡ (at_least g p && at_least g r)
unfolding at_least
at_least_append g [] r h = refl
at_least_append g (e ∷ []) r h = absurd (omega arith)
at_least_append g (e ∷ s ∷ p) r h = ap (λ (b : Bool). leb g (missing e s) && b) (at_least_append g p r (omega arith)) ∙ regroup (leb g (missing e s))
  where
    regroup : (a : Bool) → (a && (at_least g p && at_least g r)) ≡ ((a && at_least g p) && at_least g r)
    regroup true = refl
    regroup false = refl

pub at_least_thin : (g : ℕ) (l : List ℤ) → at_least g l ≡ true → at_least g (thin l) ≡ true
unfolding at_least thin
at_least_thin g [] h = refl
at_least_thin g (e ∷ []) h = refl
at_least_thin g (e ∷ s ∷ r) h =
    let b = and_both (leb g (missing e s)) (at_least g r) h in
    by_test (at_least (missing e s) r) (λ t. rw t b.1) (λ t. rw t (and_yes b.0 (at_least_thin g r b.1)))

pub at_least_zero : (l : List ℤ) → at_least 0 l ≡ true
unfolding at_least
at_least_zero [] = refl
at_least_zero (e ∷ []) = refl
at_least_zero (e ∷ s ∷ r) = and_yes (le-leb 0 (missing e s) (omega arith)) (at_least_zero r)

-- ---- each gap of p has more missing numbers than some gap of r

unfoldable pub beaten : List ℤ → List ℤ → Bool
beaten [] r = true
beaten (e ∷ []) r = true
beaten (e ∷ s ∷ p) r = not (at_least (missing e s) r) && beaten p r

-- a gap of p with fewer than g, and none of r: it is not beaten
fewer_stays : (g : ℕ) (p r : List ℤ) → at_least g p ≡ false → at_least g r ≡ true → beaten p r ≡ false
unfolding at_least beaten
fewer_stays g [] r t u = never t
fewer_stays g (e ∷ []) r t u = never t
fewer_stays g (e ∷ s ∷ p) r t u =
    ⊎_elim
    (λ f. and_left (beaten p r) (ap not (at_least_less r (omega (arith, leb-false g (missing e s) f)) u)))
    (λ f. and_right (not (at_least (missing e s) r)) (fewer_stays g p r f u))
    (and_cases (leb g (missing e s)) (at_least g p) t)

-- p has no gap with fewer than g, and one that is not beaten: neither has r
stays_fewer : (g : ℕ) (p r : List ℤ) → at_least g p ≡ true → beaten p r ≡ false → at_least g r ≡ true
unfolding at_least beaten
stays_fewer g [] r t b = never b
stays_fewer g (e ∷ []) r t b = never b
stays_fewer g (e ∷ s ∷ p) r t b =
    let a = and_both (leb g (missing e s)) (at_least g p) t in
    ⊎_elim
    (λ f. at_least_less r (leb-true g (missing e s) a.0) (not_false (at_least (missing e s) r) f))
    (λ f. stays_fewer g p r a.1 f)
    (and_cases (not (at_least (missing e s) r)) (beaten p r) b)

-- the gap that is taken out is one of r
pub thin_back : (p r : List ℤ) → length p % 2 ≡ 0 → beaten p r ≡ true → thin (p ++ r) ≡ p ++ thin r
unfolding thin beaten
thin_back [] r h b = refl
thin_back (e ∷ []) r h b = absurd (omega arith)
thin_back (e ∷ s ∷ p) r h b =
    let a = and_both (not (at_least (missing e s) r)) (beaten p r) b in
    let f = at_least_append (missing e s) p r (omega arith) ∙ and_right (at_least (missing e s) p) (not_true (at_least (missing e s) r) a.0) in
    rw f (ap (λ (l : List ℤ). e ∷ s ∷ l) (thin_back p r (omega arith) a.1))

-- or one of p
pub thin_front : (p r : List ℤ) → length p % 2 ≡ 0 → beaten p r ≡ false → thin (p ++ r) ≡ thin p ++ r
unfolding thin beaten
thin_front [] r h b = never b
thin_front (e ∷ []) r h b = absurd (omega arith)
thin_front (e ∷ s ∷ p) r h b =
    let c = and_cases (not (at_least (missing e s) r)) (beaten p r) b in
    let f = at_least_append (missing e s) p r (omega arith) in
    by_test (at_least (missing e s) p)
    (λ t. let u = ⊎_elim (λ x. not_false (at_least (missing e s) r) x) (λ x. stays_fewer (missing e s) p r t x) c in rw (f, t, u))
    (λ t.
    let u = ⊎_elim (λ x. fewer_stays (missing e s) p r t (not_false (at_least (missing e s) r) x)) (λ x. x) c in
    rw (f, t) (ap (λ (l : List ℤ). e ∷ s ∷ l) (thin_front p r (omega arith) u)))

beaten_thin : (p r : List ℤ) → beaten p r ≡ true → beaten (thin p) r ≡ true
unfolding thin beaten
beaten_thin [] r b = refl
beaten_thin (e ∷ []) r b = refl
beaten_thin (e ∷ s ∷ p) r b =
    let a = and_both (not (at_least (missing e s) r)) (beaten p r) b in
    by_test (at_least (missing e s) p) (λ t. rw t a.1) (λ t. rw t (and_yes a.0 (beaten_thin p r a.1)))

pub thin_even : (p : List ℤ) → length p % 2 ≡ 0 → length (thin p) % 2 ≡ 0
unfolding thin
thin_even [] h = h
thin_even (e ∷ []) h = absurd (omega arith)
thin_even (e ∷ s ∷ p) h = omega (arith, thin_length (e ∷ s ∷ p) (omega arith))

-- a list without gaps beats none
beaten_none : (p r : List ℤ) → length p % 2 ≡ 0 → length r < 2 → beaten p r ≡ true → p ≡ []
unfolding beaten at_least
beaten_none [] r h k b = refl
beaten_none (e ∷ []) r h k b = absurd (omega arith)
beaten_none (e ∷ s ∷ p) [] h k b = never (sym b)
beaten_none (e ∷ s ∷ p) (x ∷ []) h k b = never (sym b)
beaten_none (e ∷ s ∷ p) (x ∷ y ∷ r) h k b = absurd (omega arith)

thin_shorter : (n : ℕ) (r : List ℤ) → length r ≤ 2 * suc n + 1 → length (thin r) ≤ 2 * n + 1
thin_shorter n r k =
    by_test (leb 2 (length r)) (λ t. omega (arith, thin_length r (leb-true 2 (length r) t)))
    (λ t. let f = thin_few r (leb-false 2 (length r) t) in rw f (omega (arith, leb-false 2 (length r) t)))

-- More gaps are to go than stand behind p: so one of p goes, and it may go first
pub shrink : (n : ℕ) (p r : List ℤ) → length p % 2 ≡ 0 → length r ≤ 2 * n + 1 → thin_by (suc n) (p ++ r) ≡ thin_by n (thin p ++ r)
unfolding thin_by
shrink zero p r h k =
    by_test (beaten p r)
    (λ b. let e = beaten_none p r h (omega arith) b in let f = thin_few r (omega arith) in let z = thin_few [] (omega arith) in thin_back p r h b ∙ rw (e, f, z))
    (λ b. thin_front p r h b)
shrink (suc n) p r h k =
    by_test (beaten p r)
    (λ b.
    ap (thin_by (suc n)) (thin_back p r h b)
    ∙ shrink n p (thin r) h (thin_shorter n r k)
    ∙ sym (ap (thin_by n) (thin_back (thin p) r (thin_even p h) (beaten_thin p r b))))
    (λ b. ap (thin_by (suc n)) (thin_front p r h b))
