-- The search for the least gap: one more gap is the least, or the old one stays. Assumes nothing.
use mathlib.Core.Path.{◌≡◌, refl, sym, ap, ◌∙◌}
use mathlib.Core.Bool.{Bool, true, false, not, ◌&&◌}
use mathlib.Core.List.{List, [], ◌∷◌, ◌++◌, append_assoc, append-nil}
use Prim.Native.Nat.{ℕ, suc, ◌+◌, ◌%◌, ◌≤◌}
use native.Mathlib.Omega.{arith}
use lib.Dec.{leb}
use lib.ListN.{length, take, drop, length-append}
use lib.Seq.{take-append-le, drop-append-le, take-append_seam, drop-append-add}
use lib.IntN.{ℤ}
use borrow.Author.Tests.{leb-true, leb-false, le-leb, lt-leb}
use Rattle.laws.proofs.Integers.{by_test, and_both, and_yes, and_left, and_right, clash}
use Rattle.meaning.specs.Close.{missing}
use Rattle.closing.specs.Gaps.{at_least, thin, Lowest}
use Rattle.closing.proofs.Thin.{beaten, at_least_less, at_least_append, thin_back, thin_front}

-- one gap beats those with more missing numbers
pub beaten_one : (p : List ℤ) (e s : ℤ) → beaten p (e ∷ s ∷ []) ≡ at_least (suc (missing e s)) p
unfolding beaten at_least
beaten_one [] e s = refl
beaten_one (x ∷ []) e s = refl
beaten_one (x ∷ y ∷ p) e s =
    by_test (leb (missing x y) (missing e s))
    (λ t. let u = lt-leb (suc (missing e s)) (missing x y) (omega (arith, leb-true (missing x y) (missing e s) t)) in rw (t, u))
    (λ t. let u = le-leb (suc (missing e s)) (missing x y) (omega (arith, leb-false (missing x y) (missing e s) t)) in rw (t, u) (beaten_one p e s))

-- so do it and those behind it
beaten_more : (p : List ℤ) (e s : ℤ) (r : List ℤ) → beaten p (e ∷ s ∷ []) ≡ true → beaten p (e ∷ s ∷ r) ≡ true
unfolding beaten at_least
beaten_more [] e s r b = refl
beaten_more (x ∷ []) e s r b = refl
beaten_more (x ∷ y ∷ p) e s r b =
    let a = and_both (not (leb (missing x y) (missing e s) && true)) (beaten p (e ∷ s ∷ [])) b in
    by_test (leb (missing x y) (missing e s)) (λ t. clash a.0 (ap (λ (z : Bool). not (z && true)) t)) (λ t. rw t (beaten_more p e s r a.1))

pub at_least_one : (g : ℕ) (e s : ℤ) → g ≤ missing e s → at_least g (e ∷ s ∷ []) ≡ true
unfolding at_least
at_least_one g e s h = let t = le-leb g (missing e s) h in rw t

-- no gaps: none has fewer
pub none_fewer : (g : ℕ) (p : List ℤ) → p ≡ [] → at_least g p ≡ true
unfolding at_least
none_fewer g p h = rw h refl

module _ (p : List ℤ) (e s : ℤ) (even : length p % 2 ≡ 0) where
  abbrev g : ℕ
  g = missing e s

  longer : length (p ++ e ∷ s ∷ []) ≡ length p + 2
  longer = length-append p (e ∷ s ∷ [])

  -- each of the others has more
  module _ (u : at_least (suc g) p ≡ true) where
    pub least_beats : beaten p (e ∷ s ∷ []) ≡ true
    least_beats = beaten_one p e s ∙ u

    pub thin_new : thin (p ++ e ∷ s ∷ []) ≡ p
    unfolding thin at_least
    thin_new = thin_back p (e ∷ s ∷ []) even least_beats ∙ append-nil p

    -- before gaps that have no fewer missing numbers
    module _ (r : List ℤ) (f : at_least g r ≡ true) where
      cut_thin : thin (e ∷ s ∷ r) ≡ r
      unfolding thin
      cut_thin = rw f

      cut_closes : thin (p ++ e ∷ s ∷ r) ≡ p ++ r
      cut_closes = thin_back p (e ∷ s ∷ r) even (beaten_more p e s r least_beats) ∙ ap (λ (x : List ℤ). p ++ x) cut_thin

      cut_under : at_least g (e ∷ s ∷ r) ≡ true
      unfolding at_least
      cut_under = and_yes (le-leb g g (omega arith)) f

      cut_has : at_least (suc g) (e ∷ s ∷ r) ≡ false
      unfolding at_least
      cut_has = and_left (at_least (suc g) r) (lt-leb (suc g) g (omega arith))

      pub least_cut : Lowest (p ++ e ∷ s ∷ r) (length p) g
      least_cut =
          record {
            under = at_least_append g p (e ∷ s ∷ r) even ∙ and_yes (at_least_less p (omega arith) u) cut_under;
            place = omega (arith, length-append p (e ∷ s ∷ r));
            has = at_least_append (suc g) p (e ∷ s ∷ r) even ∙ and_right (at_least (suc g) p) cut_has;
            closes = cut_closes ∙ λ i. sym (take-append_seam p (e ∷ s ∷ r)) i ++ sym (drop-append-add p (e ∷ s ∷ r) 2) i;
          }

    pub least_new : Lowest (p ++ e ∷ s ∷ []) (length p) g
    unfolding at_least
    least_new = least_cut [] refl

  -- an earlier one has no more
  module _ {at least : ℕ} (l : Lowest p at least) (h : least ≤ g) where
    pub thin_old : thin (p ++ e ∷ s ∷ []) ≡ (take at p ++ drop (at + 2) p) ++ e ∷ s ∷ []
    thin_old =
        thin_front p (e ∷ s ∷ []) even
        (beaten_one p e s ∙ by_test (at_least (suc g) p) (λ t. clash (at_least_less p (omega arith) t) l.has) (λ t. t))
        ∙ ap (λ (x : List ℤ). x ++ e ∷ s ∷ []) l.closes

    pub least_old : Lowest (p ++ e ∷ s ∷ []) at least
    least_old =
        record {
          under = at_least_append least p (e ∷ s ∷ []) even ∙ and_yes l.under (at_least_one least e s h);
          place = omega (arith, longer, l.place);
          has = at_least_append (suc least) p (e ∷ s ∷ []) even ∙ and_left (at_least (suc least) (e ∷ s ∷ [])) l.has;
          closes =
              thin_old
              ∙ append_assoc (take at p) (drop (at + 2) p) (e ∷ s ∷ [])
              ∙ λ i. sym (take-append-le at p (e ∷ s ∷ []) (omega (arith, l.place))) i ++ sym (drop-append-le (at + 2) p (e ∷ s ∷ []) l.place) i;
        }
