-- Closing on sets and on their ends: the first start stays, and what is behind it is thinned. Assumes nothing.
use mathlib.Core.Path.{◌≡◌, refl, ap, ◌∙◌}
use mathlib.Core.Bool.{Bool, ◌&&◌}
use mathlib.Core.List.{List, [], ◌∷◌}
use Prim.Native.Nat.{ℕ, zero, suc}
use lib.Dec.{leb}
use lib.IntN.{ℤ}
use Rattle.laws.proofs.Integers.{by_test}
use Rattle.meaning.specs.Interval.{Interval}
use Rattle.meaning.specs.NumberIntervals.{Set, flat}
use Rattle.meaning.specs.Close.{missing, none_fewer, close_one, close_gaps}
use Rattle.closing.specs.Gaps.{at_least, thin}
use Rattle.closing.proofs.Thin.{thin_by}

-- f on what is behind the first number
unfoldable pub behind : (List ℤ → List ℤ) → List ℤ → List ℤ
behind f [] = []
behind f (a ∷ l) = a ∷ f l

at_least_flat : (g : ℕ) (i : Interval) (s : Set) → at_least g (i.hi ∷ flat s) ≡ none_fewer g (i ∷ s)
unfolding at_least none_fewer flat
at_least_flat g i [] = refl
at_least_flat g i (j ∷ s) = ap (λ (b : Bool). leb g (missing i.hi j.lo) && b) (at_least_flat g j s)

thin_flat : (i : Interval) (s : Set) → flat (close_one (i ∷ s)) ≡ i.lo ∷ thin (i.hi ∷ flat s)
unfolding flat close_one thin
thin_flat i [] = refl
thin_flat i (j ∷ s) =
    let f = at_least_flat (missing i.hi j.lo) j s in
    by_test (none_fewer (missing i.hi j.lo) (j ∷ s)) (λ t. rw (f, t))
    (λ t. rw (f, t) (ap (λ (l : List ℤ). i.lo ∷ i.hi ∷ l) (thin_flat j s)))

behind_thin : (s : Set) → flat (close_one s) ≡ behind thin (flat s)
unfolding flat close_one behind
behind_thin [] = refl
behind_thin (i ∷ s) = thin_flat i s

behind_twice : (f g : List ℤ → List ℤ) (l : List ℤ) → behind f (behind g l) ≡ behind (λ m. f (g m)) l
unfolding behind
behind_twice f g [] = refl
behind_twice f g (a ∷ l) = refl

behind_same : (l : List ℤ) → l ≡ behind (λ m. m) l
unfolding behind
behind_same [] = refl
behind_same (a ∷ l) = refl

pub flat_gaps : (n : ℕ) (s : Set) → flat (close_gaps n s) ≡ behind (thin_by n) (flat s)
unfolding close_gaps thin_by
flat_gaps zero s = behind_same (flat s)
flat_gaps (suc n) s = flat_gaps n (close_one s) ∙ ap (behind (thin_by n)) (behind_thin s) ∙ behind_twice (thin_by n) thin (flat s)
