-- The ends of a set behind its first start, e₁ s₂ e₂ s₃ .. eₙ: a gap is a pair e s, and closing it takes the pair out. What the code of the closing does with them. Assumes nothing.
use Rattle.std.specs.Prelude.{leb, ℤ, length, take, drop, ◌<ℤ◌, ◌≡◌, Bool, true, false, cond, ◌&&◌, List, [], ◌∷◌, ◌++◌, ℕ, suc, ◌+◌, ◌-◌, ◌%◌, ◌≤◌}
use Rattle.std.proofs.Math.IntN.{suc_ℤ}
use Rattle.meaning.specs.NumberIntervals.{Normal, flat, intervals}
use Rattle.meaning.specs.Close.{missing, close}

-- each gap has at least g missing numbers
unfoldable pub at_least : ℕ → List ℤ → Bool
at_least g [] = true
at_least g (e ∷ []) = true
at_least g (e ∷ s ∷ r) = leb g (missing e s) && at_least g r

-- without its gap with the fewest missing numbers, the lowest of equals
unfoldable pub thin : List ℤ → List ℤ
thin [] = []
thin (e ∷ []) = e ∷ []
thin (e ∷ s ∷ r) = cond (at_least (missing e s) r) r (e ∷ s ∷ thin r)

-- at least one number is missing in each
abbrev pub Open : List ℤ → Type 0
Open [] = Unit {0}
Open (e ∷ []) = Unit {0}
Open (e ∷ s ∷ r) = (suc_ℤ e <ℤ s) × Open r

-- the gaps of the first m numbers of a slice
abbrev pub gaps_of : ℕ → List ℤ → List ℤ
gaps_of m l = take (m - 2) (drop 1 l)

-- the lowest gap with the fewest missing numbers, `least` of them, stands after `at` numbers
pub record Lowest (p : List ℤ) (at least : ℕ) : Type 0 where
  pub under : at_least least p ≡ true
  pub place : at + 2 ≤ length p
  pub has : at_least (suc least) p ≡ false
  pub closes : thin p ≡ take at p ++ drop (at + 2) p

-- the gap after `at` numbers behind the first start taken out, and the interval [s,e] put behind the rest
abbrev pub pushed : ℕ → ℤ → ℤ → List ℤ → List ℤ
pushed at s e l = take (at + 1) l ++ (drop (at + 3) l ++ s ∷ e ∷ [])

-- l is the ends of a normal set
pub record Ends (l : List ℤ) : Type 0 where
  pub even : length l % 2 ≡ 0
  pub normal : Normal (intervals l)

-- the first r numbers are the set closed to the limit; what stands behind them is left open
pub record Closed (limit : ℕ) (old new : List ℤ) (r : ℕ) : Type 0 where
  pub count : r ≡ length (flat (close limit (intervals old)))
  pub room : r ≤ length old
  pub front : take r new ≡ flat (close limit (intervals old))
