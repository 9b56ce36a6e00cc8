-- The least and the greatest of four integers, as corners. Assumes nothing.
use Rattle.std.proofs.Common.{◌≡◌, ◌∙◌, ℤ}
use Rattle.std.specs.Ordering.{int_cmp, ord_min, ord_max}
use Rattle.meaning.specs.Number.{smaller, larger}
use Rattle.meaning.specs.Interval.{least_corner, greatest_corner}
use Rattle.laws.proofs.Integers.{zarith}

min_is : (a b : ℤ) → ord_min int_cmp a b ≡ smaller a b
min_is a b = grind zarith

max_is : (a b : ℤ) → ord_max int_cmp a b ≡ larger a b
max_is a b = grind zarith

-- the corners of an operation, as the code finds them of the four results
module _ (op : ℤ → ℤ → ℤ) (s e t f : ℤ) {a b c d : ℤ} (h : a ≡ op s t) (i : b ≡ op s f) (k : c ≡ op e t) (l : d ≡ op e f) where
  pub least_of_four : ord_min int_cmp (ord_min int_cmp a b) (ord_min int_cmp c d) ≡ least_corner op s e t f
  unfolding least_corner
  least_of_four = min_is (ord_min int_cmp a b) (ord_min int_cmp c d) ∙ (λ j. smaller (min_is a b j) (min_is c d j)) ∙ (λ j. smaller (smaller (h j) (i j)) (smaller (k j) (l j)))

  pub greatest_of_four : ord_max int_cmp (ord_max int_cmp a b) (ord_max int_cmp c d) ≡ greatest_corner op s e t f
  unfolding greatest_corner
  greatest_of_four = max_is (ord_max int_cmp a b) (ord_max int_cmp c d) ∙ (λ j. larger (max_is a b j) (max_is c d j)) ∙ (λ j. larger (larger (h j) (i j)) (larger (k j) (l j)))
