-- The loop that searches the gaps for the least, said of lists alone. Assumes nothing.
use mathlib.Core.Path.{◌≡◌, sym, ap, ◌∙◌, subst}
use mathlib.Core.Bool.{true, ◌&&◌}
use mathlib.Core.List.{List, [], ◌∷◌, ◌++◌}
use Prim.Native.Nat.{ℕ, suc, ◌+◌, ◌%◌, ◌≤◌}
use native.Mathlib.Omega.{arith}
use lib.ListN.{length, take, drop, take-append-drop}
use lib.Seq.{length-take-le, take-add}
use lib.Dec.{leb}
use lib.IntN.{ℤ, suc_ℤ}
use borrow.Author.Tests.{leb-true}
use Rattle.laws.proofs.Integers.{and_both}
use lib.Signed.{◌<ℤ◌}
use Rattle.sorting.proofs.Steps.{end_at, drop_two}
use Rattle.meaning.specs.Close.{missing}
use Rattle.closing.specs.Gaps.{at_least, Open, Lowest}
use Rattle.closing.proofs.Least.{least_new, least_cut, least_old}

-- the gaps in the first k numbers are searched
pub record Searching (p : List ℤ) (floor k : ℕ) : Type 0 where
  pub even : k % 2 ≡ 0
  pub whole : length p % 2 ≡ 0
  pub wide : Open (drop k p)
  pub over : at_least floor (drop k p) ≡ true

module _ {p : List ℤ} {floor k : ℕ} (t : Searching p floor k) (h : k + 2 ≤ length p) where
  next_two : drop k p ≡ end_at p k ∷ end_at p (k + 1) ∷ drop (k + 2) p
  next_two = drop_two p k h

  take_two : take (k + 2) p ≡ take k p ++ end_at p k ∷ end_at p (k + 1) ∷ []
  take_two = take-add k 2 p ∙ ap (λ (x : List ℤ). take k p ++ take 2 x) next_two

  so_long : length (take k p) ≡ k
  so_long = length-take-le k p (omega (arith, h))

  pub gap_wide : suc_ℤ (end_at p k) <ℤ end_at p (k + 1)
  gap_wide = (rw next_two at t.wide).0

  abbrev g : ℕ
  g = missing (end_at p k) (end_at p (k + 1))

  rest_over : (leb floor g && at_least floor (drop (k + 2) p)) ≡ true
  unfolding at_least
  rest_over = rw next_two at t.over

  pub floor_le : floor ≤ missing (end_at p k) (end_at p (k + 1))
  floor_le = leb-true floor g (and_both (leb floor g) (at_least floor (drop (k + 2) p)) rest_over).0

  over_next : at_least floor (drop (k + 2) p) ≡ true
  over_next = (and_both (leb floor g) (at_least floor (drop (k + 2) p)) rest_over).1

  pub searching_next : Searching p floor (k + 2)
  searching_next = record { even = omega (arith, t.even); whole = t.whole; wide = (rw next_two at t.wide).1; over = over_next }

  -- the gap of the turn has fewer than those before it
  module _ (u : at_least (suc (missing (end_at p k) (end_at p (k + 1)))) (take k p) ≡ true) where
    -- and none has fewer
    pub searching_stop : missing (end_at p k) (end_at p (k + 1)) ≡ floor → Lowest p k (missing (end_at p k) (end_at p (k + 1)))
    searching_stop q =
        let n = least_cut (take k p) (end_at p k) (end_at p (k + 1)) (rw so_long t.even) u (drop (k + 2) p) (rw q over_next) in
        let w : take k p ++ end_at p k ∷ end_at p (k + 1) ∷ drop (k + 2) p ≡ p = ap (λ (x : List ℤ). take k p ++ x) (sym next_two) ∙ take-append-drop k p in
        subst (λ (j : ℕ). Lowest p j g) so_long (subst (λ (x : List ℤ). Lowest x (length (take k p)) g) w n)

    pub searching_new : Lowest (take (k + 2) p) k (missing (end_at p k) (end_at p (k + 1)))
    searching_new =
        let n = least_new (take k p) (end_at p k) (end_at p (k + 1)) (rw so_long t.even) u in
        rw take_two (subst (λ (j : ℕ). Lowest (take k p ++ end_at p k ∷ end_at p (k + 1) ∷ []) j g) so_long n)

  pub searching_old : {at least : ℕ} → Lowest (take k p) at least → least ≤ missing (end_at p k) (end_at p (k + 1)) → Lowest (take (k + 2) p) at least
  searching_old l q = rw take_two (least_old (take k p) (end_at p k) (end_at p (k + 1)) (rw so_long t.even) l q)
