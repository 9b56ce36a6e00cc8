-- The closest member of a set, by the number of each interval that is closest. Assumes nothing.
use Rattle.std.proofs.Common.{◌≡◌, ℕ, zero, suc, ◌+◌, ◌*◌, ◌<◌, ◌≤◌, ℤ, ◌≤ℤ◌, List, [], ◌∷◌, length, map, drop, get_or, refl, sym, ap, subst, ◌∙◌, arith, Bor, Option, Some, None}
use Rattle.std.specs.Simd.{first_chunks}
use Rattle.std.specs.List.{FoldsTo}
use Rattle.std.specs.Ordering.{min_by_ordering, nat_cmp}
use Rattle.std.specs.Iterator.{KeyTurn, PicksMinByKey, Drains}
use Rattle.std.specs.Fn.{Called}
use Rattle.std.specs.Int.{int_max, int_min}
use Rattle.std.proofs.lemmas.Iterator.{YieldsList, items_from_drains}
use Rattle.std.proofs.lemmas.List.{map-id}
use denote.Param.Members.{Mut}
use Rattle.meaning.specs.Number.{distance}
use Rattle.meaning.specs.Interval.{Proper}
use Rattle.meaning.specs.NumberIntervals.{Set, intervals}
use Rattle.meaning.specs.Setpoints.{clamp, nearer, nearest_from, nearest}
use Rattle.laws.proofs.Integers.{zarith}
use Rattle.laws.proofs.Members.{AllProper}
use Rattle.laws.proofs.Distances.{clamp_case}
use Rattle.setpoints.specs.Saying.{IsClosest}
use Rattle.sorting.proofs.Steps.{end_at}

-- the intervals of pairs of ends
abbrev pub spans : List (List ℤ) → Set
spans [] = []
spans (p ∷ ps) = record { lo = end_at p 0; hi = end_at p 1 } ∷ spans ps

pub chunked : (c : ℕ) (l : List ℤ) → c * 2 ≤ length l → length l < c * 2 + 2 → spans (first_chunks 2 c l) ≡ intervals l
unfolding intervals
chunked zero [] g h = refl
chunked zero (x ∷ []) g h = refl
chunked zero (x ∷ y ∷ l) g h = absurd (omega arith)
chunked (suc c) [] g h = absurd (omega arith)
chunked (suc c) (x ∷ []) g h = absurd (omega arith)
chunked (suc c) (x ∷ y ∷ l) g h = ap (λ (s : Set). record { lo = x; hi = y } ∷ s) (chunked c l (omega arith) (omega arith))

pub proper_at : (ps : List (List ℤ)) (k : ℕ) (p : List ℤ) → AllProper (spans ps) → k < length ps → p ≡ get_or ps k p → Proper (end_at p 0) (end_at p 1)
proper_at [] k p q h e = absurd (omega arith)
proper_at (r ∷ ps) zero p q h e = subst (λ (l : List ℤ). Proper (end_at l 0) (end_at l 1)) (sym e) q.0
proper_at (r ∷ ps) (suc k) p q h e = proper_at ps k p q.1 (omega arith) e

module _ (x : ℤ) where
  pub clamp_is : (lo hi : ℤ) → lo ≤ℤ hi → int_max lo (int_min x hi) ≡ clamp x lo hi
  clamp_is lo hi h =
      clamp_case (λ m. int_max lo (int_min x hi) ≡ m) x lo hi (λ a. grind (arith, zarith)) (λ a b. grind (arith, zarith)) (λ a b. grind (arith, zarith))

  -- the number closest to x in the interval of a pair
  abbrev pub mark : List ℤ → ℤ
  mark p = clamp x (end_at p 0) (end_at p 1)

  -- of two numbers the one with the lesser distance, the first on a tie, and its distance
  nearer_is : (a b : ℤ) → min_by_ordering (nat_cmp (distance a x) (distance b x)) a b ≡ nearer x a b
  unfolding nearer
  nearer_is a b = grind arith

  nearer_key : (a b : ℤ) → min_by_ordering (nat_cmp (distance a x) (distance b x)) (distance a x) (distance b x) ≡ distance (nearer x a b) x
  unfolding nearer
  nearer_key a b = grind arith

  module _ {F : Type 0} (g : Mut F (Bor ℤ × Unit {0}) ℕ) {f : F} (keys : (a : Bor ℤ × Unit {0}) (k : ℕ) (q : F) → Called g f a k q → (k ≡ distance a.0.now x) × (q ≡ f)) where
    abbrev Turn : (F × ℕ) × ℤ → ℤ → (F × ℕ) × ℤ → Type 0
    Turn = KeyTurn min_by_ordering min_by_ordering g nat_cmp

    picked_from : (ps : List (List ℤ)) (m : ℤ) (q : F × ℕ) (y : ℤ) → FoldsTo {P = (F × ℕ) × ℤ} Turn ((f, distance m x), m) (map mark ps) (q, y) → y ≡ nearest_from x m (spans ps)
    unfolding nearest_from
    picked_from [] m q y e = sym (ap (λ (t : (F × ℕ) × ℤ). t.1) e)
    picked_from (p ∷ ps) m q y t =
        let turn = t.1 in
        let z = mark p in
        let called = keys (turn.2.shown, tt) turn.0 t.0.0.0 turn.2.called in
        let key : turn.0 ≡ distance z x = called.0 ∙ ap (λ (a : ℤ). distance a x) turn.2.shows in
        let order : turn.1 ≡ nat_cmp (distance m x) (distance z x) = sym turn.3 ∙ ap (nat_cmp (distance m x)) key in
        let least : t.0.0.1 ≡ distance (nearer x m z) x = turn.4 ∙ (λ i. min_by_ordering (order i) (distance m x) (key i)) ∙ nearer_key m z in
        let best : t.0.1 ≡ nearer x m z = turn.5 ∙ (λ i. min_by_ordering (order i) m z) ∙ nearer_is m z in
        picked_from ps (nearer x m z) q y (subst (λ (j : (F × ℕ) × ℤ). FoldsTo {P = (F × ℕ) × ℤ} Turn j (map mark ps) (q, y)) (λ i. ((called.1 i, least i), best i)) t.2)

    -- no number is picked of no interval, else the closest
    module _ {S : Type 0} {steps : S → Option ℤ → S → Type 0} {s : S} where
      items_are : (ps : List (List ℤ)) (zs : List ℤ) → Drains steps s zs → YieldsList steps (λ (z : ℤ). z) s (map mark ps) → zs ≡ map mark ps
      items_are ps zs d road = sym (map-id zs) ∙ items_from_drains zs (d.1.0, d.1.1, λ _. (d.0, d.1.2)) road

      pub picked_is : (ps : List (List ℤ)) (r : Option ℤ) → PicksMinByKey steps g nat_cmp s f r → YieldsList steps (λ (z : ℤ). z) s (map mark ps) → IsClosest r (spans ps) x
      unfolding nearest
      picked_is [] None d road = refl
      picked_is [] (Some m) d road = absurd (omega (arith, ap length (items_are [] (d.0 ∷ d.1) d.5 road)))
      picked_is (p ∷ ps) None d road = absurd (omega (arith, ap length (items_are (p ∷ ps) [] d road)))
      picked_is (p ∷ ps) (Some m) d road =
          let e = items_are (p ∷ ps) (d.0 ∷ d.1) d.5 road in
          let head : d.0 ≡ mark p = ap (λ (l : List ℤ). end_at l 0) e in
          let tail : d.1 ≡ map mark ps = ap (drop 1) e in
          let called = keys (d.6.shown, tt) d.2 d.3 d.6.called in
          let key : d.2 ≡ distance (mark p) x = called.0 ∙ ap (λ (a : ℤ). distance a x) (d.6.shows ∙ head) in
          (refl, picked_from ps (mark p) d.4 m (subst (λ (w : ((F × ℕ) × ℤ) × List ℤ). FoldsTo {P = (F × ℕ) × ℤ} Turn w.0 w.1 (d.4, m)) (λ i. (((called.1 i, key i), head i), tail i)) d.7))
