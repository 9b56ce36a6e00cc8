-- Laws of `over`, and of a callee that is lent the tail of a slice. Assumes nothing.
use mathlib.Core.Path.{◌≡◌, refl, sym, ap, ◌∙◌}
use mathlib.Core.List.{List, [], ◌∷◌, ◌++◌, append_assoc, append-nil}
use borrow.Rule.Slice.PartMut.{mid_of, put_mid}
use Prim.Native.Nat.{ℕ, zero, suc, ◌+◌, ◌-◌, ◌≤◌, ◌<◌}
use native.Mathlib.Omega.{arith}
use native.Mathlib.Nat.{zero-add}
use native.Mathlib.Numerals.{add-one}
use lib.ListN.{length, get_or, set, take, drop, replicate, length-drop, length-append, length-replicate, replicate-append-replicate, drop_of_length-le}
use lib.Seq.{take-append_seam, drop-append_seam, drop-drop, set-append_seam, drop-cons, sets, sets-eq, length-take-le, take-suc, take_at, drop_at, take_all}
use Rattle.meaning.specs.Lists.{over}

module _ {ℓ} {A : Type ℓ} where
  pub over_nil : (old : List A) → over [] old ≡ old
  unfolding over
  over_nil old = refl

  pub over_same : (xs l m : List A) → drop (length xs) l ≡ drop (length xs) m → over xs l ≡ over xs m
  unfolding over
  over_same xs l m e = ap (λ (r : List A). xs ++ r) e

  -- a list over its own front
  pub over_front : (n : ℕ) (l : List A) → over (take n l) l ≡ l
  unfolding over
  over_front zero l = refl
  over_front (suc n) [] = refl
  over_front (suc n) (x ∷ l) = ap (λ (r : List A). x ∷ r) (over_front n l)

  pub length_over : (xs old : List A) → length xs ≤ length old → length (over xs old) ≡ length old
  unfolding over
  length_over xs old h = length-append xs (drop (length xs) old) ∙ omega (arith, length-drop (length xs) old)

  pub take_over : (xs old : List A) → take (length xs) (over xs old) ≡ xs
  unfolding over
  take_over xs old = take-append_seam xs (drop (length xs) old)

  -- untouched beyond
  pub drop_over : (xs old : List A) (j : ℕ) → length xs ≤ j → drop j (over xs old) ≡ drop j old
  unfolding over
  drop_over xs old j h =
      let e : length xs + (j - length xs) ≡ j = omega arith in
      rw (← e) (sym (drop-drop (j - length xs) (length xs) (xs ++ drop (length xs) old)) ∙ ap (drop (j - length xs)) (drop-append_seam xs (drop (length xs) old)) ∙ drop-drop (j - length xs) (length xs) old)

  over_joined : (xs ys old : List A) → xs ++ over ys (drop (length xs) old) ≡ over (xs ++ ys) old
  unfolding over
  over_joined xs ys old =
      rw (length-append xs ys, drop-drop (length ys) (length xs) old) (sym (append_assoc xs ys (drop (length xs + length ys) old)))

  -- what a callee did to the tail, said of the whole: xs stands already, and a callee that was lent the rest writes ys over it
  pub over_tail : (xs ys old : List A) → take (length xs) (over xs old) ++ over ys (drop (length xs) (over xs old)) ≡ over (xs ++ ys) old
  over_tail xs ys old = rw (take_over xs old, drop_over xs old (length xs) (omega arith)) (over_joined xs ys old)

  -- one more element: a store right after what stands
  pub over_store : (xs old : List A) (a : A) → length xs < length old → set (over xs old) (length xs) a ≡ over (xs ++ a ∷ []) old
  unfolding over
  over_store xs old a h =
      let k : suc (length xs) ≡ length (xs ++ a ∷ []) = omega (arith, length-append xs (a ∷ [])) in
      ap (λ (l : List A). set (xs ++ l) (length xs) a) (drop-cons old (length xs) a h)
      ∙ set-append_seam xs (get_or old (length xs) a) (drop (suc (length xs)) old) a
      ∙ sym (append_assoc xs (a ∷ []) (drop (suc (length xs)) old))
      ∙ ap (λ (k : ℕ). (xs ++ a ∷ []) ++ drop k old) k

  -- the same with the place known by an equation
  pub over_store_at : (xs old : List A) (a : A) (i : ℕ) → length xs ≡ i → i < length old → set (over xs old) i a ≡ over (xs ++ a ∷ []) old
  over_store_at xs old a i e h = rw (← e) (over_store xs old a (omega arith))

  -- straight-line stores from the front
  pub over_sets : (vs l : List A) → length vs ≤ length l → sets l 0 vs ≡ over vs l
  unfolding over
  over_sets vs l h = sets-eq vs l 0 (omega arith) ∙ rw zero-add

  -- loops that fill and that copy
  pub over_fill : (old : List A) (a : A) (i : ℕ) → i < length old → set (over (replicate i a) old) i a ≡ over (replicate (i + 1) a) old
  over_fill old a i h = over_store_at (replicate i a) old a i (length-replicate i a) h ∙ ap (λ (l : List A). over l old) (replicate-append-replicate i 1 a)

  pub over_take : (old s : List A) (i : ℕ) (d : A) → i < length old → i < length s → set (over (take i s) old) i (get_or s i d) ≡ over (take (i + 1) s) old
  over_take old s i d h k =
      over_store_at (take i s) old (get_or s i d) i (length-take-le i s (omega arith)) h ∙ ap (λ (l : List A). over l old) (sym (rw add-one (take-suc s i d k)))

-- What a callee did to the tail that it was lent, said of the whole. `f(&mut l[at..])` leaves take at l before what f leaves of drop at l
module _ {ℓ} {A : Type ℓ} (l xs : List A) (at : ℕ) (h : at + length xs ≤ length l) where
  tail_head : length (take at l ++ xs) ≡ at + length xs
  tail_head = length-append (take at l) xs ∙ omega (arith, length-take-le at l (omega arith))

  tail_split : take at l ++ over xs (drop at l) ≡ (take at l ++ xs) ++ drop (at + length xs) l
  unfolding over
  tail_split = rw (drop-drop (length xs) at l) (sym (append_assoc (take at l) xs (drop (at + length xs) l)))

  pub tail_length : length (take at l ++ over xs (drop at l)) ≡ length l
  tail_length = ap length tail_split ∙ length-append (take at l ++ xs) (drop (at + length xs) l) ∙ omega (arith, tail_head, length-drop (at + length xs) l)

  -- what stands: what stood before at, and then xs
  pub tail_take : take (at + length xs) (take at l ++ over xs (drop at l)) ≡ take at l ++ xs
  tail_take = ap (take (at + length xs)) tail_split ∙ take_at (take at l ++ xs) (drop (at + length xs) l) (at + length xs) tail_head

  -- from where xs ends on nothing is changed
  pub tail_drop : (j : ℕ) → at + length xs ≤ j → drop j (take at l ++ over xs (drop at l)) ≡ drop j l
  tail_drop j k =
      let e : at + length xs + (j - (at + length xs)) ≡ j = omega arith in
      rw (← e)
      (sym (drop-drop (j - (at + length xs)) (at + length xs) (take at l ++ over xs (drop at l)))
      ∙ ap (drop (j - (at + length xs))) (ap (drop (at + length xs)) tail_split ∙ drop_at (take at l ++ xs) (drop (at + length xs) l) (at + length xs) tail_head)
      ∙ drop-drop (j - (at + length xs)) (at + length xs) l)

-- The prover's words for it: `&mut l[at..]` lends mid_of at (length l - at) l, and when the part is back the whole is put_mid at (length l - at) l ys
module _ {A : Type 0} (l : List A) (at : ℕ) (h : at ≤ length l) where
  pub mid_tail : mid_of at (length l - at) l ≡ drop at l
  mid_tail = take_all (length l - at) (drop at l) (omega (arith, length-drop at l))

  pub put_tail : (ys : List A) → put_mid at (length l - at) l ys ≡ take at l ++ ys
  put_tail ys = ap (λ (r : List A). take at l ++ (ys ++ r)) (drop_of_length-le (drop at l) {i = length l - at} (omega (arith, length-drop at l))) ∙ ap (λ (r : List A). take at l ++ r) (append-nil ys)

  -- a callee that was lent the tail wrote xs over it
  pub tail_whole : (xs ys : List A) → ys ≡ over xs (mid_of at (length l - at) l) → put_mid at (length l - at) l ys ≡ take at l ++ over xs (drop at l)
  tail_whole xs ys e = put_tail ys ∙ ap (λ (r : List A). take at l ++ r) (e ∙ ap (over xs) mid_tail)

-- Calls one after the other, each lent what the ones before it left: xs stands at the front, and a callee that was lent the tail from `at` wrote ys over it
module _ {A : Type 0} (xs ys old l r : List A) (at : ℕ) where
  pub tail_next : l ≡ over xs old → at ≡ length xs → length xs ≤ length old → r ≡ over ys (mid_of at (length l - at) l) → put_mid at (length l - at) l r ≡ over (xs ++ ys) old
  tail_next e d h w =
      let n : length l ≡ length old = ap length e ∙ length_over xs old h in
      tail_whole l at (omega arith) ys r w
      ∙ (λ i. take (d i) (e i) ++ over ys (drop (d i) (e i)))
      ∙ over_tail xs ys old
