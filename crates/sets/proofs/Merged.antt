-- Two normal sets, merged and joined in one pass: the union. Assumes nothing.
use mathlib.Core.Path.{◌≡◌, refl, sym, ap, ◌∙◌}
use mathlib.Core.List.{List, [], ◌∷◌, ◌++◌, append_assoc}
use mathlib.Core.Bool.{true}
use Prim.Native.Nat.{ℕ, ◌+◌, ◌-◌, ◌≤◌, ◌<◌}
use native.Mathlib.Omega.{arith}
use borrow.Rule.Slice.PartMut.{put_mid, Post-is}
use lib.ListN.{length, take, drop, length-append, length-drop}
use lib.Seq.{length-take-le, take_at, drop_at, take-append-le}
use lib.IntN.{ℤ}
use Rattle.sorting.specs.Order.{Swept, Valid, join_sorted, merge, valid}
use Rattle.sorting.proofs.Ends.{valid_yes}
use Rattle.sets.specs.Sets.{SetEnds, United}
use Rattle.sets.proofs.Bridge.{set_valid, united}

none : (l r : List ℤ) → Valid l → Valid r → length l + length r < 2 → [] ≡ join_sorted (merge l r)
unfolding merge join_sorted
none [] [] v u h = refl
none [] (c ∷ []) v u h = absurd u
none [] (c ∷ d ∷ r) v u h = absurd (omega (arith, h))
none (s ∷ []) r v u h = absurd v
none (s ∷ e ∷ l) r v u h = absurd (omega (arith, h))

pub united_none : (l r : List ℤ) → valid l ≡ true → valid r ≡ true → length l + length r < 2 → [] ≡ join_sorted (merge l r)
united_none l r v u h = none l r (valid_yes l v) (valid_yes r u) h

-- right is copied behind the first n numbers
module _ (w right ys : List ℤ) (n : ℕ) (h : n + length right ≤ length w) (e : ys ≡ right) where
  placed : put_mid n (n + length right - n) w ys ≡ (take n w ++ right) ++ drop (n + length right) w
  placed =
      ap (λ (x : List ℤ). take n w ++ (ys ++ x)) (Post-is n (n + length right) w (omega arith))
      ∙ ap (λ (x : List ℤ). take n w ++ (x ++ drop (n + length right) w)) e
      ∙ sym (append_assoc (take n w) right (drop (n + length right) w))

  head : length (take n w ++ right) ≡ n + length right
  head = length-append (take n w) right ∙ omega (arith, length-take-le n w (omega (arith, h)))

  pub laid : take (n + length right) (put_mid n (n + length right - n) w ys) ≡ take n w ++ right
  laid = ap (take (n + length right)) placed ∙ take_at (take n w ++ right) (drop (n + length right) w) (n + length right) head

  pub laid_long : length (put_mid n (n + length right - n) w ys) ≡ length w
  laid_long = ap length placed ∙ length-append (take n w ++ right) (drop (n + length right) w) ∙ omega (arith, head, length-drop (n + length right) w)

  pub laid_rest : drop (n + length right) (put_mid n (n + length right - n) w ys) ≡ drop (n + length right) w
  laid_rest = ap (drop (n + length right)) placed ∙ drop_at (take n w ++ right) (drop (n + length right) w) (n + length right) head

  pub laid_back : drop n (take (n + length right) (put_mid n (n + length right - n) w ys)) ≡ right
  laid_back = ap (drop n) laid ∙ drop_at (take n w) right n (length-take-le n w (omega (arith, h)))

-- one pass over the merged numbers zs leaves ys of them, which stand before what is left of w
pub united_by : (l r w placed zs ys : List ℤ) (k n : ℕ) → SetEnds l → SetEnds r → k ≡ length l + length r → length zs ≡ k → zs ≡ merge l r
    → drop k placed ≡ drop k w → length ys ≡ length zs → Swept zs ys n → United l r w (ys ++ drop k placed) n
united_by l r w placed zs ys k n a b d e m h q s =
    let f = ap join_sorted m ∙ united l r a b in
    let g : drop k (ys ++ drop k placed) ≡ drop k w = drop_at ys (drop k placed) k (q ∙ e) ∙ h in
    record {
      count = s.count ∙ ap length f;
      room = omega (arith, s.room, e, d);
      front = take-append-le n ys (drop k placed) (omega (arith, s.room, q)) ∙ s.front ∙ f;
      rest = ap (λ (j : ℕ). drop j (ys ++ drop k placed)) (sym d) ∙ g ∙ ap (λ (j : ℕ). drop j w) d;
    }

pub united_few : (l r w : List ℤ) → SetEnds l → SetEnds r → length l + length r < 2 → United l r w w 0
united_few l r w a b h =
    let f = united_none l r (set_valid l a) (set_valid r b) h ∙ united l r a b in
    record { count = ap length f; room = omega arith; front = f; rest = refl }
