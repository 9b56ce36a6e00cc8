-- What is asked of a set as a whole, read from its slice of ends. Assumes nothing.
use mathlib.Core.Path.{◌≡◌, refl, sym, ap, ◌∙◌}
use mathlib.Core.Bool.{false, cond, ◌&&◌}
use mathlib.Core.List.{List, [], ◌∷◌}
use Rattle.std.specs.Prelude.{None, Some}
use Prim.Native.Nat.{suc, ◌-◌, ◌/◌, ◌%◌, ◌<◌}
use native.Mathlib.Omega.{arith}
use borrow.Author.Tests.{lt-ltb}
use lib.Dec.{ltb}
use lib.ListN.{length, get_or, drop}
use Rattle.std.specs.Simd.{first_chunks}
use Rattle.writer.proofs.Pairs.{first, second, pair_at}
use lib.IntN.{ℤ, pos}
use Rattle.meaning.specs.Number.{eq_z}
use Rattle.meaning.specs.Interval.{Interval}
use Rattle.meaning.specs.NumberIntervals.{Set, filled, zero_only, constant, intervals}

pub filled_long : (l : List ℤ) → ltb 1 (length l) ≡ filled (intervals l)
unfolding intervals
filled_long [] = refl
filled_long (s ∷ []) = refl
filled_long (s ∷ e ∷ r) = lt-ltb 1 (length (s ∷ e ∷ r)) (omega arith)

-- ---- {0}, and a set of just one number

pub zero_not : (l : List ℤ) → (length l / 2 ≡ 1 → ⊥) → zero_only (intervals l) ≡ false
unfolding intervals
zero_not [] h = refl
zero_not (s ∷ []) h = refl
zero_not (s ∷ e ∷ []) h = absurd (h (omega arith))
zero_not (s ∷ e ∷ x ∷ []) h = absurd (h (omega arith))
zero_not (s ∷ e ∷ x ∷ y ∷ r) h = refl

pub zero_one : (l : List ℤ) → length l / 2 ≡ 1 → zero_only (intervals l) ≡ (eq_z (get_or l 0 (pos 0)) (pos 0) && eq_z (get_or l 1 (pos 0)) (pos 0))
unfolding intervals
zero_one [] h = absurd (omega arith)
zero_one (s ∷ []) h = absurd (omega arith)
zero_one (s ∷ e ∷ []) h = refl
zero_one (s ∷ e ∷ x ∷ []) h = refl
zero_one (s ∷ e ∷ x ∷ y ∷ r) h = absurd (omega arith)

pub constant_not : (l : List ℤ) → (length l / 2 ≡ 1 → ⊥) → constant (intervals l) ≡ None
unfolding intervals
constant_not [] h = refl
constant_not (s ∷ []) h = refl
constant_not (s ∷ e ∷ []) h = absurd (h (omega arith))
constant_not (s ∷ e ∷ x ∷ []) h = absurd (h (omega arith))
constant_not (s ∷ e ∷ x ∷ y ∷ r) h = refl

constant_pair : (a b : ℤ) (r : List ℤ) → length r < 2 → constant (intervals (a ∷ b ∷ r)) ≡ cond (eq_z a b) (Some a) None
unfolding intervals
constant_pair a b [] h = refl
constant_pair a b (x ∷ []) h = refl
constant_pair a b (x ∷ y ∷ r) h = absurd (omega arith)

-- the ends of the one interval, as the only chunk has them
pub constant_one : (l : List ℤ) {x : List (List ℤ)} → x ≡ first_chunks 2 (length l / 2) l → length l / 2 ≡ 1 → constant (intervals l) ≡ cond (eq_z (first x 0) (second x 0)) (Some (first x 0)) None
constant_one l {x} e h =
    let turn = pair_at l 0 e (omega (arith, h)) in
    ap (λ (m : List ℤ). constant (intervals m)) turn ∙ constant_pair (first x 0) (second x 0) (drop 2 l) (omega (arith, h, ap length turn))

-- ---- the first start and the last end

-- the last end of the set i ∷ s
unfoldable pub top : Interval → Set → ℤ
top i [] = i.hi
top i (j ∷ s) = top j s

-- a slice of a set with an interval: its first and its last number
pub record Bounds (l : List ℤ) : Type 0 where
  pub head : Interval
  pub tail : Set
  pub is : intervals l ≡ head ∷ tail
  pub first : get_or l 0 (pos 0) ≡ head.lo
  pub last : get_or l (length l - 1) (pos 0) ≡ top head tail

pub bounds : (l : List ℤ) → length l % 2 ≡ 0 → 1 < length l → Bounds l
unfolding intervals top
bounds [] e h = absurd (omega arith)
bounds (s ∷ []) e h = absurd (omega arith)
bounds (s ∷ f ∷ []) e h = record { head = record { lo = s; hi = f }; tail = []; is = refl; first = refl; last = refl }
bounds (s ∷ f ∷ x ∷ []) e h = absurd (omega arith)
bounds (s ∷ f ∷ x ∷ y ∷ r) e h =
    let b = bounds (x ∷ y ∷ r) (omega arith) (omega arith) in
    let n : length (s ∷ f ∷ x ∷ y ∷ r) - 1 ≡ suc (suc (length (x ∷ y ∷ r) - 1)) = omega arith in
    record {
      head = record { lo = s; hi = f };
      tail = intervals (x ∷ y ∷ r);
      is = refl;
      first = refl;
      last = rw n (b.last ∙ sym (ap (λ (t : Set). top_of s f t) b.is));
    }
  where
    top_of : ℤ → ℤ → Set → ℤ
    top_of s f t = top (record { lo = s; hi = f }) t
