-- Demand 2 for the calls, proved: a call that refuses nothing had normal arguments, and what it wrote are the ends of the definitions' answer; so `demand2` speaks of it. Assumes nothing.
use lib.Dec.{ltb, eqb}
use lib.IntN.{ℤ}
use lib.ListN.{length, take}
use mathlib.Core.Path.{◌≡◌, refl, sym, ap, subst, ◌∙◌}
use mathlib.Core.Bool.{Bool, true, false, cond}
use mathlib.Core.List.{List, []}
use Prim.Native.Nat.{ℕ, ◌≤◌}
use native.Mathlib.Omega.{arith}
use borrow.Author.Tests.{eq-eqb, eqb-true, ltb-false}
use Rattle.meaning.specs.Lists.{All, over}
use Rattle.meaning.specs.Refusals.{not_normal, too_many, too_short, no_room}
use Rattle.meaning.specs.Number.{Between, InRange, least_product, greatest_product, Op1, neg, abs, not', Op2, add, sub, mul, div, rem, le, lt, ne, and, or, point1}
use Rattle.meaning.specs.NumberIntervals.{Set, ◌∈◌, Normal, union, intersect, set1, set2, flag1, flag2, flat, intervals, normal}
use Rattle.meaning.specs.SetCalls.{Returned, written, refused, refusal, refusal2, factor1, factor2, need1, need2, call_returns, call_out}
use Rattle.meaning.specs.Demand2.{Only1, Only2, OnlyFilled2}
use Rattle.meaning.specs.Demand2Calls.{shown, Ends, Stands, exact2, exact_filled2, CallJust, CallsRight}
use Rattle.laws.proofs.Integers.{clash}
use Rattle.laws.proofs.Over.{length_over, take_over}
use Rattle.laws.proofs.Flat.{intervals_flat, flat_intervals, ends_normal}
use Rattle.laws.proofs.Demand2.{demand2}

-- ---- an argument that is not refused is normal

pub unrefused : (s : List ℤ) → refusal s ≡ 0 → normal s ≡ true
unfolding refusal
unrefused s e = go (ltb 32 (length s)) (normal s) refl e
  where
    go : (a b : Bool) → normal s ≡ b → cond a too_many (cond b 0 not_normal) ≡ 0 → normal s ≡ true
    go true b p e = absurd (omega arith)
    go false true p e = p
    go false false p e = absurd (omega arith)

pub unrefused2 : (left right : List ℤ) → refusal2 left right ≡ 0 → (refusal left ≡ 0) × (refusal right ≡ 0)
unfolding refusal2
unrefused2 left right e = go (eqb (refusal left) 0) refl e
  where
    go : (a : Bool) → eqb (refusal left) 0 ≡ a → cond a (refusal right) (refusal left) ≡ 0 → (refusal left ≡ 0) × (refusal right ≡ 0)
    go true p e = (eqb-true (refusal left) 0 p, e)
    go false p e = clash (eq-eqb (refusal left) 0 e) p

pub argument_ends : (s : List ℤ) → All InRange s → refusal s ≡ 0 → Ends s
argument_ends s h e = record { normal = ends_normal s (unrefused s e) h; whole = flat_intervals s (unrefused s e) }

-- ---- what a call that refuses nothing returns and writes

module _ (k need : ℕ) (answer : Set) (flag : Bool) (out work : List ℤ) where
  pub record Wrote : Type 0 where
    pub unrefused_args : k ≡ 0
    pub room : length (flat answer) ≤ length out
    pub returned : call_returns k need answer flag out work ≡ written (length (flat answer)) flag
    pub left : call_out k need answer flag out work ≡ over (flat answer) out

  pub call_wrote : (call_returns k need answer flag out work).number ≡ 0 → Wrote
  unfolding call_returns call_out
  call_wrote e = go (eqb k 0) (ltb (length work) need) (ltb (length out) (length (flat answer))) refl refl refl e
    where
      n : ℕ
      n = length (flat answer)

      go : (a b c : Bool) → eqb k 0 ≡ a → ltb (length work) need ≡ b → ltb (length out) n ≡ c
          → (cond a (cond b (refused too_short) (cond c (refused no_room) (written n flag))) (refused k)).number ≡ 0 → Wrote
      go true true c p q r e = absurd (omega arith)
      go true false true p q r e = absurd (omega arith)
      go true false false p q r e = record { unrefused_args = eqb-true k 0 p; room = ltb-false (length out) n r; returned = rw (p, q, r) refl; left = rw (p, q, r) refl }
      go false b c p q r e = clash (eq-eqb k 0 e) p

  pub unrefused_call : (call_returns k need answer flag out work).number ≡ 0 → k ≡ 0
  unrefused_call e = (call_wrote e).unrefused_args

  -- so its numbers are the answer's ends, and show it
  front : Wrote → take (call_returns k need answer flag out work).count (call_out k need answer flag out work) ≡ flat answer
  front w = (λ i. take (w.returned i).count (w.left i)) ∙ take_over (flat answer) out

  pub shows : Wrote → shown (call_returns k need answer flag out work) (call_out k need answer flag out work) ≡ answer
  shows w = ap intervals (front w) ∙ intervals_flat answer

  pub wrote_ends : Wrote → Normal answer → Stands (call_returns k need answer flag out work) (call_out k need answer flag out work)
  wrote_ends w p = record {
    fits = rw (w.returned, w.left, length_over (flat answer) out w.room) w.room;
    ends = record { normal = subst Normal (sym (shows w)) p; whole = ap flat (shows w) ∙ sym (front w) };
  }

  pub flagged : Wrote → (call_returns k need answer flag out work).flag ≡ flag
  flagged w = ap (λ (r : Returned). r.flag) w.returned

-- ---- one operand

module _ (o : Op1) (left : List ℤ) (flag : Bool) (out work : List ℤ) where
  wrote1 : (call_returns (refusal left) (need1 (factor1 o) left) (set1 o (intervals left)) (flag1 o flag) out work).number ≡ 0
      → Wrote (refusal left) (need1 (factor1 o) left) (set1 o (intervals left)) (flag1 o flag) out work
  wrote1 e = call_wrote (refusal left) (need1 (factor1 o) left) (set1 o (intervals left)) (flag1 o flag) out work e

  shows1 : Wrote (refusal left) (need1 (factor1 o) left) (set1 o (intervals left)) (flag1 o flag) out work
      → shown (call_returns (refusal left) (need1 (factor1 o) left) (set1 o (intervals left)) (flag1 o flag) out work) (call_out (refusal left) (need1 (factor1 o) left)
      (set1 o (intervals left)) (flag1 o flag) out work)
      ≡ set1 o (intervals left)
  shows1 w = shows (refusal left) (need1 (factor1 o) left) (set1 o (intervals left)) (flag1 o flag) out work w

-- the exact ones, by `demand2`
only1 : (o : Op1) → Only1 o
only1 neg = demand2.neg_only
only1 abs = demand2.abs_only
only1 not' = demand2.not_only

only2 : (o : Op2) → exact2 o ≡ true → Only2 o
only2 add e = demand2.add_only
only2 sub e = demand2.sub_only
only2 mul e = clash e refl
only2 div e = clash e refl
only2 rem e = clash e refl
only2 le e = demand2.le_only
only2 lt e = demand2.lt_only
only2 ne e = clash e refl
only2 and e = clash e refl
only2 or e = clash e refl

-- an operation that is exact is so where both sets have a member
filled : {o : Op2} → Only2 o → OnlyFilled2 o
filled h a b x y z n k mx my m = h a b z n k m

filled_only2 : (o : Op2) → exact_filled2 o ≡ true → OnlyFilled2 o
filled_only2 add e = filled demand2.add_only
filled_only2 sub e = filled demand2.sub_only
filled_only2 mul e = clash e refl
filled_only2 div e = clash e refl
filled_only2 rem e = clash e refl
filled_only2 le e = filled demand2.le_only
filled_only2 lt e = filled demand2.lt_only
filled_only2 ne e = demand2.ne_only
filled_only2 and e = demand2.and_only
filled_only2 or e = demand2.or_only

products2 : (o : Op2) → o ≡ mul → (a b : Set) (z : ℤ) → Normal a → Normal b → z ∈ set2 o a b → Between least_product z greatest_product
products2 o e a b z n k m = demand2.mul_range a b z n k (subst (λ (p : Op2). z ∈ set2 p a b) e m)

-- ---- two operands: `answer` is what the definitions give

module _ (need : ℕ) (answer : Set) (flag : Bool) (left right out work : List ℤ) (h : All InRange left) (g : All InRange right)
    (e : (call_returns (refusal2 left right) need answer flag out work).number ≡ 0) where
  wrote2 : Wrote (refusal2 left right) need answer flag out work
  wrote2 = call_wrote (refusal2 left right) need answer flag out work e

  ends_left : Ends left
  ends_left = argument_ends left h (unrefused2 left right wrote2.unrefused_args).0

  ends_right : Ends right
  ends_right = argument_ends right g (unrefused2 left right wrote2.unrefused_args).1

  shows2 : shown (call_returns (refusal2 left right) need answer flag out work) (call_out (refusal2 left right) need answer flag out work) ≡ answer
  shows2 = shows (refusal2 left right) need answer flag out work wrote2

-- a call without work whose answer has just the members that `is` says
module _ (answer : Set) (left right out : List ℤ) (h : All InRange left) (g : All InRange right)
    (e : (call_returns (refusal2 left right) 0 answer false out []).number ≡ 0) {is : ℤ → Type 0} where
  just : (Normal (intervals left) → Normal (intervals right) → Normal answer)
      → ((z : ℤ) → Normal (intervals left) → Normal (intervals right) → is z → z ∈ answer)
      → ((z : ℤ) → Normal (intervals left) → Normal (intervals right) → z ∈ answer → is z)
      → CallJust is left right (call_returns (refusal2 left right) 0 answer false out []) (call_out (refusal2 left right) 0 answer false out [])
  just p holds only =
      let l = ends_left 0 answer false left right out [] h g e in
      let r = ends_right 0 answer false left right out [] h g e in
      let n = l.normal in
      let k = r.normal in
      let s = shows2 0 answer false left right out [] h g e in
      record {
        left_ends = l;
        right_ends = r;
        stands = wrote_ends (refusal2 left right) 0 answer false out [] (wrote2 0 answer false left right out [] h g e) (p n k);
        holds = λ z m. subst (λ (x : Set). z ∈ x) (sym s) (holds z n k m);
        only = λ z m. only z n k (subst (λ (x : Set). z ∈ x) s m);
        flagged = flagged (refusal2 left right) 0 answer false out [] (wrote2 0 answer false left right out [] h g e);
      }

pub demand2_calls : CallsRight
demand2_calls = record {
  call1 = λ o left flag out work h e.
      let w = wrote1 o left flag out work e in
      let l = argument_ends left h w.unrefused_args in
      let n = l.normal in
      let s = sym (shows1 o left flag out work w) in
      record {
        left_ends = l;
        stands = wrote_ends (refusal left) (need1 (factor1 o) left) (set1 o (intervals left)) (flag1 o flag) out work w (demand2.normal1 o (intervals left) n);
        holds = λ x m. subst (λ (a : Set). point1 o x ∈ a) s (demand2.holds1 o (intervals left) (point1 o x) n (record { member = x; member_in = m; gives = refl }));
        only = λ z m. only1 o (intervals left) z n (subst (λ (a : Set). z ∈ a) (sym s) m);
        flagged = flagged (refusal left) (need1 (factor1 o) left) (set1 o (intervals left)) (flag1 o flag) out work w;
      };
  call2 = λ o left flag right out work h g e.
      let need = need2 (factor2 o) left right in
      let answer = set2 o (intervals left) (intervals right) in
      let f = flag2 o flag (intervals left) (intervals right) in
      let l = ends_left need answer f left right out work h g e in
      let r = ends_right need answer f left right out work h g e in
      let n = l.normal in
      let k = r.normal in
      let s = sym (shows2 need answer f left right out work h g e) in
      record {
        left_ends = l;
        right_ends = r;
        stands = wrote_ends (refusal2 left right) need answer f out work (wrote2 need answer f left right out work h g e) (demand2.normal2 o (intervals left) (intervals right) n k);
        holds = λ x y z mx my r. subst (λ (a : Set). z ∈ a) s (demand2.holds2 o (intervals left) (intervals right) z n k (record { left = x; right = y; left_in = mx; right_in = my; gives = r }));
        only = λ x z m. only2 o x (intervals left) (intervals right) z n k (subst (λ (a : Set). z ∈ a) (sym s) m);
        products = λ q z m. products2 o q (intervals left) (intervals right) z n k (subst (λ (a : Set). z ∈ a) (sym s) m);
        filled_only = λ e x y z mx my m. filled_only2 o e (intervals left) (intervals right) x y z n k mx my (subst (λ (a : Set). z ∈ a) (sym s) m);
        flagged = flagged (refusal2 left right) need answer f out work (wrote2 need answer f left right out work h g e);
      };
  union_call = λ left right out h g e. just (union (intervals left) (intervals right)) left right out h g e
      (demand2.union_normal (intervals left) (intervals right))
      (λ z n k. demand2.union_holds (intervals left) (intervals right) z n k)
      (λ z n k. demand2.union_only (intervals left) (intervals right) z n k);
  intersect_call = λ left right out h g e. just (intersect (intervals left) (intervals right)) left right out h g e
      (demand2.intersect_normal (intervals left) (intervals right))
      (λ z n k m. demand2.intersect_holds (intervals left) (intervals right) z n k m.0 m.1)
      (λ z n k. demand2.intersect_only (intervals left) (intervals right) z n k);
}
