-- How long an answer can be: a join has no more intervals than were joined, and each pair gives at most as many as its factor says. So an `out` of that many numbers is never refused
-- with 4. Assumes nothing.
use lib.Dec.{eqb, ltb}
use lib.IntN.{ℤ, pos}
use lib.ListN.{length, length-append}
use mathlib.Core.Path.{◌≡◌, refl, sym, ap, subst, ◌∙◌}
use mathlib.Core.Bool.{Bool, true, false, cond}
use mathlib.Core.List.{List, [], ◌∷◌, ◌++◌}
use Prim.Native.Nat.{ℕ, suc, ◌+◌, ◌*◌, ◌≤◌}
use native.Mathlib.Omega.{arith}
use native.Mathlib.Nat.{mul_comm, mul_assoc, mul_left_comm}
use borrow.Author.Tests.{eqb-true, ltb-true}
use Rattle.meaning.specs.Lists.{All}
use Rattle.meaning.specs.Refusals.{too_many, not_normal, too_short, no_room}
use Rattle.meaning.specs.Number.{ONE, InRange, smaller, larger, Op1, neg, abs, not', Op2, add, sub, mul, div, rem, le, lt, ne, and, or}
use Rattle.meaning.specs.Bools.{BoolInterval}
use Rattle.meaning.specs.Interval.{Interval, only, Proper, each, PairOp, neg_pair, abs_pair, add_pair, sub_pair, mul_pair, div_pair, rem_pair}
use Rattle.meaning.specs.NumberIntervals.{Set, Normal, normal, flat, intervals, insert, rebuild, each_pair, of_bools, union, set1, set2}
use Rattle.meaning.specs.SetCalls.{factor1, factor2, need2, refusal, refusal2, refused, written, call_returns, returns1, returns2, returns_union}
use Rattle.meaning.specs.Rooms.{most1, most2, most_both, NeverShort}
use Rattle.meaning.specs.Demand2.{Few1, Few2}
use Rattle.laws.proofs.Members.{normal_proper, length_each}
use Rattle.laws.proofs.Join.{insert_case}
use Rattle.laws.proofs.Flat.{length_flat, length_intervals}
use Rattle.laws.proofs.Demand2.{demand2}
use Rattle.laws.proofs.Demand2Calls.{unrefused, unrefused2, argument_ends}

-- ---- the join

insert_length : (a b : ℤ) (s : Set) → length (insert a b s) ≤ suc (length s)
unfolding insert
insert_length a b [] = omega arith
insert_length a b (i ∷ s) =
    insert_case (λ l. length l ≤ suc (suc (length s))) a b i s
    (λ _. omega (arith, insert_length a b s)) (λ _ _. omega arith) (λ _ _. omega (arith, insert_length (smaller a i.lo) (larger b i.hi) s))

rebuild_length : (l : List Interval) → length (rebuild l) ≤ length l
unfolding rebuild
rebuild_length [] = omega arith
rebuild_length (i ∷ l) = omega (arith, insert_length i.lo i.hi (rebuild l), rebuild_length l)

joined_length : (l : List Interval) {n : ℕ} → length l ≤ n → length (flat (rebuild l)) ≤ 2 * n
joined_length l h = omega (arith, rebuild_length l, length_flat (rebuild l))

-- ---- each operation

one_length : (k : ℕ) (f : ℤ → ℤ → Set) → Few1 k f → (a : Set) → Normal a → length (flat (rebuild (each f a))) ≤ 2 * (length a * k)
one_length k f h a n = joined_length (each f a) (length_each Proper k f a (normal_proper a n) h)

pair_length : (k : ℕ) (f : PairOp) → Few2 k f → (a b : Set) → Normal a → Normal b → length (flat (rebuild (each_pair f a b))) ≤ 2 * (length a * (length b * k))
pair_length k f h a b n m =
    joined_length (each_pair f a b)
    (length_each Proper (length b * k) (λ s e. each (f s e) b) a (normal_proper a n) (λ s e p. length_each Proper k (f s e) b (normal_proper b m) (λ t g q. h s e t g p q)))

bools_length : (m : BoolInterval) → length (flat (of_bools m)) ≤ 4
unfolding of_bools flat
bools_length m = go m.bfalse m.btrue
  where
    go : (f t : Bool) → length (flat (cond f (only (pos 0)) [] ++ cond t (only ONE) [])) ≤ 4
    go true true = omega arith
    go true false = omega arith
    go false true = omega arith
    go false false = let none : 0 ≤ 4 = omega arith in none

set1_length : (o : Op1) (left : List ℤ) → Normal (intervals left) → length (flat (set1 o (intervals left))) ≤ most1 o left
unfolding set1 factor1
set1_length neg left n = omega (arith, one_length 2 neg_pair demand2.neg_few (intervals left) n, length_intervals left)
set1_length abs left n = omega (arith, one_length 2 abs_pair demand2.abs_few (intervals left) n, length_intervals left)
set1_length not' left n = bools_length _

-- the factor of all pairs, as 01 writes the need
need_is : (k n m : ℕ) → 2 * (n * (m * k)) ≡ 2 * k * n * m
need_is k n m = ap (λ (x : ℕ). 2 * x) (ap (λ (x : ℕ). n * x) (mul_comm m k) ∙ mul_left_comm n k m) ∙ sym (mul_assoc 2 k (n * m)) ∙ sym (mul_assoc (2 * k) n m)

module _ (left right : List ℤ) (n : Normal (intervals left)) (m : Normal (intervals right)) where
  pairs_length : (k : ℕ) (f : PairOp) → Few2 k f → length (flat (rebuild (each_pair f (intervals left) (intervals right)))) ≤ need2 k left right
  pairs_length k f h =
      subst (λ (x : ℕ). length (flat (rebuild (each_pair f (intervals left) (intervals right)))) ≤ x)
      (need_is k (length (intervals left)) (length (intervals right)) ∙ (λ i. 2 * k * length_intervals left i * length_intervals right i))
      (pair_length k f h (intervals left) (intervals right) n m)

  set2_length : (o : Op2) → length (flat (set2 o (intervals left) (intervals right))) ≤ most2 o left right
  unfolding set2 factor2
  set2_length add = pairs_length 2 add_pair demand2.add_few
  set2_length sub = pairs_length 2 sub_pair demand2.sub_few
  set2_length mul = pairs_length 2 mul_pair demand2.mul_few
  set2_length div = pairs_length 12 div_pair demand2.div_few
  set2_length rem = pairs_length 16 rem_pair demand2.rem_few
  set2_length le = bools_length _
  set2_length lt = bools_length _
  set2_length ne = bools_length _
  set2_length and = bools_length _
  set2_length or = bools_length _

union_length : (left right : List ℤ) → length (flat (union (intervals left) (intervals right))) ≤ length left + length right
unfolding union
union_length left right =
    let a = intervals left in
    let b = intervals right in
    omega (arith, joined_length (a ++ b) {n = length a + length b} (omega (arith, length-append a b)), length_intervals left, length_intervals right)

-- ---- the calls

pub refusal_known : (s : List ℤ) → refusal s ≡ no_room → ⊥
unfolding refusal
refusal_known s = go (ltb 32 (length s)) (normal s)
  where
    go : (a b : Bool) → cond a too_many (cond b 0 not_normal) ≡ no_room → ⊥
    go true b e = omega arith
    go false true e = omega arith
    go false false e = omega arith

refusal2_known : (left right : List ℤ) → refusal2 left right ≡ no_room → ⊥
unfolding refusal2
refusal2_known left right = go (eqb (refusal left) 0)
  where
    go : (a : Bool) → cond a (refusal right) (refusal left) ≡ no_room → ⊥
    go true e = refusal_known right e
    go false e = refusal_known left e

pub never_short : (k need : ℕ) (answer : Set) (flag : Bool) (out work : List ℤ) → (k ≡ no_room → ⊥) → (k ≡ 0 → length (flat answer) ≤ length out)
    → (call_returns k need answer flag out work).number ≡ no_room → ⊥
unfolding call_returns
never_short k need answer flag out work h g = go (eqb k 0) refl (ltb (length work) need) (ltb (length out) (length (flat answer))) refl
  where
    go : (a : Bool) → eqb k 0 ≡ a → (b c : Bool) → ltb (length out) (length (flat answer)) ≡ c
        → (cond a (cond b (refused too_short) (cond c (refused no_room) (written (length (flat answer)) flag))) (refused k)).number ≡ no_room → ⊥
    go true p true c q e = omega arith
    go true p false true q e = omega (arith, ltb-true (length out) (length (flat answer)) q, g (eqb-true k 0 p))
    go true p false false q e = omega arith
    go false p b c q e = h e

pub room1 : (o : Op1) (left : List ℤ) (flag : Bool) (out work : List ℤ) → (refusal left ≡ 0 → All InRange left) → NeverShort (most1 o left) out (returns1 o left flag out work)
room1 o left flag out work r h =
    never_short _ _ _ _ out work (refusal_known left) (λ e. omega (arith, h, set1_length o left (argument_ends left (r e) e).normal))

module _ (left right : List ℤ) (r : refusal2 left right ≡ 0 → All InRange left × All InRange right) where
  -- arguments that are not refused are normal
  pub both_room : (need : ℕ) (answer : Set) (flag : Bool) (out work : List ℤ) → (normal left ≡ true → normal right ≡ true → Normal (intervals left) → Normal (intervals right) → length (flat answer) ≤ length out)
      → (call_returns (refusal2 left right) need answer flag out work).number ≡ no_room → ⊥
  both_room need answer flag out work h =
      never_short _ need answer flag out work (refusal2_known left right)
      (λ e. let u = unrefused2 left right e in h (unrefused left u.0) (unrefused right u.1) (argument_ends left (r e).0 u.0).normal (argument_ends right (r e).1 u.1).normal)

  pub room2 : (o : Op2) (flag : Bool) (out work : List ℤ) → NeverShort (most2 o left right) out (returns2 o left flag right out work)
  room2 o flag out work h = both_room _ _ _ out work (λ _ _ n m. omega (arith, h, set2_length left right n m o))

  pub union_room : (out : List ℤ) → NeverShort (most_both left right) out (returns_union left right out)
  union_room out h = both_room 0 _ false out [] (λ _ _ n m. omega (arith, h, union_length left right))
