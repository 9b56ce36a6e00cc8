-- The tests of the spread, and the order of two, as tests of words. Assumes nothing.
use mathlib.Core.Path.{◌≡◌, sym, ◌∙◌}
use mathlib.Core.Bool.{true, false}
use Prim.Native.Nat.{ℕ, ◌+◌, ◌-◌, ◌*◌, ◌^◌, ◌≤◌, ◌<◌}
use lib.Dec.{eqb, leb}
use lib.IntN.{ℤ, pos, ◌-ℤ◌}
use lib.Signed.{le_z}
use native.Mathlib.Nat.{le_of_lt}
use native.Mathlib.Omega.{arith}
use borrow.Author.Tests.{eqb-true, eqb-false, leb-true, leb-false, le-leb, lt-leb}
use Rattle.std.proofs.Common.{ltb, cond, not, ap, refl, Bool}
use Rattle.std.proofs.lemmas.Bool.{ltb-true, ltb-false}
use Rattle.std.specs.Ordering.{is_lt, nat_cmp, ordering_then, ord_min, ord_max}
use Rattle.meaning.specs.Number.{eq_z, smaller, larger}
use Rattle.meaning.specs.Interval.{far}
use Rattle.laws.proofs.Integers.{zarith, by_test}
use Rattle.wide.specs.declared.product.Wide.{Wide}
use Rattle.wide.specs.contracts.product.WideOrd.TheImpl.{cmp-value}
use Rattle.wide.specs.Exact.{held, number_of}
use Rattle.wide.proofs.Order.{upper}
use Rattle.wide.proofs.Words.{Is, is_minus, is_held}

-- numbers with the same amount added are equal together
pub eq_test : {a b : ℤ} {m n k : ℕ} → Is a m k → Is b n k → eq_z a b ≡ eqb m n
eq_test {a} {b} {m} {n} {k} h l =
    by_test (eqb m n)
    (λ t. let e = eqb-true m n t in let u : eq_z a b ≡ true = omega zarith in u ∙ sym t)
    (λ t. by_test (eq_z a b) (λ u. absurd (eqb-false m n t (omega zarith))) (λ u. u ∙ sym t))

-- the distance is tested on the numbers with the same amount added
module _ {p q : ℤ} {m n k : ℕ} (h : Is p m k) (l : Is q n k) where
  pub far_yes : m + 18446744073709551615 ≤ n → true ≡ far p q
  far_yes o = let d = is_minus l h in let t : le_z (pos (2 ^ 64 - 1)) (q -ℤ p) ≡ true = omega zarith in sym t

  pub far_no : n < m + 18446744073709551615 → false ≡ far p q
  far_no o = let d = is_minus l h in let t : le_z (pos (2 ^ 64 - 1)) (q -ℤ p) ≡ false = omega zarith in sym t

  pub near_words : far p q ≡ false → n < m + 18446744073709551615
  near_words e = let d = is_minus l h in omega zarith

-- and in the same order
le_test : {a b : ℤ} {m n k : ℕ} → Is a m k → Is b n k → le_z a b ≡ leb m n
le_test {a} {b} {m} {n} {k} h l =
    by_test (leb m n)
    (λ t. let e = leb-true m n t in let u : le_z a b ≡ true = omega zarith in u ∙ sym t)
    (λ t. let e = leb-false m n t in let u : le_z a b ≡ false = omega zarith in u ∙ sym t)

-- what two words hold is in the order of the words
pub held_le : (h u k v : ℕ) → le_z (held h u) (held k v) ≡ leb (h * 2 ^ 64 + u) (k * 2 ^ 64 + v)
held_le h u k v = le_test (is_held h u) (is_held k v)

-- ---- the order of two words, the upper first, is that of the numbers that they hold

is_below : (h u k v : ℕ) → u < 2 ^ 64 → v < 2 ^ 64 → is_lt (ordering_then (nat_cmp h k) (nat_cmp u v)) ≡ not (leb (k * 2 ^ 64 + v) (h * 2 ^ 64 + u))
is_below h u k v a b =
    let x = k * 2 ^ 64 + v in
    let y = h * 2 ^ 64 + u in
    by_test (ltb h k) (λ p. let o = lt-leb x y (upper u v a (ltb-true h k p)) in rw (p, o))
    (λ p. let le = ltb-false h k p in
    by_test (eqb h k)
    (λ q. let e = eqb-true h k q in
    by_test (ltb u v)
    (λ r. let l = ltb-true u v r in let o = lt-leb x y (omega arith) in rw (p, q, r, o))
    (λ r. let l = ltb-false u v r in let o = le-leb x y (omega arith) in by_test (eqb u v) (λ t. rw (p, q, r, t, o)) (λ t. rw (p, q, r, t, o))))
    (λ q. let n = eqb-false h k q in let o = le-leb x y (le_of_lt (upper v u b (omega arith))) in rw (p, q, o)))

chosen : (t : Bool) (a b : Wide) → number_of (cond (not t) b a) ≡ cond t (number_of a) (number_of b)
chosen true a b = refl
chosen false a b = refl

Fits : Wide → Type 0
Fits w = w.lo < 2 ^ 64

kept : (t : Bool) (a b : Wide) → Fits a → Fits b → Fits (cond t a b)
kept true a b f g = f
kept false a b f g = g

module _ (a b : Wide) (f : Fits a) (g : Fits b) where
  test_is : is_lt (cmp-value.it b a) ≡ not (le_z (number_of a) (number_of b))
  unfolding Fits
  test_is = is_below b.hi b.lo a.hi a.lo g f ∙ ap not (sym (held_le a.hi a.lo b.hi b.lo))

  min_is : number_of (ord_min cmp-value.it a b) ≡ smaller (number_of a) (number_of b)
  min_is = ap (λ t. number_of (cond t b a)) test_is ∙ chosen (le_z (number_of a) (number_of b)) a b

  max_is : number_of (ord_max cmp-value.it a b) ≡ larger (number_of a) (number_of b)
  max_is = ap (λ t. number_of (cond t a b)) test_is ∙ chosen (le_z (number_of a) (number_of b)) b a

-- the least and the greatest of four
module _ (a b c d : Wide) (f : a.lo < 2 ^ 64) (g : b.lo < 2 ^ 64) (h : c.lo < 2 ^ 64) (i : d.lo < 2 ^ 64) where
  pub least_is : number_of (ord_min cmp-value.it (ord_min cmp-value.it a b) (ord_min cmp-value.it c d))
      ≡ smaller (smaller (number_of a) (number_of b)) (smaller (number_of c) (number_of d))
  unfolding Fits
  least_is = min_is _ _ (kept _ b a g f) (kept _ d c i h) ∙ (λ j. smaller (min_is a b f g j) (min_is c d h i j))

  pub greatest_is : number_of (ord_max cmp-value.it (ord_max cmp-value.it a b) (ord_max cmp-value.it c d))
      ≡ larger (larger (number_of a) (number_of b)) (larger (number_of c) (number_of d))
  unfolding Fits
  greatest_is = max_is _ _ (kept _ a b f g) (kept _ c d h i) ∙ (λ j. larger (max_is a b f g j) (max_is c d h i j))
