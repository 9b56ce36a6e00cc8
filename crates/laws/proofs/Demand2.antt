-- Demand 2, proved: each answer is the join of the results of all intervals or pairs, so it has just their members, and a pair's results are the point results of its members.
-- Assumes nothing.
use lib.IntN.{ℤ, pos}
use lib.Signed.{rem_z}
use mathlib.Core.Path.{◌≡◌, refl, ap, subst}
use mathlib.Core.Bool.{cond}
use mathlib.Core.List.{List}
use Rattle.std.specs.Prelude.{Option, None, Some}
use Prim.Native.Nat.{ℕ}
use native.Mathlib.Omega.{arith}
use Rattle.meaning.specs.Number.{Between, least_product, greatest_product, eq_z, Op1, neg, abs, not', Op2, add, sub, mul, div, rem, le, lt, ne, and, or, negative, absolute, sum, difference, ratio, quotient, remainder, point1, point2}
use Rattle.meaning.specs.Interval.{Interval, span, Proper, each, PairOp, neg_pair, abs_pair, add_pair, sub_pair, uncut_pair, mul_pair, div_pair, rem_pair}
use Rattle.meaning.specs.NumberIntervals.{Set, ◌∈◌, here, Normal, rebuild, intersect, each_pair, set1, set2, uncut_mul, flag1, flag2}
use Rattle.meaning.specs.Demand2.{Holds1, Holds2, Only1, Only2, FlagIs, Demand2}
use Rattle.laws.proofs.Integers.{cond_case, eq_z_not, or_right}
use Rattle.laws.proofs.Members.{AllProper, in_span, normal_proper, in_each, all_each, in_pairs, in_pairs_of, all_pairs, each_origin}
use Rattle.laws.proofs.Join.{in_rebuild, rebuild_in, rebuild_normal, normal_unique}
use Rattle.laws.proofs.Sums.{From2, add_holds, add_only, add_proper, add_few, sub_holds, sub_only, sub_proper, sub_few}
use Rattle.laws.proofs.Signs.{From1, neg_holds, neg_only, neg_proper, neg_few, abs_holds, abs_only, abs_proper, abs_few}
use Rattle.laws.proofs.Products.{product_range, proper_products, uncut_proper, mul_in, mul_from, mul_holds, mul_proper, mul_kept, mul_few}
use Rattle.laws.proofs.Exact.{only_not, only_le, only_lt, ne_only, and_only, or_only}
use Rattle.laws.proofs.Quotients.{div_holds, div_proper, div_few}
use Rattle.laws.proofs.Remainders.{rem_holds, rem_proper, rem_rules}
use Rattle.laws.proofs.RemainderCounts.{rem_few}
use Rattle.laws.proofs.Compare.{bools_normal, le_holds, lt_holds, ne_holds, and_holds, or_holds, not_holds, union_holds, union_only, union_normal, intersect_holds, intersect_only, intersect_normal, zero_found_lem, zero_found_only}

-- ---- the operations that join the results of each interval

module _ (f : ℤ → ℤ → List Interval) (proper : (s e : ℤ) → Proper s e → AllProper (f s e)) (a : Set) (n : Normal a) where
  results1_proper : AllProper (each f a)
  results1_proper = all_each Proper Proper f a (normal_proper a n) proper

  joined1_normal : Normal (rebuild (each f a))
  joined1_normal = rebuild_normal (each f a) results1_proper

  joined1_only : (op : ℤ → ℤ) {z : ℤ} → ((s e : ℤ) → Proper s e → z ∈ f s e → From1 op s e z) → z ∈ rebuild (each f a) → (x : ℤ) × (x ∈ a) × (op x ≡ z)
  joined1_only op k m =
      let o = each_origin Proper f a (normal_proper a n) (rebuild_in (each f a) results1_proper m) in
      let r = k o.from o.to o.has o.result in
      (r.member, o.members r.member r.member_in, r.gives)

joined1_holds : (f : ℤ → ℤ → List Interval) (a : Set) → Normal a → {x z : ℤ} → x ∈ a → ((s e : ℤ) → Proper s e → Between s x e → z ∈ f s e) → z ∈ rebuild (each f a)
joined1_holds f a n m k = in_rebuild (in_each Proper f a (normal_proper a n) m k)

-- ---- and of each pair

module _ (f : PairOp) (proper : (s e t g : ℤ) → Proper s e → Proper t g → AllProper (f s e t g)) (a b : Set) (n : Normal a) (k : Normal b) where
  results2_proper : AllProper (each_pair f a b)
  results2_proper = all_pairs Proper f a b (normal_proper a n) (normal_proper b k) proper

  joined2_normal : Normal (rebuild (each_pair f a b))
  joined2_normal = rebuild_normal (each_pair f a b) results2_proper

  joined2_only : (op : ℤ → ℤ → ℤ) {z : ℤ} → ((s e t g : ℤ) → Proper s e → Proper t g → z ∈ f s e t g → From2 op s e t g z) → z ∈ rebuild (each_pair f a b) → (x y : ℤ) × (x ∈ a) × (y ∈ b) × (op x y ≡ z)
  joined2_only op h m =
      let o = each_origin Proper (λ s e. each (f s e) b) a (normal_proper a n) (rebuild_in (each_pair f a b) results2_proper m) in
      let q = each_origin Proper (f o.from o.to) b (normal_proper b k) o.result in
      let r = h o.from o.to q.from q.to o.has q.has q.result in
      (r.left, r.right, o.members r.left r.left_in, q.members r.right r.right_in, r.gives)

joined2_holds : (f : PairOp) (a b : Set) → Normal a → Normal b → {x y z : ℤ} → x ∈ a → y ∈ b → ((s e t g : ℤ) → Proper s e → Proper t g → Between s x e → Between t y g → z ∈ f s e t g) → z ∈ rebuild (each_pair f a b)
joined2_holds f a b n k mx my h = in_rebuild (in_pairs f a b (normal_proper a n) (normal_proper b k) mx my h)

-- ---- every answer is normal

normal1 : (o : Op1) (a : Set) → Normal a → Normal (set1 o a)
unfolding set1
normal1 neg a n = joined1_normal neg_pair (λ s e p. neg_proper p) a n
normal1 abs a n = joined1_normal abs_pair (λ s e p. abs_proper p) a n
normal1 not' a n = bools_normal _

normal2 : (o : Op2) (a b : Set) → Normal a → Normal b → Normal (set2 o a b)
unfolding set2
normal2 add a b n k = joined2_normal add_pair (λ s e t f p q. add_proper s e t f) a b n k
normal2 sub a b n k = joined2_normal sub_pair (λ s e t f p q. sub_proper s e t f) a b n k
normal2 mul a b n k = joined2_normal mul_pair (λ s e t f p q. mul_proper p q) a b n k
normal2 div a b n k = joined2_normal div_pair (λ s e t f p q. div_proper p q) a b n k
normal2 rem a b n k = joined2_normal rem_pair (λ s e t f p q. rem_proper p q) a b n k
normal2 le a b n k = bools_normal _
normal2 lt a b n k = bools_normal _
normal2 ne a b n k = bools_normal _
normal2 and a b n k = bools_normal _
normal2 or a b n k = bools_normal _

-- ---- every point result is in

holds1 : (o : Op1) → Holds1 o
unfolding set1 point1
holds1 neg a z n r = subst (λ (w : ℤ). w ∈ rebuild (each neg_pair a)) r.gives (joined1_holds neg_pair a n r.member_in (λ s e p b. neg_holds p b))
holds1 abs a z n r = subst (λ (w : ℤ). w ∈ rebuild (each abs_pair a)) r.gives (joined1_holds abs_pair a n r.member_in (λ s e p b. abs_holds p b))
holds1 not' a z n r = subst (λ (w : ℤ). w ∈ set1 not' a) r.gives (not_holds r.member_in)

same : {x z : ℤ} {s : Set} → x ∈ s → Some x ≡ Some z → z ∈ s
same {x} {z} {s} m e = let q : x ≡ z = cc in subst (λ (w : ℤ). w ∈ s) q m

-- a result of div or rem has a divisor other than 0
divided : {z : ℤ} (y v : ℤ) → cond (eq_z y (pos 0)) None (Some v) ≡ Some z → (y ≡ pos 0 → ⊥) × (Some v ≡ Some z)
divided {z} y v e =
    cond_case (λ (o : Option ℤ). o ≡ Some z → (y ≡ pos 0 → ⊥) × (Some v ≡ Some z)) (eq_z y (pos 0)) None (Some v)
    (λ t k. let q : ◌≡◌ {A = ℕ} 0 1 = cc in absurd (let w : ⊥ = omega arith in w))
    (λ t k. (eq_z_not t, k))
    e

holds2 : (o : Op2) → Holds2 o
unfolding set2 point2 quotient remainder
holds2 add a b z n k r = same (joined2_holds add_pair a b n k r.left_in r.right_in (λ s e t f p q bx by. add_holds bx by)) r.gives
holds2 sub a b z n k r = same (joined2_holds sub_pair a b n k r.left_in r.right_in (λ s e t f p q bx by. sub_holds bx by)) r.gives
holds2 mul a b z n k r = same (joined2_holds mul_pair a b n k r.left_in r.right_in (λ s e t f p q bx by. mul_holds bx by)) r.gives
holds2 div a b z n k r =
    let h = divided r.right (ratio r.left r.right) r.gives in
    same (joined2_holds div_pair a b n k r.left_in r.right_in (λ s e t f p q bx by. div_holds bx by h.0)) h.1
holds2 rem a b z n k r =
    let h = divided r.right (rem_z r.left r.right) r.gives in
    same (joined2_holds rem_pair a b n k r.left_in r.right_in (λ s e t f p q bx by. rem_holds p q bx by h.0)) h.1
holds2 le a b z n k r = same (le_holds r.left_in r.right_in) r.gives
holds2 lt a b z n k r = same (lt_holds r.left_in r.right_in) r.gives
holds2 ne a b z n k r = same (ne_holds r.left_in r.right_in) r.gives
holds2 and a b z n k r = same (and_holds r.left_in r.right_in) r.gives
holds2 or a b z n k r = same (or_holds r.left_in r.right_in) r.gives

-- ---- neg, abs, add, sub: every member is a point result

only_neg : Only1 neg
unfolding set1 point1
only_neg a z n m =
    let r = joined1_only neg_pair (λ s e p. neg_proper p) a n negative (λ s e p k. neg_only p k) m in
    record { member = r.0; member_in = r.1; gives = r.2 }

only_abs : Only1 abs
unfolding set1 point1
only_abs a z n m =
    let r = joined1_only abs_pair (λ s e p. abs_proper p) a n absolute (λ s e p k. abs_only p k) m in
    record { member = r.0; member_in = r.1; gives = r.2 }

only_add : Only2 add
unfolding set2 point2
only_add a b z n k m =
    let r = joined2_only add_pair (λ s e t f p q. add_proper s e t f) a b n k sum (λ s e t f p q j. add_only p q j) m in
    record { left = r.0; right = r.1; left_in = r.2; right_in = r.3; gives = ap Some r.4 }

only_sub : Only2 sub
unfolding set2 point2
only_sub a b z n k m =
    let r = joined2_only sub_pair (λ s e t f p q. sub_proper s e t f) a b n k difference (λ s e t f p q j. sub_only p q j) m in
    record { left = r.0; right = r.1; left_in = r.2; right_in = r.3; gives = ap Some r.4 }

-- ---- mul: just the members of 01's answer that are in the range of products

products_normal : Normal (span least_product greatest_product)
products_normal = (proper_products, tt, tt)

module _ (a b : Set) (n : Normal a) (k : Normal b) where
  cut_proper : AllProper (each_pair mul_pair a b)
  cut_proper = results2_proper mul_pair (λ s e t f p q. mul_proper p q) a b n k

  uncut_all : AllProper (each_pair uncut_pair a b)
  uncut_all = results2_proper uncut_pair (λ s e t f p q. uncut_proper s e t f) a b n k

  uncut_normal : Normal (uncut_mul a b)
  uncut_normal = rebuild_normal (each_pair uncut_pair a b) uncut_all

  mul_range : {z : ℤ} → z ∈ set2 mul a b → Between least_product z greatest_product
  unfolding set2
  mul_range m =
      let o = each_origin Proper (λ s e. each (mul_pair s e) b) a (normal_proper a n) (rebuild_in (each_pair mul_pair a b) cut_proper m) in
      let q = each_origin Proper (mul_pair o.from o.to) b (normal_proper b k) o.result in
      (mul_from o.from o.to q.from q.to q.result).1

  mul_into : {z : ℤ} → z ∈ set2 mul a b → z ∈ uncut_mul a b
  unfolding set2
  mul_into m =
      in_rebuild (in_pairs_of mul_pair uncut_pair a b (normal_proper a n) (normal_proper b k) (λ s e t f h. (mul_from s e t f h).0) (rebuild_in (each_pair mul_pair a b) cut_proper m))

  mul_back : {z : ℤ} → z ∈ uncut_mul a b → Between least_product z greatest_product → z ∈ set2 mul a b
  unfolding set2
  mul_back m r =
      in_rebuild (in_pairs_of uncut_pair mul_pair a b (normal_proper a n) (normal_proper b k) (λ s e t f h. mul_in s e t f h r) (rebuild_in (each_pair uncut_pair a b) uncut_all m))

  mul_cut : set2 mul a b ≡ intersect (uncut_mul a b) (span least_product greatest_product)
  mul_cut =
      normal_unique (set2 mul a b) (intersect (uncut_mul a b) (span least_product greatest_product))
      (normal2 mul a b n k)
      (intersect_normal (uncut_mul a b) (span least_product greatest_product) uncut_normal products_normal)
      (λ z m. intersect_holds (uncut_mul a b) (span least_product greatest_product) uncut_normal products_normal (mul_into m) (here (mul_range m)))
      (λ z m. let h = intersect_only (uncut_mul a b) (span least_product greatest_product) uncut_normal products_normal m in mul_back h.0 (in_span h.1))

-- ---- the flag

flag_div : FlagIs div
unfolding flag2
flag_div = record { kept = λ a b. refl; set_if = λ flag a b x n k m h. or_right flag (zero_found_lem a b m h); only_if = λ a b n k e. zero_found_only a b n e }

flag_rem : FlagIs rem
unfolding flag2
flag_rem = record { kept = λ a b. refl; set_if = λ flag a b x n k m h. or_right flag (zero_found_lem a b m h); only_if = λ a b n k e. zero_found_only a b n e }

-- Demand 2: nothing left open
pub demand2 : Demand2
unfolding flag1 flag2
demand2 = record {
  holds1 = holds1;
  holds2 = holds2;
  neg_only = only_neg;
  abs_only = only_abs;
  add_only = only_add;
  sub_only = only_sub;
  not_only = only_not;
  le_only = only_le;
  lt_only = only_lt;
  ne_only = λ a b x y z n k mx my m. ne_only a b z n k mx my m;
  and_only = λ a b x y z n k mx my m. and_only a b z n k mx my m;
  or_only = λ a b x y z n k mx my m. or_only a b z n k mx my m;
  product_range = product_range;
  mul_range = λ a b z n k m. mul_range a b n k m;
  mul_cut = mul_cut;
  mul_kept = mul_kept;
  union_holds = λ a b z n k m. union_holds a b n k m;
  union_only = λ a b z n k m. union_only a b n k m;
  intersect_holds = λ a b z n k m h. intersect_holds a b n k m h;
  intersect_only = λ a b z n k m. intersect_only a b n k m;
  normal1 = normal1;
  normal2 = normal2;
  union_normal = union_normal;
  intersect_normal = intersect_normal;
  div_flag = flag_div;
  rem_flag = flag_rem;
  neg_flag = λ flag. refl;
  abs_flag = λ flag. refl;
  add_flag = λ flag a b. refl;
  sub_flag = λ flag a b. refl;
  mul_flag = λ flag a b. refl;
  not_flag = λ flag. refl;
  le_flag = λ flag a b. refl;
  lt_flag = λ flag a b. refl;
  ne_flag = λ flag a b. refl;
  and_flag = λ flag a b. refl;
  or_flag = λ flag a b. refl;
  neg_few = λ s e p. neg_few s e;
  abs_few = λ s e p. abs_few s e;
  add_few = λ s e t f p q. add_few s e t f;
  sub_few = λ s e t f p q. sub_few s e t f;
  mul_few = λ s e t f p q. mul_few s e t f;
  div_few = λ s e t f p q. div_few p q;
  rem_few = λ s e t f p q. rem_few p q;
  rem_rules = λ s e t f p q. rem_rules p q;
  join_normal = rebuild_normal;
  join_holds = λ l z p m. in_rebuild m;
  join_only = λ l z p m. rebuild_in l p m;
  unique = normal_unique;
}
