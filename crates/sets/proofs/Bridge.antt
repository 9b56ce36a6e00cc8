-- Lists of ends and sets of intervals say the same, so a list in order with the members of another, joined in one pass, is the other's join. Assumes nothing.
use mathlib.Core.Path.{◌≡◌, refl, sym, ap, ◌∙◌}
use mathlib.Core.Logic.{inl, inr, ⊎_elim}
use mathlib.Core.List.{List, [], ◌∷◌}
use mathlib.Core.Bool.{true, ◌&&◌}
use Prim.Native.Nat.{◌%◌}
use native.Mathlib.Omega.{arith}
use lib.ListN.{length}
use lib.IntN.{ℤ}
use lib.Signed.{le_z}
use Rattle.meaning.specs.Number.{InRange}
use Rattle.meaning.specs.NumberIntervals.{Set, ◌∈◌, here, there, Apart, Normal, rebuild, union, flat, intervals, starts_after, normal}
use Rattle.laws.proofs.Integers.{zarith, never, and_both, le_in, le_out, lt_out, suc_parts}
use Rattle.laws.proofs.Members.{AllProper, not_in_none, between, normal_proper, member_range}
use Rattle.laws.proofs.Join.{rebuild_unique, normal_unique}
use Rattle.laws.proofs.Compare.{union_normal, union_holds, union_only}
use Rattle.sorting.specs.Order.{Le, Valid, valid, In, Within, Below, Sorted, merge, join_sorted}
use Rattle.sorting.proofs.Ends.{After, NormalEnds, apart_yes, is_valid}
use Rattle.sorting.proofs.Arrange.{join_normal, join_in, in_join, merge_sorted, merge_in, in_merge, sorted_valid}
use Rattle.sets.specs.Sets.{SetEnds, Pairs}

-- ---- members

pub in_ends : (z : ℤ) (l : List ℤ) → In z l → z ∈ intervals l
unfolding intervals
in_ends z [] i = absurd i
in_ends z (s ∷ []) i = absurd i
in_ends z (s ∷ e ∷ r) (inl i) = here (between (le_out {a = s} {b = z} i.0) (le_out {a = z} {b = e} i.1))
in_ends z (s ∷ e ∷ r) (inr i) = there (in_ends z r i)

pub ends_in : (z : ℤ) (l : List ℤ) → z ∈ intervals l → In z l
unfolding intervals
ends_in z [] m = not_in_none m
ends_in z (s ∷ []) m = not_in_none m
ends_in z (s ∷ e ∷ r) (here b) = inl (le_in b.above, le_in b.below)
ends_in z (s ∷ e ∷ r) (there m) = inr (ends_in z r m)

-- ---- the normal form

after_apart : (e : ℤ) (l : List ℤ) → After e l → Apart e (intervals l)
unfolding intervals
after_apart e [] h = tt
after_apart e (s ∷ []) h = tt
after_apart e (s ∷ f ∷ r) h = lt_out (omega (arith, suc_parts e, h))

pub normal_of_ends : (l : List ℤ) → NormalEnds l → ((z : ℤ) → In z l → InRange z) → Normal (intervals l)
unfolding intervals
normal_of_ends [] n h = tt
normal_of_ends (s ∷ []) n h = tt
normal_of_ends (s ∷ e ∷ r) n h =
    let a = h s (inl (omega arith, n.0)) in
    let b = h e (inl (n.0, omega arith)) in
    (record { low = a.above; ordered = le_out n.0; high = b.below }, after_apart e r n.1, normal_of_ends r n.2 (λ z i. h z (inr i)))

after_yes : (e : ℤ) (r : List ℤ) → starts_after e r ≡ true → After e r
after_yes e [] h = tt
after_yes e (s ∷ r) h = apart_yes e s h

pub normal_ends : (l : List ℤ) → normal l ≡ true → NormalEnds l
unfolding normal
normal_ends [] h = tt
normal_ends (s ∷ []) h = never (sym h)
normal_ends (s ∷ e ∷ r) h =
    let a = and_both (le_z s e) (starts_after e r && normal r) h in
    let b = and_both (starts_after e r) (normal r) a.1 in
    (omega (zarith, a.0), after_yes e r b.0, normal_ends r b.1)

-- ends of a normal set are the flat list of their intervals
pub flat_ends : (l : List ℤ) → NormalEnds l → flat (intervals l) ≡ l
unfolding flat intervals
flat_ends [] n = refl
flat_ends (s ∷ []) n = absurd n
flat_ends (s ∷ e ∷ r) n = ap (λ (t : List ℤ). s ∷ e ∷ t) (flat_ends r n.2)

pub normal_valid : (l : List ℤ) → NormalEnds l → Valid l
normal_valid [] n = tt
normal_valid (s ∷ []) n = n
normal_valid (s ∷ e ∷ r) n = (n.0, normal_valid r n.2)

pub set_valid : (l : List ℤ) → SetEnds l → valid l ≡ true
set_valid l h = is_valid l (normal_valid l (normal_ends l h.test))

-- whatever is normal as a list of ends and has just the members of a normal set is its flat list
pub ends_unique : (l : List ℤ) (s : Set) → NormalEnds l → Normal s → ((z : ℤ) → In z l → z ∈ s) → ((z : ℤ) → z ∈ s → In z l) → l ≡ flat s
ends_unique l s n k v w =
    let h = normal_of_ends l n (λ z i. member_range (normal_proper s k) (v z i)) in
    sym (flat_ends l n) ∙ ap flat (normal_unique (intervals l) s h k (λ z m. v z (ends_in z l m)) (λ z m. in_ends z l (w z m)))

-- ---- the join

proper_valid : (l : List ℤ) → length l % 2 ≡ 0 → AllProper (intervals l) → Valid l
unfolding intervals
proper_valid [] h p = tt
proper_valid (s ∷ []) h p = absurd (omega arith)
proper_valid (s ∷ e ∷ r) h p = (le_in p.0.ordered, proper_valid r (omega arith) p.1)

pub pairs_valid : {l : List ℤ} → Pairs l → valid l ≡ true
pairs_valid {l} p = is_valid l (proper_valid l p.even p.proper)

-- a list in order with the members of l, joined in one pass, is l's join
pub join_rebuild : (l m : List ℤ) → AllProper (intervals l) → Sorted m → Within m l → Within l m → join_sorted m ≡ flat (rebuild (intervals l))
join_rebuild l m p n v w =
    let k = join_normal m n in
    let h = normal_of_ends (join_sorted m) k (λ z i. member_range p (in_ends z l (v z (join_in z m n i)))) in
    sym (flat_ends (join_sorted m) k)
    ∙ ap flat
    (rebuild_unique (intervals l) (intervals (join_sorted m)) p h
    (λ z i. in_ends z l (v z (join_in z m n (ends_in z (join_sorted m) i))))
    (λ z i. in_ends z (join_sorted m) (in_join z m n (w z (ends_in z l i)))))

-- ---- the union

after_below : (s e : ℤ) (r : List ℤ) → Le s e → After e r → Below s r
after_below s e [] h a = tt
after_below s e (x ∷ r) h a = omega (arith, h, a)

normal_sorted : (l : List ℤ) → NormalEnds l → Sorted l
normal_sorted [] n = tt
normal_sorted (s ∷ []) n = n
normal_sorted (s ∷ e ∷ r) n = (n.0, after_below s e r n.0 n.1, normal_sorted r n.2)

pub united : (l r : List ℤ) → SetEnds l → SetEnds r → join_sorted (merge l r) ≡ flat (union (intervals l) (intervals r))
united l r a b =
    let p = normal_sorted l (normal_ends l a.test) in
    let q = normal_sorted r (normal_ends r b.test) in
    let n = merge_sorted l r p q in
    ends_unique (join_sorted (merge l r)) (union (intervals l) (intervals r)) (join_normal (merge l r) n) (union_normal (intervals l) (intervals r) a.is b.is)
    (λ z i. union_holds (intervals l) (intervals r) a.is b.is
    (⊎_elim (λ j. inl (in_ends z l j)) (λ j. inr (in_ends z r j)) (merge_in z l r (join_in z (merge l r) n i))))
    (λ z m. in_join z (merge l r) n
    (in_merge z l r (sorted_valid r q) (⊎_elim (λ j. inl (ends_in z l j)) (λ j. inr (ends_in z r j)) (union_only (intervals l) (intervals r) a.is b.is m))))
