-- The join: it has just the members of its intervals and is normal, and a normal set is fixed by its members, so nothing else is the join. Assumes nothing.
use lib.IntN.{ℤ, suc_ℤ}
use lib.Signed.{le_z, ◌≤ℤ◌, ◌<ℤ◌, ≤ℤ_refl}
use mathlib.Core.Path.{◌≡◌, refl}
use mathlib.Core.Bool.{cond}
use mathlib.Core.Logic.{◌⊎◌, inl, inr, ⊎_elim}
use mathlib.Core.List.{List, [], ◌∷◌}
use Rattle.meaning.specs.Number.{MIN, MAX, Between, smaller, larger}
use Rattle.meaning.specs.Interval.{Interval, Proper}
use Rattle.meaning.specs.NumberIntervals.{Set, ◌∈◌, here, there, apart, Apart, Normal, insert, rebuild}
use Rattle.laws.proofs.Integers.{zarith, by_test, cond_case, suc_parts, smaller_case, larger_case, smaller_le, larger_ge}
use Rattle.laws.proofs.Members.{AllProper, not_in_none, between}

-- ---- the three cases of insert

pub insert_case
    : (P : Set → Type 0) (a b : ℤ) (i : Interval) (s : Set)
    → (suc_ℤ i.hi <ℤ a → P (i ∷ insert a b s))
    → (a ≤ℤ suc_ℤ i.hi → suc_ℤ b <ℤ i.lo → P (record { lo = a; hi = b } ∷ i ∷ s))
    → (a ≤ℤ suc_ℤ i.hi → i.lo ≤ℤ suc_ℤ b → P (insert (smaller a i.lo) (larger b i.hi) s))
    → P (insert a b (i ∷ s))
unfolding insert
insert_case P a b i s f g h =
    cond_case P (apart i.hi a) (i ∷ insert a b s) (cond (apart b i.lo) (record { lo = a; hi = b } ∷ i ∷ s) (insert (smaller a i.lo) (larger b i.hi) s))
    (λ t. f (omega zarith))
    (λ t. cond_case P (apart b i.lo) (record { lo = a; hi = b } ∷ i ∷ s) (insert (smaller a i.lo) (larger b i.hi) s)
    (λ u. g (omega zarith) (omega zarith))
    (λ u. h (omega zarith) (omega zarith)))

-- ---- insert keeps a set normal

joined_proper : {a b : ℤ} (i : Interval) → Proper a b → Proper i.lo i.hi → Proper (smaller a i.lo) (larger b i.hi)
joined_proper {a} {b} i p q = record {
  low = smaller_case (λ l. MIN ≤ℤ l) a i.lo (λ _. p.low) (λ _. q.low);
  ordered = omega (zarith, smaller_le a i.lo, larger_ge b i.hi);
  high = larger_case (λ h. h ≤ℤ MAX) b i.hi (λ _. q.high) (λ _. p.high);
}

-- what is right of an interval that starts after f is right of f too
apart_past : (f : ℤ) (i : Interval) (s : Set) → Proper i.lo i.hi → suc_ℤ f <ℤ i.lo → Apart i.hi s → Apart f s
apart_past f i [] p h a = tt
apart_past f i (j ∷ s) p h a = omega (zarith, p.ordered, suc_parts i.hi)

insert_apart : (f a b : ℤ) (s : Set) → suc_ℤ f <ℤ a → Normal s → Apart f s → Apart f (insert a b s)
unfolding insert
insert_apart f a b [] h n k = h
insert_apart f a b (i ∷ s) h n k =
    insert_case (λ l. Apart f l) a b i s
    (λ _. k)
    (λ _ _. h)
    (λ _ _. insert_apart f (smaller a i.lo) (larger b i.hi) s (smaller_case (λ l. suc_ℤ f <ℤ l) a i.lo (λ _. h) (λ _. k)) n.2 (apart_past f i s n.0 k n.1))

pub insert_normal : (a b : ℤ) (s : Set) → Proper a b → Normal s → Normal (insert a b s)
unfolding insert
insert_normal a b [] p n = (p, tt, tt)
insert_normal a b (i ∷ s) p n =
    insert_case Normal a b i s
    (λ h. (n.0, insert_apart i.hi a b s h n.2 n.1, insert_normal a b s p n.2))
    (λ _ h. (p, h, n))
    (λ _ _. insert_normal (smaller a i.lo) (larger b i.hi) s (joined_proper i p n.0) n.2)

-- ---- what insert holds: the interval, and what the set held

pub in_insert : {z : ℤ} (a b : ℤ) (s : Set) → Between a z b → z ∈ insert a b s
unfolding insert
in_insert a b [] m = here m
in_insert {z} a b (i ∷ s) m =
    insert_case (λ l. z ∈ l) a b i s
    (λ _. there (in_insert a b s m))
    (λ _ _. here m)
    (λ _ _. in_insert (smaller a i.lo) (larger b i.hi) s (between (omega (zarith, m.above, smaller_le a i.lo)) (omega (zarith, m.below, larger_ge b i.hi))))

pub insert_keeps : {z : ℤ} (a b : ℤ) {s : Set} → z ∈ s → z ∈ insert a b s
unfolding insert
insert_keeps {z} a b (here {i} {s} m) =
    insert_case (λ l. z ∈ l) a b i s
    (λ _. here m)
    (λ _ _. there (here m))
    (λ _ _. in_insert (smaller a i.lo) (larger b i.hi) s (between (omega (zarith, m.above, smaller_le a i.lo)) (omega (zarith, m.below, larger_ge b i.hi))))
insert_keeps {z} a b (there {i} {s} m) =
    insert_case (λ l. z ∈ l) a b i s
    (λ _. there (insert_keeps a b m))
    (λ _ _. there (there m))
    (λ _ _. insert_keeps (smaller a i.lo) (larger b i.hi) m)

-- two intervals with no number missing between them: what is in the joined one is in one of the two
in_joined : {z a b s e : ℤ} → a ≤ℤ suc_ℤ e → s ≤ℤ suc_ℤ b → Between (smaller a s) z (larger b e) → Between a z b ⊎ Between s z e
in_joined {z} {a} {b} {s} {e} h k m =
    smaller_case (λ l. l ≤ℤ z → Between a z b ⊎ Between s z e) a s
    (λ p x. larger_case (λ g. z ≤ℤ g → Between a z b ⊎ Between s z e) b e
    (λ q y. by_test (le_z z b) (λ t. inl (between x (omega zarith))) (λ t. inr (between (omega (zarith, suc_parts b)) y)))
    (λ q y. inl (between x y))
    m.below)
    (λ p x. larger_case (λ g. z ≤ℤ g → Between a z b ⊎ Between s z e) b e
    (λ q y. inr (between x y))
    (λ q y. by_test (le_z z e) (λ t. inr (between x (omega zarith))) (λ t. inl (between (omega (zarith, suc_parts e)) y)))
    m.below)
    m.above

pub insert_in : {z : ℤ} (a b : ℤ) (s : Set) → z ∈ insert a b s → Between a z b ⊎ (z ∈ s)
unfolding insert
insert_in a b [] (here m) = inl m
insert_in a b [] (there m) = inr m
insert_in {z} a b (i ∷ s) m =
    insert_case (λ l. z ∈ l → Between a z b ⊎ (z ∈ (i ∷ s))) a b i s
    (λ _ k. first (insert_in a b s) k)
    (λ _ _ k. second k)
    (λ h g k. third h g (insert_in (smaller a i.lo) (larger b i.hi) s k))
    m
  where
    first : (z ∈ insert a b s → Between a z b ⊎ (z ∈ s)) → z ∈ (i ∷ insert a b s) → Between a z b ⊎ (z ∈ (i ∷ s))
    first r (here k) = inr (here k)
    first r (there k) = ⊎_elim (λ j. inl j) (λ j. inr (there j)) (r k)

    second : z ∈ (record { lo = a; hi = b } ∷ i ∷ s) → Between a z b ⊎ (z ∈ (i ∷ s))
    second (here k) = inl k
    second (there k) = inr k

    third : a ≤ℤ suc_ℤ i.hi → i.lo ≤ℤ suc_ℤ b → Between (smaller a i.lo) z (larger b i.hi) ⊎ (z ∈ s) → Between a z b ⊎ (z ∈ (i ∷ s))
    third h g (inl j) = ⊎_elim (λ k. inl k) (λ k. inr (here k)) (in_joined h g j)
    third h g (inr j) = inr (there j)

-- ---- the join of a list

pub rebuild_normal : (l : List Interval) → AllProper l → Normal (rebuild l)
unfolding rebuild
rebuild_normal [] p = tt
rebuild_normal (i ∷ l) p = insert_normal i.lo i.hi (rebuild l) p.0 (rebuild_normal l p.1)

pub in_rebuild : {z : ℤ} {l : List Interval} → z ∈ l → z ∈ rebuild l
unfolding rebuild
in_rebuild (here {i} {s} m) = in_insert i.lo i.hi (rebuild s) m
in_rebuild (there {i} {s} m) = insert_keeps i.lo i.hi (in_rebuild m)

pub rebuild_in : {z : ℤ} (l : List Interval) → AllProper l → z ∈ rebuild l → z ∈ l
unfolding rebuild
rebuild_in [] p m = m
rebuild_in (i ∷ l) p m = ⊎_elim (λ k. here k) (λ k. there (rebuild_in l p.1 k)) (insert_in i.lo i.hi (rebuild l) m)

-- ---- a normal set is fixed by its members

-- each member of a is a member of b
abbrev pub Inside : Set → Set → Type 0
Inside a b = (z : ℤ) → z ∈ a → z ∈ b

-- all members right of e are past the number after it
pub past : (e : ℤ) {z : ℤ} (s : Set) → Apart e s → Normal s → z ∈ s → suc_ℤ e <ℤ z
past e [] h n m = not_in_none m
past e (i ∷ s) h n (here m) = omega (zarith, m.above)
past e (i ∷ s) h n (there m) = omega (zarith, n.0.ordered, suc_parts i.hi, past i.hi s n.1 n.2 m)

-- the first interval has the least start
least_start : {z : ℤ} (i : Interval) (s : Set) → Normal (i ∷ s) → z ∈ (i ∷ s) → i.lo ≤ℤ z
least_start i s n (here m) = m.above
least_start i s n (there m) = omega (zarith, n.0.ordered, suc_parts i.hi, past i.hi s n.1 n.2 m)

-- the other first end is not past this one, since the number after this end is missing
end_reached : (i j : Interval) (s t : Set) → Normal (i ∷ s) → j.lo ≤ℤ i.lo → Inside (j ∷ t) (i ∷ s) → j.hi ≤ℤ i.hi
end_reached i j s t n h w =
    by_test (le_z j.hi i.hi)
    (λ e. omega zarith)
    (λ e. go (w (suc_ℤ i.hi) (here (between (omega (zarith, n.0.ordered, suc_parts i.hi)) (omega (zarith, suc_parts i.hi))))))
  where
    go : suc_ℤ i.hi ∈ (i ∷ s) → j.hi ≤ℤ i.hi
    go (here m) = omega (zarith, m.below, suc_parts i.hi)
    go (there m) = omega (zarith, past i.hi s n.1 n.2 m, suc_parts i.hi)

rest_inside : (i j : Interval) (s t : Set) → Normal (i ∷ s) → j.hi ≤ℤ i.hi → Inside (i ∷ s) (j ∷ t) → Inside s t
rest_inside i j s t n h w z m = go (w z (there m))
  where
    go : z ∈ (j ∷ t) → z ∈ t
    go (here k) = absurd (omega (zarith, k.below, suc_parts i.hi, past i.hi s n.1 n.2 m))
    go (there k) = k

first_in : (i : Interval) (s : Set) → Normal (i ∷ s) → i.lo ∈ (i ∷ s)
first_in i s n = here (between (≤ℤ_refl i.lo) n.0.ordered)

pub normal_unique : (a b : Set) → Normal a → Normal b → ((z : ℤ) → z ∈ a → z ∈ b) → ((z : ℤ) → z ∈ b → z ∈ a) → a ≡ b
normal_unique [] [] n k v w = refl
normal_unique [] (j ∷ t) n k v w = not_in_none (w j.lo (first_in j t k))
normal_unique (i ∷ s) [] n k v w = not_in_none (v i.lo (first_in i s n))
normal_unique (i ∷ s) (j ∷ t) n k v w =
    let a = least_start j t k (v i.lo (first_in i s n)) in
    let b = least_start i s n (w j.lo (first_in j t k)) in
    let f = end_reached i j s t n a w in
    let g = end_reached j i t s k b v in
    let p : i.lo ≡ j.lo = omega zarith in
    let q : i.hi ≡ j.hi = omega zarith in
    let r : s ≡ t = normal_unique s t n.2 k.2 (rest_inside i j s t n f v) (rest_inside j i t s k g w) in
    λ x. record { lo = p x; hi = q x } ∷ r x

-- whatever is normal and has just the members of a list is its join
pub rebuild_unique : (l m : List Interval) → AllProper l → Normal m → ((z : ℤ) → z ∈ m → z ∈ l) → ((z : ℤ) → z ∈ l → z ∈ m) → m ≡ rebuild l
rebuild_unique l m p n v w =
    normal_unique m (rebuild l) n (rebuild_normal l p) (λ z k. in_rebuild (v z k)) (λ z k. w z (rebuild_in l p k))
