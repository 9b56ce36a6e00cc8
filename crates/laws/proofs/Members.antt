-- Members, bounds and number of the intervals of a list: of an append, and of the results of an operation on each interval or each pair. Assumes nothing.
use lib.IntN.{ℤ}
use lib.ListN.{length, length-append}
use lib.Signed.{◌≤ℤ◌, ≤ℤ_refl}
use mathlib.Core.Path.{◌≡◌, refl, sym, ap₂}
use mathlib.Core.Bool.{true}
use mathlib.Core.Logic.{◌⊎◌, inl, inr, ⊎_elim}
use mathlib.Core.List.{List, [], ◌∷◌, ◌++◌}
use Prim.Native.Nat.{ℕ, ◌*◌, ◌≤◌}
use native.Mathlib.Omega.{arith}
use Rattle.meaning.specs.Lists.{All}
use Rattle.meaning.specs.Number.{Between, within, InRange}
use Rattle.meaning.specs.Interval.{Interval, span, only, Proper, each, PairOp}
use Rattle.meaning.specs.NumberIntervals.{Set, ◌∈◌, here, there, contains, Normal, each_pair}
use Rattle.laws.proofs.Integers.{zarith, never, or_left, or_right, or_cases, between_within, from_within}

-- ---- members of a list by its parts

pub not_in_none {ℓ} : {X : Type ℓ} {z : ℤ} → z ∈ [] → X
not_in_none m = absurd (elim m [ ])

pub between : {lo z hi : ℤ} → lo ≤ℤ z → z ≤ℤ hi → Between lo z hi
between h k = record { above = h; below = k }

pub in_span : {lo hi z : ℤ} → z ∈ span lo hi → Between lo z hi
in_span (here b) = b
in_span (there m) = not_in_none m

pub in_only : (z : ℤ) → z ∈ only z
in_only z = here (between (≤ℤ_refl z) (≤ℤ_refl z))

pub in_left : {z : ℤ} {a : List Interval} (b : List Interval) → z ∈ a → z ∈ a ++ b
in_left b (here h) = here h
in_left b (there m) = there (in_left b m)

pub in_right : {z : ℤ} (a : List Interval) {b : List Interval} → z ∈ b → z ∈ a ++ b
in_right [] m = m
in_right (i ∷ a) m = there (in_right a m)

pub in_either : {z : ℤ} (a : List Interval) {b : List Interval} → z ∈ a ++ b → (z ∈ a) ⊎ (z ∈ b)
in_either [] m = inr m
in_either (i ∷ a) (here h) = inl (here h)
in_either (i ∷ a) (there m) = elim (in_either a m) [ inl k ↦ inl (there k) | inr k ↦ inr k ]

-- the test `contains`
pub in_contains : {z : ℤ} {s : Set} → z ∈ s → contains z s ≡ true
unfolding contains
in_contains {z} (here {i} {s} b) = or_left (contains z s) (between_within b)
in_contains {z} (there {i} {s} m) = or_right (within i.lo z i.hi) (in_contains m)

pub contains_in : (z : ℤ) (s : Set) → contains z s ≡ true → z ∈ s
unfolding contains
contains_in z [] e = never (sym e)
contains_in z (i ∷ s) e = go (or_cases (within i.lo z i.hi) (contains z s) e) (contains_in z s)
  where
    go : (within i.lo z i.hi ≡ true) ⊎ (contains z s ≡ true) → (contains z s ≡ true → z ∈ s) → z ∈ (i ∷ s)
    go (inl h) r = here (from_within i.lo z i.hi h)
    go (inr h) r = there (r h)

-- ---- a property of the ends of each interval

abbrev pub Each : (ℤ → ℤ → Type 0) → List Interval → Type 0
Each P l = All (λ i. P i.lo i.hi) l

abbrev pub AllProper : List Interval → Type 0
AllProper l = Each Proper l

module _ (P : ℤ → ℤ → Type 0) where
  pub all_append : (a b : List Interval) → Each P a → Each P b → Each P (a ++ b)
  all_append [] b p q = q
  all_append (i ∷ a) b p q = (p.0, all_append a b p.1 q)

  pub all_any : (l : List Interval) → ((a b : ℤ) → P a b) → Each P l
  all_any [] h = tt
  all_any (i ∷ r) h = (h i.lo i.hi, all_any r h)

pub all_both : (P Q : ℤ → ℤ → Type 0) (l : List Interval) → Each P l → Each Q l → Each (λ a b. P a b × Q a b) l
all_both P Q [] h k = tt
all_both P Q (i ∷ r) h k = ((h.0, k.0), all_both P Q r h.1 k.1)

-- a member's interval
pub normal_proper : (s : Set) → Normal s → AllProper s
normal_proper [] n = tt
normal_proper (i ∷ s) n = (n.0, normal_proper s n.2)

pub member_range : {z : ℤ} {l : List Interval} → AllProper l → z ∈ l → InRange z
member_range p (here b) = let q = p.0 in record { above = omega (zarith, q.low, b.above); below = omega (zarith, q.high, b.below) }
member_range p (there m) = member_range p.1 m

-- ---- the results of g on each interval

-- z is in the results of g on the interval that x is in
pub in_each : (P : ℤ → ℤ → Type 0) (g : ℤ → ℤ → List Interval) {x z : ℤ} (l : List Interval) → Each P l → x ∈ l → ((a b : ℤ) → P a b → Between a x b → z ∈ g a b) → z ∈ each g l
unfolding each
in_each P g [] p m k = not_in_none m
in_each P g (i ∷ r) p (here b) k = in_left (each g r) (k i.lo i.hi p.0 b)
in_each P g (i ∷ r) p (there m) k = in_right (g i.lo i.hi) (in_each P g r p.1 m k)

pub all_each : (P Q : ℤ → ℤ → Type 0) (g : ℤ → ℤ → List Interval) (l : List Interval) → Each P l → ((a b : ℤ) → P a b → Each Q (g a b)) → Each Q (each g l)
unfolding each
all_each P Q g [] p k = tt
all_each P Q g (i ∷ r) p k = all_append Q (g i.lo i.hi) (each g r) (k i.lo i.hi p.0) (all_each P Q g r p.1 k)

pub length_each : (P : ℤ → ℤ → Type 0) (m : ℕ) (g : ℤ → ℤ → List Interval) (l : List Interval) → Each P l → ((a b : ℤ) → P a b → length (g a b) ≤ m) → length (each g l) ≤ length l * m
unfolding each
length_each P m g [] p k = omega arith
length_each P m g (i ∷ r) p k = omega (arith, length-append (g i.lo i.hi) (each g r), k i.lo i.hi p.0, length_each P m g r p.1 k)

pub each_same : (P : ℤ → ℤ → Type 0) (g h : ℤ → ℤ → List Interval) (l : List Interval) → Each P l → ((a b : ℤ) → P a b → g a b ≡ h a b) → each g l ≡ each h l
unfolding each
each_same P g h [] p k = refl
each_same P g h (i ∷ r) p k = ap₂ ◌++◌ (k i.lo i.hi p.0) (each_same P g h r p.1 k)

-- an interval of the list whose results hold z
pub record Origin (P : ℤ → ℤ → Type 0) (g : ℤ → ℤ → List Interval) (l : List Interval) (z : ℤ) : Type 0 where
  pub from : ℤ
  pub to : ℤ
  pub has : P from to
  pub members : (x : ℤ) → Between from x to → x ∈ l
  pub result : z ∈ g from to

pub each_origin : (P : ℤ → ℤ → Type 0) (g : ℤ → ℤ → List Interval) {z : ℤ} (l : List Interval) → Each P l → z ∈ each g l → Origin P g l z
unfolding each
each_origin P g [] p m = not_in_none m
each_origin P g {z} (i ∷ r) p m = go (in_either (g i.lo i.hi) m) (λ n. each_origin P g r p.1 n)
  where
    go : (z ∈ g i.lo i.hi) ⊎ (z ∈ each g r) → (z ∈ each g r → Origin P g r z) → Origin P g (i ∷ r) z
    go (inl n) k = record { from = i.lo; to = i.hi; has = p.0; members = λ x b. here b; result = n }
    go (inr n) k = let q = k n in record { from = q.from; to = q.to; has = q.has; members = λ x b. there (q.members x b); result = q.result }

-- what is in the results of g is in those of h, if so for each interval
pub in_each_of : (P : ℤ → ℤ → Type 0) (g h : ℤ → ℤ → List Interval) {z : ℤ} (l : List Interval) → Each P l → ((a b : ℤ) → P a b → z ∈ g a b → z ∈ h a b) → z ∈ each g l → z ∈ each h l
unfolding each
in_each_of P g h [] p k m = m
in_each_of P g h (i ∷ r) p k m =
    ⊎_elim (λ n. in_left (each h r) (k i.lo i.hi p.0 n)) (λ n. in_right (h i.lo i.hi) (in_each_of P g h r p.1 k n)) (in_either (g i.lo i.hi) m)

-- ---- the results of f on each pair

pub in_pairs_of : (f g : PairOp) {z : ℤ} (a b : List Interval) → AllProper a → AllProper b
    → ((s e t u : ℤ) → z ∈ f s e t u → z ∈ g s e t u) → z ∈ each_pair f a b → z ∈ each_pair g a b
in_pairs_of f g a b pa pb k m = in_each_of Proper (λ s e. each (f s e) b) (λ s e. each (g s e) b) a pa (λ s e _ n. in_each_of Proper (f s e) (g s e) b pb (λ t u _ h. k s e t u h) n) m

pub in_pairs : (f : PairOp) {x y z : ℤ} (a b : List Interval) → AllProper a → AllProper b → x ∈ a → y ∈ b
    → ((s e t g : ℤ) → Proper s e → Proper t g → Between s x e → Between t y g → z ∈ f s e t g) → z ∈ each_pair f a b
in_pairs f a b pa pb mx my k =
    in_each Proper (λ s e. each (f s e) b) a pa mx (λ s e p bx. in_each Proper (f s e) b pb my (λ t g q by. k s e t g p q bx by))

pub all_pairs : (Q : ℤ → ℤ → Type 0) (f : PairOp) (a b : List Interval) → AllProper a → AllProper b
    → ((s e t g : ℤ) → Proper s e → Proper t g → Each Q (f s e t g)) → Each Q (each_pair f a b)
all_pairs Q f a b pa pb k = all_each Proper Q (λ s e. each (f s e) b) a pa (λ s e p. all_each Proper Q (f s e) b pb (λ t g q. k s e t g p q))
