-- A set as the ends that a slice holds: `flat` and `intervals` undo each other, and the test `normal` of the ends says that the set is normal. Assumes nothing.
use lib.IntN.{ℤ}
use lib.ListN.{length}
use lib.Signed.{le_z, ◌≤ℤ◌}
use mathlib.Core.Path.{◌≡◌, refl, sym, ap}
use mathlib.Core.Bool.{true, ◌&&◌}
use mathlib.Core.List.{List, [], ◌∷◌, ◌++◌}
use Prim.Native.Nat.{◌*◌, ◌/◌, ◌%◌}
use native.Mathlib.Omega.{arith}
use Rattle.meaning.specs.Lists.{All}
use Rattle.meaning.specs.Number.{InRange}
use Rattle.meaning.specs.NumberIntervals.{Set, Apart, Normal, flat, intervals, starts_after, normal}
use Rattle.laws.proofs.Integers.{zarith, never, and_both, and_yes, ≤ℤ_trans}
use Rattle.laws.proofs.Members.{AllProper, between}

-- ---- there and back

pub intervals_flat : (s : Set) → intervals (flat s) ≡ s
unfolding intervals flat
intervals_flat [] = refl
intervals_flat (i ∷ s) = ap (λ (r : Set). i ∷ r) (intervals_flat s)

-- an even number of ends
pub even_flat : (l : List ℤ) → length l % 2 ≡ 0 → flat (intervals l) ≡ l
unfolding intervals flat
even_flat [] h = refl
even_flat (s ∷ []) h = absurd (omega arith)
even_flat (s ∷ e ∷ r) h = ap (λ (t : List ℤ). s ∷ e ∷ t) (even_flat r (omega arith))

pub normal_even : (l : List ℤ) → normal l ≡ true → length l % 2 ≡ 0
unfolding normal
normal_even [] h = refl
normal_even (s ∷ []) h = never (sym h)
normal_even (s ∷ e ∷ r) h = omega (arith, normal_even r (and_both (starts_after e r) (normal r) (and_both (le_z s e) (starts_after e r && normal r) h).1).1)

pub flat_intervals : (l : List ℤ) → normal l ≡ true → flat (intervals l) ≡ l
flat_intervals l h = even_flat l (normal_even l h)

-- ---- the normal form

starts_apart : (e : ℤ) (l : List ℤ) → starts_after e l ≡ true → Apart e (intervals l)
unfolding intervals
starts_apart e [] h = tt
starts_apart e (s ∷ []) h = tt
starts_apart e (s ∷ f ∷ r) h = omega zarith

pub ends_normal : (l : List ℤ) → normal l ≡ true → All InRange l → Normal (intervals l)
unfolding normal intervals
ends_normal [] h p = tt
ends_normal (s ∷ []) h p = tt
ends_normal (s ∷ e ∷ r) h p =
    let a = and_both (le_z s e) (starts_after e r && normal r) h in
    let b = and_both (starts_after e r) (normal r) a.1 in
    let o : s ≤ℤ e = omega (zarith, a.0) in
    (record { low = p.0.above; ordered = o; high = p.1.0.below }, starts_apart e r b.0, ends_normal r b.1 p.1.1)

apart_starts : (e : ℤ) (s : Set) → Apart e s → starts_after e (flat s) ≡ true
unfolding flat
apart_starts e [] h = refl
apart_starts e (i ∷ s) h = omega zarith

pub flat_normal : (s : Set) → Normal s → normal (flat s) ≡ true
unfolding normal flat
flat_normal [] n = refl
flat_normal (i ∷ s) n = and_yes {a = le_z i.lo i.hi} (omega (zarith, n.0.ordered)) (and_yes (apart_starts i.hi s n.1) (flat_normal s n.2))

pub flat_in_range : (s : Set) → AllProper s → All InRange (flat s)
unfolding flat
flat_in_range [] p = tt
flat_in_range (i ∷ s) p =
    let q = p.0 in
    (between q.low (≤ℤ_trans q.ordered q.high), (between (≤ℤ_trans q.low q.ordered) q.high, flat_in_range s p.1))

-- ---- how many

pub length_flat : (s : Set) → length (flat s) ≡ 2 * length s
unfolding flat
length_flat [] = refl
length_flat (i ∷ s) = omega (arith, length_flat s)

pub length_intervals : (l : List ℤ) → length (intervals l) ≡ length l / 2
unfolding intervals
length_intervals [] = refl
length_intervals (s ∷ []) = refl
length_intervals (s ∷ e ∷ r) = omega (arith, length_intervals r)

-- ---- of an append

pub flat_append : (a b : Set) → flat (a ++ b) ≡ flat a ++ flat b
unfolding flat
flat_append [] b = refl
flat_append (i ∷ a) b = ap (λ (r : List ℤ). i.lo ∷ i.hi ∷ r) (flat_append a b)
