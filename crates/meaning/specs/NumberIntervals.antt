-- NumberIntervals (01, "NumberIntervals"): sets as lists of intervals, the join, the operations on whole sets, and a set as the ends that a slice holds. Assumes nothing.
use Rattle.std.specs.Prelude.{ℤ, pos, ◌<ℤ◌, Bool, true, false, not, cond, ◌&&◌, ◌||◌, List, [], ◌∷◌, ◌++◌}
use Rattle.std.proofs.Math.IntN.{suc_ℤ}
use Rattle.std.specs.Int.Signed.{le_z, lt_z}
use Rattle.std.specs.Prelude.{Option, None, Some}
use Rattle.meaning.specs.Number.{ONE, Between, within, eq_z, smaller, larger, Op1, neg, abs, not', Op2, add, sub, mul, div, rem, le, lt, ne, and, or}
use Rattle.meaning.specs.Bools.{BoolInterval, not_bools, and_bools, or_bools}
use Rattle.meaning.specs.Interval.{Interval, span, only, Proper, each, meet_pair, PairOp, neg_pair, abs_pair, add_pair, sub_pair, uncut_pair, mul_pair, div_pair, rem_pair}

abbrev pub Set : Type 0
Set = List Interval

-- z is in one of the intervals
infix 50 ◌∈◌
pub data ◌∈◌ (z : ℤ) : Set → Type 0 where
  here : {i : Interval} {s : Set} → Between i.lo z i.hi → z ∈ (i ∷ s)
  there : {i : Interval} {s : Set} → z ∈ s → z ∈ (i ∷ s)

-- the same as a test
unfoldable pub contains : ℤ → Set → Bool
contains z [] = false
contains z (i ∷ s) = within i.lo z i.hi || contains z s

-- ---- the normal form: sorted, no overlap, at least one number missing between neighbours

-- at least one number is missing between e and s
abbrev pub apart : ℤ → ℤ → Bool
apart e s = lt_z (suc_ℤ e) s

abbrev pub Apart : ℤ → Set → Type 0
Apart e [] = Unit {0}
Apart e (i ∷ s) = suc_ℤ e <ℤ i.lo

abbrev pub Normal : Set → Type 0
Normal [] = Unit {0}
Normal (i ∷ s) = Proper i.lo i.hi × Apart i.hi s × Normal s

-- ---- the join of intervals in any order

-- [a,b] joined into a normal set: intervals left of it stay, the first one right of it and all that follow stay, and any other is joined to it
unfoldable pub insert : ℤ → ℤ → Set → Set
insert a b [] = span a b
insert a b (i ∷ s) =
    cond (apart i.hi a) (i ∷ insert a b s)
    (cond (apart b i.lo) (record { lo = a; hi = b } ∷ i ∷ s)
    (insert (smaller a i.lo) (larger b i.hi) s))

unfoldable pub rebuild : List Interval → Set
rebuild [] = []
rebuild (i ∷ l) = insert i.lo i.hi (rebuild l)

-- ---- the answer joins the results of all intervals, or of all pairs

abbrev pub each_pair : PairOp → Set → Set → List Interval
each_pair f a b = each (λ s e. each (f s e) b) a

unfoldable pub union : Set → Set → Set
union a b = rebuild (a ++ b)

unfoldable pub intersect : Set → Set → Set
intersect a b = rebuild (each_pair meet_pair a b)

-- ---- bools (01, "BoolInterval")

-- exactly {0}
abbrev pub zero_only : Set → Bool
zero_only [] = false
zero_only (i ∷ []) = eq_z i.lo (pos 0) && eq_z i.hi (pos 0)
zero_only (i ∷ j ∷ s) = false

abbrev pub filled : Set → Bool
filled [] = false
filled (i ∷ s) = true

-- false if 0 is in the set; true if it is neither empty nor exactly {0}
unfoldable pub as_bools : Set → BoolInterval
as_bools s = record { bfalse = contains (pos 0) s; btrue = filled s && not (zero_only s) }

-- back: 0 and 1000
unfoldable pub of_bools : BoolInterval → Set
of_bools m = cond m.bfalse (only (pos 0)) [] ++ cond m.btrue (only ONE) []

-- ---- comparisons

unfoldable pub some_of : (ℤ → ℤ → Bool) → Set → Bool
some_of p [] = false
some_of p (i ∷ s) = p i.lo i.hi || some_of p s

abbrev pub some_pair : (ℤ → ℤ → ℤ → ℤ → Bool) → Set → Set → Bool
some_pair p a b = some_of (λ s e. some_of (p s e) b) a

-- le may be true if some left start ≤ a right end, false if some left end > a right start
unfoldable pub le_bools : Set → Set → BoolInterval
le_bools a b = record { bfalse = some_pair (λ s e t f. lt_z t e) a b; btrue = some_pair (λ s e t f. le_z s f) a b }

-- lt: < and ≥ in their place
unfoldable pub lt_bools : Set → Set → BoolInterval
lt_bools a b = record { bfalse = some_pair (λ s e t f. le_z t e) a b; btrue = some_pair (λ s e t f. lt_z s f) a b }

-- ne, as in the original: not equal where the sets share nothing, equal where both are one and the same number, else either
abbrev pub share : Set → Set → Bool
share a b = some_pair (λ s e t f. le_z (larger s t) (smaller e f)) a b

-- the number of a set of just one
abbrev pub constant : Set → Option ℤ
constant [] = None
constant (i ∷ []) = cond (eq_z i.lo i.hi) (Some i.lo) None
constant (i ∷ j ∷ s) = None

abbrev pub same_number : Option ℤ → Option ℤ → Bool
same_number None y = false
same_number (Some x) None = false
same_number (Some x) (Some y) = eq_z x y

unfoldable pub ne_bools : Set → Set → BoolInterval
ne_bools a b = record { bfalse = share a b; btrue = not (share a b) || not (same_number (constant a) (constant b)) }

-- ---- the operations on whole sets

unfoldable pub set1 : Op1 → Set → Set
set1 neg a = rebuild (each neg_pair a)
set1 abs a = rebuild (each abs_pair a)
set1 not' a = of_bools (not_bools (as_bools a))

unfoldable pub set2 : Op2 → Set → Set → Set
set2 add a b = rebuild (each_pair add_pair a b)
set2 sub a b = rebuild (each_pair sub_pair a b)
set2 mul a b = rebuild (each_pair mul_pair a b)
set2 div a b = rebuild (each_pair div_pair a b)
set2 rem a b = rebuild (each_pair rem_pair a b)
set2 le a b = of_bools (le_bools a b)
set2 lt a b = of_bools (lt_bools a b)
set2 ne a b = of_bools (ne_bools a b)
set2 and a b = of_bools (and_bools (as_bools a) (as_bools b))
set2 or a b = of_bools (or_bools (as_bools a) (as_bools b))

-- mul by the rule of 01, before the cut of 02, (vii)
abbrev pub uncut_mul : Set → Set → Set
uncut_mul a b = rebuild (each_pair uncut_pair a b)

-- a zero found in a divisor with a nonempty left set
abbrev pub zero_found : Set → Set → Bool
zero_found a b = filled a && contains (pos 0) b

-- the flag is the left set's flag or a zero found; comparisons and and, or, not give false
unfoldable pub flag1 : Op1 → Bool → Bool
flag1 neg flag = flag
flag1 abs flag = flag
flag1 not' flag = false

unfoldable pub flag2 : Op2 → Bool → Set → Set → Bool
flag2 add flag a b = flag
flag2 sub flag a b = flag
flag2 mul flag a b = flag
flag2 div flag a b = flag || zero_found a b
flag2 rem flag a b = flag || zero_found a b
flag2 le flag a b = false
flag2 lt flag a b = false
flag2 ne flag a b = false
flag2 and flag a b = false
flag2 or flag a b = false

-- ---- a set travels as ends in a slice

unfoldable pub flat : Set → List ℤ
flat [] = []
flat (i ∷ s) = i.lo ∷ i.hi ∷ flat s

-- and back; an odd end is left out
unfoldable pub intervals : List ℤ → Set
intervals [] = []
intervals (s ∷ []) = []
intervals (s ∷ e ∷ r) = record { lo = s; hi = e } ∷ intervals r

-- the normal form as a test of the ends; an odd length has none
abbrev pub starts_after : ℤ → List ℤ → Bool
starts_after e [] = true
starts_after e (s ∷ r) = apart e s

unfoldable pub normal : List ℤ → Bool
normal [] = true
normal (s ∷ []) = false
normal (s ∷ e ∷ r) = le_z s e && (starts_after e r && normal r)
