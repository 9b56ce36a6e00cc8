-- What two normal sets have in common, by one walk over both: the interval that ends first is left behind. Assumes nothing.
use mathlib.Core.Path.{◌≡◌, refl, sym, ap, ◌∙◌}
use mathlib.Core.Logic.{◌⊎◌, inl, inr, ⊎_elim}
use mathlib.Core.List.{List, [], ◌∷◌, ◌++◌}
use mathlib.Core.Bool.{Bool, true, false, cond}
use Prim.Native.Nat.{◌+◌, ◌-◌, ◌^◌, ◌≤◌, ◌<◌}
use native.Mathlib.Omega.{arith}
use lib.ListN.{length, take, drop, length-drop}
use lib.Seq.{take_all}
use lib.IntN.{ℤ}
use lib.Signed.{le_z, mag}
use Rattle.meaning.specs.Number.{larger}
use Rattle.meaning.specs.Interval.{Interval, span, meet_pair}
use Rattle.meaning.specs.NumberIntervals.{flat, intervals, intersect}
use Rattle.laws.proofs.Integers.{cond_case, le_z_false, le_z_true}
use Rattle.laws.proofs.Machine.{back, rd}
use Rattle.sorting.specs.Order.{In, Le, Lt}
use Rattle.sorting.proofs.Ends.{Gap, After, NormalEnds, larger_parts}
use Rattle.sorting.proofs.Steps.{end_at, drop_two}
use Rattle.slices.specs.Adds.{Adds, Holds}
use Rattle.writer.specs.declared.Writer.{Writer}
use Rattle.writer.proofs.Chain.{appends_as}
use Rattle.writer.proofs.Partly.{Partly, partly_start, partly_as, partly_fits, partly_next, partly_done}
use Rattle.sets.specs.Sets.{SetEnds}
use Rattle.sets.proofs.Bridge.{in_ends, ends_in, normal_ends, ends_unique}
use Rattle.laws.proofs.Compare.{intersect_normal, intersect_holds, intersect_only}

-- what the first two intervals have in common, and then the interval that ends first is left behind
unfoldable pub cross : List ℤ → List ℤ → List ℤ
cross [] r = []
cross (s ∷ []) r = []
cross (s ∷ e ∷ l) [] = []
cross (s ∷ e ∷ l) (c ∷ []) = []
cross (s ∷ e ∷ l) (c ∷ d ∷ r) = flat (meet_pair s e c d) ++ cond (le_z e d) (cross l (c ∷ d ∷ r)) (cross (s ∷ e ∷ l) r)

-- a fact of the walk, by whether e is at most d, and whether anything is common
cross_case
    : (s e : ℤ) (l : List ℤ) (c d : ℤ) (r : List ℤ) (P : List ℤ → Type 0)
    → (Le e d → Le (larger s c) e → P (larger s c ∷ e ∷ cross l (c ∷ d ∷ r)))
    → (Le e d → Lt e (larger s c) → P (cross l (c ∷ d ∷ r)))
    → (Lt d e → Le (larger s c) d → P (larger s c ∷ d ∷ cross (s ∷ e ∷ l) r))
    → (Lt d e → Lt d (larger s c) → P (cross (s ∷ e ∷ l) r))
    → P (cross (s ∷ e ∷ l) (c ∷ d ∷ r))
unfolding cross flat meet_pair
cross_case s e l c d r P f g h k = go (le_z e d) refl
  where
    shared : (x : ℤ) (m : List ℤ) → (Le (larger s c) x → P (larger s c ∷ x ∷ m)) → (Lt x (larger s c) → P m) → P (flat (cond (le_z (larger s c) x) (span (larger s c) x) []) ++ m)
    shared x m y n =
        cond_case (λ z. P (flat z ++ m)) (le_z (larger s c) x) (span (larger s c) x) [] (λ q. y (le_z_true (larger s c) x q)) (λ q. n (le_z_false (larger s c) x q))

    go : (t : Bool) → le_z e d ≡ t
        → P (flat (cond (le_z (larger s c) (cond t e d)) (span (larger s c) (cond t e d)) []) ++ cond t (cross l (c ∷ d ∷ r)) (cross (s ∷ e ∷ l) r))
    go true p = shared e (cross l (c ∷ d ∷ r)) (f (le_z_true e d p)) (g (le_z_true e d p))
    go false p = shared d (cross (s ∷ e ∷ l) r) (h (le_z_false e d p)) (k (le_z_false e d p))

-- the larger of two starts
not_below_left : (s c : ℤ) → Le s (larger s c)
not_below_left s c = larger_parts (λ g. Le s g) s c (λ p. p) (λ _. omega arith)

not_below_right : (s c : ℤ) → Le c (larger s c)
not_below_right s c = larger_parts (λ g. Le c g) s c (λ _. omega arith) (λ p. omega (arith, p))

below_both : (z s c : ℤ) → Le s z → Le c z → Le (larger s c) z
below_both z s c p q = larger_parts (λ g. Le g z) s c (λ _. q) (λ _. p)

-- all members of what stands after e are past e's next number
past : (e z : ℤ) (r : List ℤ) → After e r → NormalEnds r → In z r → Gap e z
past e z [] a n i = absurd i
past e z (s ∷ []) a n i = absurd i
past e z (s ∷ e' ∷ r) a n (inl i) = omega (arith, i.0)
past e z (s ∷ e' ∷ r) a n (inr i) = let h = past e' z r n.1 n.2 i in omega (arith, n.0, a)

-- ---- members

cross_in : (z : ℤ) (l r : List ℤ) → In z (cross l r) → In z l × In z r
unfolding cross
cross_in z [] r i = absurd i
cross_in z (s ∷ []) r i = absurd i
cross_in z (s ∷ e ∷ l) [] i = absurd i
cross_in z (s ∷ e ∷ l) (c ∷ []) i = absurd i
cross_in z (s ∷ e ∷ l) (c ∷ d ∷ r) i₀ =
    (cross_case s e l c d r (λ m. In z m → In z (s ∷ e ∷ l) × In z (c ∷ d ∷ r))
    (λ p q. ⊎_elim
    (λ i. (inl (omega (arith, i.0, not_below_left s c), i.1), inl (omega (arith, i.0, not_below_right s c), omega (arith, i.1, p))))
    (λ i. let t = cross_in z l (c ∷ d ∷ r) i in (inr t.0, t.1)))
    (λ p q i. let t = cross_in z l (c ∷ d ∷ r) i in (inr t.0, t.1))
    (λ p q. ⊎_elim
    (λ i. (inl (omega (arith, i.0, not_below_left s c), omega (arith, i.1, p)), inl (omega (arith, i.0, not_below_right s c), i.1)))
    (λ i. let t = cross_in z (s ∷ e ∷ l) r i in (t.0, inr t.1)))
    (λ p q i. let t = cross_in z (s ∷ e ∷ l) r i in (t.0, inr t.1)))
    i₀

in_cross : (z : ℤ) (l r : List ℤ) → NormalEnds l → NormalEnds r → In z l → In z r → In z (cross l r)
unfolding cross
in_cross z [] r n k i j = absurd i
in_cross z (s ∷ []) r n k i j = absurd i
in_cross z (s ∷ e ∷ l) [] n k i j = absurd j
in_cross z (s ∷ e ∷ l) (c ∷ []) n k i j = absurd j
in_cross z (s ∷ e ∷ l) (c ∷ d ∷ r) n k (inl i) (inl j) =
    let g = below_both z s c i.0 j.0 in
    cross_case s e l c d r (λ m. In z m)
    (λ p q. inl (g, i.1))
    (λ p q. absurd (omega (arith, q, g, i.1)))
    (λ p q. inl (g, j.1))
    (λ p q. absurd (omega (arith, q, g, j.1)))
in_cross z (s ∷ e ∷ l) (c ∷ d ∷ r) n k (inl i) (inr j) =
    let b = past d z r k.1 k.2 j in
    cross_case s e l c d r (λ m. In z m)
    (λ p q. absurd (omega (arith, p, b, i.1)))
    (λ p q. absurd (omega (arith, p, b, i.1)))
    (λ p q. inr (in_cross z (s ∷ e ∷ l) r n k.2 (inl i) j))
    (λ p q. in_cross z (s ∷ e ∷ l) r n k.2 (inl i) j)
in_cross z (s ∷ e ∷ l) (c ∷ d ∷ r) n k (inr i) (inl j) =
    let b = past e z l n.1 n.2 i in
    cross_case s e l c d r (λ m. In z m)
    (λ p q. inr (in_cross z l (c ∷ d ∷ r) n.2 k i (inl j)))
    (λ p q. in_cross z l (c ∷ d ∷ r) n.2 k i (inl j))
    (λ p q. absurd (omega (arith, p, b, j.1)))
    (λ p q. absurd (omega (arith, p, b, j.1)))
in_cross z (s ∷ e ∷ l) (c ∷ d ∷ r) n k (inr i) (inr j) =
    cross_case s e l c d r (λ m. In z m)
    (λ p q. inr (in_cross z l (c ∷ d ∷ r) n.2 k i (inr j)))
    (λ p q. in_cross z l (c ∷ d ∷ r) n.2 k i (inr j))
    (λ p q. inr (in_cross z (s ∷ e ∷ l) r n k.2 (inr i) j))
    (λ p q. in_cross z (s ∷ e ∷ l) r n k.2 (inr i) j)

-- ---- normal

after_later : (f e : ℤ) (l : List ℤ) → Le f e → After e l → After f l
after_later f e [] h a = tt
after_later f e (s ∷ l) h a = omega (arith, h, a)

-- what both sets have in common starts after f where one of them does
after_start : (f s c : ℤ) (l r : List ℤ) → After f (s ∷ l) ⊎ After f (c ∷ r) → After f (larger s c ∷ [])
after_start f s c l r (inl a) = omega (arith, a, not_below_left s c)
after_start f s c l r (inr a) = omega (arith, a, not_below_right s c)

after_cross : (f : ℤ) (l r : List ℤ) → NormalEnds l → NormalEnds r → After f l ⊎ After f r → After f (cross l r)
unfolding cross
after_cross f [] r n k a = tt
after_cross f (s ∷ []) r n k a = tt
after_cross f (s ∷ e ∷ l) [] n k a = tt
after_cross f (s ∷ e ∷ l) (c ∷ []) n k a = tt
after_cross f (s ∷ e ∷ l) (c ∷ d ∷ r) n k a =
    cross_case s e l c d r (λ m. After f m)
    (λ p q. after_start f s c (e ∷ l) (d ∷ r) a)
    (λ p q. after_cross f l (c ∷ d ∷ r) n.2 k (⊎_elim (λ b. inl (after_later f e l (omega (arith, b, n.0)) n.1)) inr a))
    (λ p q. after_start f s c (e ∷ l) (d ∷ r) a)
    (λ p q. after_cross f (s ∷ e ∷ l) r n k.2 (⊎_elim inl (λ b. inr (after_later f d r (omega (arith, b, k.0)) k.1)) a))

cross_normal : (l r : List ℤ) → NormalEnds l → NormalEnds r → NormalEnds (cross l r)
unfolding cross
cross_normal [] r n k = tt
cross_normal (s ∷ []) r n k = tt
cross_normal (s ∷ e ∷ l) [] n k = tt
cross_normal (s ∷ e ∷ l) (c ∷ []) n k = tt
cross_normal (s ∷ e ∷ l) (c ∷ d ∷ r) n k =
    cross_case s e l c d r (λ m. NormalEnds m)
    (λ p q. (q, after_cross e l (c ∷ d ∷ r) n.2 k (inl n.1), cross_normal l (c ∷ d ∷ r) n.2 k))
    (λ p q. cross_normal l (c ∷ d ∷ r) n.2 k)
    (λ p q. (q, after_cross d (s ∷ e ∷ l) r n k.2 (inr k.1), cross_normal (s ∷ e ∷ l) r n k.2))
    (λ p q. cross_normal (s ∷ e ∷ l) r n k.2)

-- no longer than both lists together: each turn leaves an interval behind, and gives at most one
pub cross_length : (l r : List ℤ) → length (cross l r) ≤ length l + length r
unfolding cross
cross_length [] r = omega arith
cross_length (s ∷ []) r = omega arith
cross_length (s ∷ e ∷ l) [] = omega arith
cross_length (s ∷ e ∷ l) (c ∷ []) = omega arith
cross_length (s ∷ e ∷ l) (c ∷ d ∷ r) =
    let left = cross_length l (c ∷ d ∷ r) in
    let right = cross_length (s ∷ e ∷ l) r in
    cross_case s e l c d r (λ m. length m ≤ length (s ∷ e ∷ l) + length (c ∷ d ∷ r))
    (λ p q. omega (arith, left)) (λ p q. omega (arith, left)) (λ p q. omega (arith, right)) (λ p q. omega (arith, right))

-- the walk's answer is the intersection
pub walked : (l r : List ℤ) → SetEnds l → SetEnds r → cross l r ≡ flat (intersect (intervals l) (intervals r))
walked l r a b =
    let n = normal_ends l a.test in
    let k = normal_ends r b.test in
    ends_unique (cross l r) (intersect (intervals l) (intervals r)) (cross_normal l r n k) (intersect_normal (intervals l) (intervals r) a.is b.is)
    (λ z i. let t = cross_in z l r i in intersect_holds (intervals l) (intervals r) a.is b.is (in_ends z l t.0) (in_ends z r t.1))
    (λ z m. let t = intersect_only (intervals l) (intervals r) a.is b.is m in in_cross z l r n k (ends_in z l t.0) (ends_in z r t.1))

-- ---- the loop

cross_short : (l r : List ℤ) → length l < 2 → cross l r ≡ []
unfolding cross
cross_short [] r h = refl
cross_short (s ∷ []) r h = refl
cross_short (s ∷ e ∷ l) r h = absurd (omega arith)

cross_none : (l r : List ℤ) → length r < 2 → cross l r ≡ []
unfolding cross
cross_none [] r h = refl
cross_none (s ∷ []) r h = refl
cross_none (s ∷ e ∷ l) [] h = refl
cross_none (s ∷ e ∷ l) (c ∷ []) h = refl
cross_none (s ∷ e ∷ l) (c ∷ d ∷ r) h = absurd (omega arith)

-- the walk over both sets is written, all but the walk over what is left of them
pub record Walking (l r lefts rights : List ℤ) (new old : Writer ℤ) : Type 0 where
  pub part : Partly (cross l r) (cross lefts rights) new old

pub walking_start : (l r : List ℤ) (w : Writer ℤ) → w.len + (length l + length r) ≤ length w.room.now → Walking l r l r w w
walking_start l r w h = record { part = partly_start (cross l r) w (omega (arith, h, cross_length l r)) }

-- what follows the first interval
abbrev pub rest_of : List ℤ → List ℤ
rest_of l = take (length l - 2) (drop 2 l)

first_two : (l : List ℤ) → 2 ≤ length l → l ≡ end_at l 0 ∷ end_at l 1 ∷ rest_of l
first_two l h = drop_two l 0 h ∙ ap (λ (k : List ℤ). end_at l 0 ∷ end_at l 1 ∷ k) (sym (take_all (length l - 2) (drop 2 l) (omega (arith, length-drop 2 l))))

-- what one turn writes, with the ends as the code reads them, and what it leaves to be done
abbrev pub common : List ℤ → List ℤ → List Interval
common ls rs = meet_pair (rd (end_at ls 0)) (rd (end_at ls 1)) (rd (end_at rs 0)) (rd (end_at rs 1))

abbrev to_come : List ℤ → List ℤ → List ℤ
to_come ls rs = cond (le_z (rd (end_at ls 1)) (rd (end_at rs 1))) (cross (rest_of ls) rs) (cross ls (rest_of rs))

module _ {l r ls rs : List ℤ} {new old : Writer ℤ} (m : Walking l r ls rs new old) (p : 2 ≤ length ls) (q : 2 ≤ length rs)
    (a : mag (end_at ls 0) < 2 ^ 63) (b : mag (end_at ls 1) < 2 ^ 63) (c : mag (end_at rs 0) < 2 ^ 63) (d : mag (end_at rs 1) < 2 ^ 63) where
  two : cross ls rs ≡ flat (common ls rs) ++ to_come ls rs
  unfolding cross
  two =
      (λ i. cross (first_two ls p i) (first_two rs q i))
      ∙ sym (λ i. flat (meet_pair (back (end_at ls 0) a i) (back (end_at ls 1) b i) (back (end_at rs 0) c i) (back (end_at rs 1) d i))
      ++ cond (le_z (back (end_at ls 1) b i) (back (end_at rs 1) d i)) (cross (rest_of ls) (first_two rs q i)) (cross (first_two ls p i) (rest_of rs)))

  turn : Partly (cross l r) (flat (common ls rs) ++ to_come ls rs) new old
  turn = partly_as two m.part

  pub turn_fits : old.len + (length l + length r) ≤ length old.room.now → Holds (common ls rs) new
  turn_fits h = partly_fits (flat (common ls rs)) (to_come ls rs) turn (omega (arith, h, cross_length l r))

  module _ {next : Writer ℤ} (w : Adds (common ls rs) next new) where
    written : Partly (cross l r) (to_come ls rs) next old
    written = partly_next (flat (common ls rs)) (to_come ls rs) turn w.ends

    pub turn_left : le_z (rd (end_at ls 1)) (rd (end_at rs 1)) ≡ true → Walking l r (rest_of ls) rs next old
    turn_left h = record { part = rw h at written }

    pub turn_right : le_z (rd (end_at ls 1)) (rd (end_at rs 1)) ≡ false → Walking l r ls (rest_of rs) next old
    turn_right h = record { part = rw h at written }

-- one of the two is at its end
pub walking_done : {l r lefts rights : List ℤ} {new old : Writer ℤ} → Walking l r lefts rights new old → SetEnds l → SetEnds r → (length lefts < 2) ⊎ (length rights < 2)
    → Adds (intersect (intervals l) (intervals r)) new old
walking_done {l} {r} {lefts} {rights} m a b h =
    let e : cross lefts rights ≡ [] = ⊎_elim (λ p. cross_short lefts rights p) (λ p. cross_none lefts rights p) h in
    record { ends = appends_as (walked l r a b) (partly_done (partly_as e m.part)) }
