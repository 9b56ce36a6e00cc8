-- Closing gaps: one closing by induction over the set (`one`), then any number of them (`gone`). The limit is met, the set stays normal, no member is lost, and what is added lies in the gaps that go first. Assumes nothing.
use mathlib.Core.Path.{◌≡◌, refl, sym, ap, ◌∙◌}
use mathlib.Core.Bool.{true, false}
use mathlib.Core.Logic.{◌⊎◌, inl, inr, ⊎_elim}
use mathlib.Core.List.{[], ◌∷◌}
use Prim.Native.Nat.{ℕ, zero, suc, ◌+◌, ◌-◌, ◌≤◌, ◌<◌, min}
use native.Mathlib.Omega.{arith}
use lib.Dec.{leb, ltb}
use lib.ListN.{length}
use lib.IntN.{ℤ, suc_ℤ}
use lib.Signed.{◌≤ℤ◌, ◌<ℤ◌}
use borrow.Author.Tests.{leb-true, leb-false, le-leb, ltb-true, ltb-false}
use Rattle.meaning.specs.Interval.{Interval}
use Rattle.meaning.specs.NumberIntervals.{Set, ◌∈◌, here, there, Apart, Normal}
use Rattle.laws.proofs.Integers.{zarith, by_test, by_order, and_both, and_yes, clash, suc_parts}
use Rattle.laws.proofs.Members.{between}
use Rattle.meaning.specs.Close.{missing, none_fewer, close_one, close_gaps, close}
use Rattle.meaning.specs.CloseLaws.{Gap, first, later, Before, Missing, ClosedOne, InClosed, ClosedTo, CloseLaws}

-- ---- gaps

no_gap_lem : {X : Type 0} {e f : ℤ} → Gap e f [] → X
no_gap_lem = elim [ ]

fewer_less : {g h : ℕ} (s : Set) → g ≤ h → none_fewer h s ≡ true → none_fewer g s ≡ true
unfolding none_fewer
fewer_less [] k t = refl
fewer_less (i ∷ []) k t = refl
fewer_less {g} {h} (i ∷ j ∷ s) k t =
    let b = and_both (leb h (missing i.hi j.lo)) (none_fewer h (j ∷ s)) t in
    and_yes (le-leb g (missing i.hi j.lo) (omega (arith, leb-true h (missing i.hi j.lo) b.0))) (fewer_less (j ∷ s) k b.1)

none_fewer_lem : (g : ℕ) {e f : ℤ} (s : Set) → none_fewer g s ≡ true → Gap e f s → g ≤ missing e f
unfolding none_fewer
none_fewer_lem g [] t x = no_gap_lem x
none_fewer_lem g (i ∷ []) t (later x) = no_gap_lem x
none_fewer_lem g {e} {f} (i ∷ j ∷ s) t (first p q) = rw (p, q) at (leb-true g (missing i.hi j.lo) (and_both (leb g (missing i.hi j.lo)) (none_fewer g (j ∷ s)) t).0)
none_fewer_lem g (i ∷ j ∷ s) t (later x) = none_fewer_lem g (j ∷ s) (and_both (leb g (missing i.hi j.lo)) (none_fewer g (j ∷ s)) t).1 x

-- the gaps of j ∷ s lie above j's start
gap_above : {e f : ℤ} (j : Interval) (s : Set) → Normal (j ∷ s) → Gap e f (j ∷ s) → j.lo ≤ℤ e
gap_above j [] n (later x) = no_gap_lem x
gap_above j (k ∷ s) n (first p q) = rw p at n.0.ordered
gap_above {e} j (k ∷ s) n (later x) =
    let h = gap_above k s n.2 x in
    omega (zarith, n.0.ordered, n.1, suc_parts j.hi)

-- only the end of the first interval counts
gap_same : {e f : ℤ} (i j : Interval) (s : Set) → i.hi ≡ j.hi → Gap e f (i ∷ s) → Gap e f (j ∷ s)
gap_same i j [] h (later x) = no_gap_lem x
gap_same i j (k ∷ s) h (first p q) = first (sym h ∙ p) q
gap_same i j (k ∷ s) h (later x) = later x

-- the set starts at a
abbrev Starts : ℤ → Set → Type 0
Starts a [] = ⊥
Starts a (i ∷ s) = i.lo ≡ a

one_starts : (i : Interval) (s : Set) → Starts i.lo (close_one (i ∷ s))
unfolding close_one
one_starts i [] = refl
one_starts i (j ∷ s) = by_test (none_fewer (missing i.hi j.lo) (j ∷ s)) (λ t. rw t refl) (λ t. rw t refl)

gap_head : {e f a : ℤ} (i : Interval) (s : Set) → Starts a s → Gap e f (i ∷ s) → ((i.hi ≡ e) × (a ≡ f)) ⊎ Gap e f s
gap_head i [] h x = absurd h
gap_head i (j ∷ s) h (first p q) = inl (p, sym h ∙ q)
gap_head i (j ∷ s) h (later x) = inr x

head_gap : {e f a : ℤ} (i : Interval) (s : Set) → Starts a s → i.hi ≡ e → a ≡ f → Gap e f (i ∷ s)
head_gap i [] h p q = absurd h
head_gap i (j ∷ s) h p q = first p (h ∙ q)

starts_apart : (e a : ℤ) (s : Set) → Starts a s → suc_ℤ e <ℤ a → Apart e s
starts_apart e a [] h k = tt
starts_apart e a (i ∷ s) h k = rw h k

-- ---- one closing

-- what is shown of it by one induction: the gap from `end` to `start` is closed
record One (s : Set) : Type 0 where
  end : ℤ
  start : ℤ
  gap : Gap end start s
  least : none_fewer (missing end start) s ≡ true
  goes : (e f : ℤ) → Gap e f (close_one s) → Before end start e f
  kept : (e f : ℤ) → Gap e f (close_one s) → Gap e f s
  other : (e f : ℤ) → Gap e f s → Gap e f (close_one s) ⊎ ((end ≡ e) × (start ≡ f))
  normal : Normal (close_one s)
  keeps : (z : ℤ) → z ∈ s → z ∈ close_one s
  fills : (z : ℤ) → Missing end z start → z ∈ close_one s
  adds : (z : ℤ) → z ∈ close_one s → (z ∈ s) ⊎ Missing end z start
  fewer : suc (length (close_one s)) ≡ length s

-- the first gap goes
one_here : (i j : Interval) (s : Set) → Normal (i ∷ j ∷ s) → none_fewer (missing i.hi j.lo) (j ∷ s) ≡ true → One (i ∷ j ∷ s)
unfolding close_one none_fewer
one_here i j s n t =
    record {
      end = i.hi;
      start = j.lo;
      gap = first refl refl;
      least = and_yes (le-leb g g (omega arith)) t;
      goes = rw t (λ e f x. let y = gap_same h j s refl x in order e f (none_fewer_lem g (j ∷ s) t y) (gap_above j s n.2 y));
      kept = rw t (λ e f x. later (gap_same h j s refl x));
      other = rw t others;
      normal = rw t (record { low = n.0.low; ordered = whole; high = n.2.0.high }, n.2.1, n.2.2);
      keeps = rw t keeps;
      fills = rw t (λ z m. here (between {lo = i.lo} {hi = j.hi} (omega (zarith, m.0, n.0.ordered)) (omega (zarith, m.1, n.2.0.ordered))));
      adds = rw t adds;
      fewer = rw t refl;
    }
  where
    g : ℕ
    g = missing i.hi j.lo

    h : Interval
    h = record { lo = i.lo; hi = j.hi }

    whole : i.lo ≤ℤ j.hi
    whole = omega (zarith, n.0.ordered, n.1, n.2.0.ordered, suc_parts i.hi)

    order : (e f : ℤ) → missing i.hi j.lo ≤ missing e f → j.lo ≤ℤ e → Before i.hi j.lo e f
    order e f p q = by_test (leb (missing e f) (missing i.hi j.lo)) (λ u. inr (omega (arith, leb-true (missing e f) (missing i.hi j.lo) u), q)) (λ u. inl (leb-false (missing e f) (missing i.hi j.lo) u))

    others : (e f : ℤ) → Gap e f (i ∷ j ∷ s) → Gap e f (h ∷ s) ⊎ ((i.hi ≡ e) × (j.lo ≡ f))
    others e f (first p q) = inr (p, q)
    others e f (later x) = inl (gap_same j h s refl x)

    adds : (z : ℤ) → z ∈ (h ∷ s) → (z ∈ (i ∷ j ∷ s)) ⊎ Missing i.hi z j.lo
    adds z (here b) = by_order i.hi z (λ p. by_order z j.lo (λ q. inr (p, q)) (λ q. inl (there (here (between q b.below))))) (λ p. inl (here (between b.above p)))
    adds z (there m) = inl (there (there m))

    keeps : (z : ℤ) → z ∈ (i ∷ j ∷ s) → z ∈ (h ∷ s)
    keeps z (here b) = here (between {hi = j.hi} b.above (omega (zarith, b.below, n.1, n.2.0.ordered, suc_parts i.hi)))
    keeps z (there (here b)) = here (between {lo = i.lo} (omega (zarith, b.above, n.0.ordered, n.1, suc_parts i.hi)) b.below)
    keeps z (there (there m)) = there m

-- or one behind it
one_there : (i j : Interval) (s : Set) → Normal (i ∷ j ∷ s) → none_fewer (missing i.hi j.lo) (j ∷ s) ≡ false → One (j ∷ s) → One (i ∷ j ∷ s)
unfolding close_one none_fewer
one_there i j s n t o =
    record {
      end = o.end;
      start = o.start;
      gap = later o.gap;
      least = and_yes (le-leb (missing o.end o.start) (missing i.hi j.lo) (omega (arith, less))) o.least;
      goes = rw t (λ e f x. ⊎_elim (λ p. inl (rw (p.0, p.1) at less)) (λ y. o.goes e f y) (gap_head i (close_one (j ∷ s)) (one_starts j s) x));
      kept = rw t (λ e f x. ⊎_elim (λ p. first p.0 p.1) (λ y. later (o.kept e f y)) (gap_head i (close_one (j ∷ s)) (one_starts j s) x));
      other = rw t others;
      normal = rw t (n.0, starts_apart i.hi j.lo (close_one (j ∷ s)) (one_starts j s) n.1, o.normal);
      keeps = rw t keeps;
      fills = rw t (λ z m. there (o.fills z m));
      adds = rw t adds;
      fewer = rw t (ap suc o.fewer);
    }
  where
    less : missing o.end o.start < missing i.hi j.lo
    less =
        by_test (leb (missing i.hi j.lo) (missing o.end o.start))
        (λ u. clash (fewer_less (j ∷ s) (leb-true (missing i.hi j.lo) (missing o.end o.start) u) o.least) t)
        (λ u. leb-false (missing i.hi j.lo) (missing o.end o.start) u)

    others : (e f : ℤ) → Gap e f (i ∷ j ∷ s) → Gap e f (i ∷ close_one (j ∷ s)) ⊎ ((o.end ≡ e) × (o.start ≡ f))
    others e f (first p q) = inl (head_gap i (close_one (j ∷ s)) (one_starts j s) p q)
    others e f (later x) = ⊎_elim (λ y. inl (later y)) (λ p. inr p) (o.other e f x)

    adds : (z : ℤ) → z ∈ (i ∷ close_one (j ∷ s)) → (z ∈ (i ∷ j ∷ s)) ⊎ Missing o.end z o.start
    adds z (here b) = inl (here b)
    adds z (there m) = ⊎_elim (λ k. inl (there k)) (λ p. inr p) (o.adds z m)

    keeps : (z : ℤ) → z ∈ (i ∷ j ∷ s) → z ∈ (i ∷ close_one (j ∷ s))
    keeps z (here b) = here b
    keeps z (there m) = there (o.keeps z m)

one : (i j : Interval) (s : Set) → Normal (i ∷ j ∷ s) → One (i ∷ j ∷ s)
unfolding none_fewer
one i j [] n = one_here i j [] n refl
one i j (k ∷ s) n =
    by_test (none_fewer (missing i.hi j.lo) (j ∷ k ∷ s)) (λ t. one_here i j (k ∷ s) n t) (λ t. one_there i j (k ∷ s) n t (one j k s n.2))

-- ---- n closings, of more than n intervals

-- t is s after closings; without the count
record Gone (s t : Set) : Type 0 where
  normal : Normal t
  keeps : (z : ℤ) → z ∈ s → z ∈ t
  kept : (e f : ℤ) → Gap e f t → Gap e f s
  ranked : (e f : ℤ) → Gap e f s → Gap e f t ⊎ ((c d : ℤ) → Gap c d t → Before e f c d)
  adds : (z : ℤ) → z ∈ t → (z ∈ s) ⊎ InClosed s t z

gone_none : (s : Set) → Normal s → Gone s s
gone_none s n = record { normal = n; keeps = λ z m. m; kept = λ e f x. x; ranked = λ e f x. inl x; adds = λ z m. inl m }

gone_more : (s t : Set) → One s → Gone (close_one s) t → Gone s t
gone_more s t o g =
    record {
      normal = g.normal;
      keeps = λ z m. g.keeps z (o.keeps z m);
      kept = λ e f x. o.kept e f (g.kept e f x);
      ranked = λ e f x. ⊎_elim (λ y. g.ranked e f y) (λ p. inr (λ c d y. rw (p.0, p.1) at (o.goes c d (g.kept c d y)))) (o.other e f x);
      adds = λ z m. ⊎_elim (λ k. old z (o.adds z k)) (λ c. inr (widened z c)) (g.adds z m);
    }
  where
    old : (z : ℤ) → (z ∈ s) ⊎ Missing o.end z o.start → (z ∈ s) ⊎ InClosed s t z
    old z (inl m) = inl m
    old z (inr p) = inr (record { end = o.end; start = o.start; gap = o.gap; missed = p; goes = λ e f x. o.goes e f (g.kept e f x) })

    widened : (z : ℤ) → InClosed (close_one s) t z → InClosed s t z
    widened z c = record { end = c.end; start = c.start; gap = o.kept c.end c.start c.gap; missed = c.missed; goes = c.goes }

gone : (n : ℕ) (s : Set) → Normal s → Gone s (close_gaps n s)
unfolding close_gaps close_one
gone zero s h = gone_none s h
gone (suc n) [] h = gone n [] h
gone (suc n) (i ∷ []) h = gone n (i ∷ []) h
gone (suc n) (i ∷ j ∷ s) h = let o = one i j s h in gone_more (i ∷ j ∷ s) (close_gaps n (close_one (i ∷ j ∷ s))) o (gone n (close_one (i ∷ j ∷ s)) o.normal)

-- each closing leaves one fewer
one_fewer : (i j : Interval) (s : Set) → suc (length (close_one (i ∷ j ∷ s))) ≡ suc (suc (length s))
unfolding close_one none_fewer
one_fewer i j [] = refl
one_fewer i j (k ∷ s) =
    by_test (none_fewer (missing i.hi j.lo) (j ∷ k ∷ s)) (λ t. rw t refl) (λ t. rw t (ap suc (one_fewer j k s)))

gaps_length : (n : ℕ) (s : Set) → n < length s → length (close_gaps n s) + n ≡ length s
unfolding close_gaps
gaps_length zero s h = omega arith
gaps_length (suc n) [] h = absurd (omega arith)
gaps_length (suc n) (i ∷ []) h = absurd (omega arith)
gaps_length (suc n) (i ∷ j ∷ s) h =
    let f = one_fewer i j s in
    let r = gaps_length n (close_one (i ∷ j ∷ s)) (omega arith) in
    omega arith

-- ---- the closing to a limit of one or more

close_length : (limit : ℕ) (s : Set) → 1 ≤ limit → length (close limit s) ≡ min limit (length s)
unfolding close close_gaps
close_length limit [] o = let z : 0 - limit ≡ 0 = omega arith in rw z (omega arith)
close_length limit (i ∷ s) o = omega (arith, gaps_length (suc (length s) - limit) (i ∷ s) (omega arith))

pub close_few : (limit : ℕ) (s : Set) → 1 ≤ limit → length (close limit s) ≤ limit
close_few limit s o = omega (arith, close_length limit s o)

pub close_normal : (limit : ℕ) (s : Set) → Normal s → Normal (close limit s)
unfolding close
close_normal limit s n = (gone (length s - limit) s n).normal

pub close_keeps : (limit : ℕ) (s : Set) {z : ℤ} → Normal s → z ∈ s → z ∈ close limit s
unfolding close
close_keeps limit s {z} n m = (gone (length s - limit) s n).keeps z m

pub close_is : (limit : ℕ) (s : Set) → 1 ≤ limit → Normal s → ClosedTo limit s (close limit s)
unfolding close
close_is limit s o n =
    let g = gone (length s - limit) s n in
    record { few = close_length limit s o; normal = g.normal; keeps = g.keeps; kept = g.kept; ranked = g.ranked; adds = g.adds }

pub close_fits : (limit : ℕ) (s : Set) → length s ≤ limit → close limit s ≡ s
unfolding close close_gaps
close_fits limit s h = let z : length s - limit ≡ 0 = omega arith in rw z

close_again : (limit : ℕ) (s : Set) → 1 ≤ limit → limit < length s → close limit s ≡ close limit (close_one s)
unfolding close close_gaps
close_again limit [] o h = absurd (omega arith)
close_again limit (i ∷ []) o h = absurd (omega arith)
close_again limit (i ∷ j ∷ s) o h =
    let q : suc (suc (length s)) - limit ≡ suc (length (close_one (i ∷ j ∷ s)) - limit) = omega (arith, one_fewer i j s) in
    ap (λ (n : ℕ). close_gaps n (i ∷ j ∷ s)) q

closed_one : (s : Set) → Normal s → 2 ≤ length s → ClosedOne s (close_one s)
closed_one [] n h = absurd (omega arith)
closed_one (i ∷ []) n h = absurd (omega arith)
closed_one (i ∷ j ∷ s) n h =
    let o = one i j s n in
    record {
      end = o.end;
      start = o.start;
      gap = o.gap;
      soonest = λ e f x. ⊎_elim (λ y. inr (o.goes e f y)) (λ p. inl p) (o.other e f x);
      normal = o.normal;
      keeps = o.keeps;
      fills = o.fills;
      adds = o.adds;
      fewer = o.fewer;
    }

pub close_laws : CloseLaws
close_laws = record {
  one_by_one = λ limit s o. by_test (ltb limit (length s)) (λ t. rw t (close_again limit s o (ltb-true limit (length s) t))) (λ t. rw t (close_fits limit s (ltb-false limit (length s) t)));
  one = closed_one;
  closes = close_is;
  fits = close_fits;
  again = λ limit s o. close_fits limit (close limit s) (close_few limit s o);
}
