-- A loop over the intervals of a set that writes the results of an operation on each: one law for every operation. Assumes nothing.
use mathlib.Core.Path.{◌≡◌, refl, sym, ap, ◌∙◌}
use mathlib.Core.List.{List, [], ◌∷◌}
use Prim.Native.Nat.{ℕ, suc, ◌+◌, ◌*◌, ◌/◌, ◌≤◌, ◌<◌}
use native.Mathlib.Omega.{arith}
use lib.ListN.{length, drop}
use lib.IntN.{ℤ}
use Rattle.std.specs.Simd.{first_chunks}
use Rattle.meaning.specs.Interval.{Interval, Proper, each}
use Rattle.meaning.specs.NumberIntervals.{flat, intervals}
use Rattle.laws.proofs.Members.{AllProper}
use Rattle.laws.proofs.Flat.{flat_append}
use Rattle.writer.specs.declared.Writer.{Writer}
use Rattle.writer.proofs.Chain.{appends_none}
use Rattle.writer.proofs.Pairs.{first, second, pair_at, IsEach, Paired, pair_next, pairs_done}
use Rattle.slices.specs.Adds.{Adds}

-- the ends of the results of f on each interval
abbrev results : (ℤ → ℤ → List Interval) → List ℤ → List ℤ
results f l = flat (each f (intervals l))

each_result : (f : ℤ → ℤ → List Interval) → IsEach (results f) (λ lo hi. flat (f lo hi))
unfolding intervals each flat
each_result f = record { none = none; more = λ lo hi l. flat_append (f lo hi) (each f (intervals l)) }
  where
    none : (l : List ℤ) → length l < 2 → results f l ≡ []
    none [] h = refl
    none (a ∷ []) h = refl
    none (a ∷ b ∷ l) h = absurd (omega arith)

-- f is done to k of the intervals of s, and for the results of each that is left there are `room` numbers
pub record Filled (f : ℤ → ℤ → List Interval) (room : ℕ) (s : List ℤ) (k : ℕ) (new old : Writer ℤ) : Type 0 where
  pub proper : AllProper (intervals (drop (2 * k) s))
  pub free : new.len + room * (length (drop (2 * k) s) / 2) ≤ length new.room.now
  pub paired : Paired (results f) s k new old

pub fill_start : (f : ℤ → ℤ → List Interval) (room : ℕ) (s : List ℤ) (w : Writer ℤ) → AllProper (intervals s) → w.len + room * (length s / 2) ≤ length w.room.now → Filled f room s 0 w w
fill_start f room s w p h = record { proper = p; free = h; paired = record { done = []; wrote = appends_none w (omega (arith, h)); splits = refl } }

-- the room for what is left falls by one share
share : (room n : ℕ) → room * (suc (suc n) / 2) ≡ room + room * (n / 2)
share room n =
    let e : suc (suc n) / 2 ≡ suc (n / 2) = omega arith in
    ap (λ (j : ℕ). room * j) e ∙ omega arith

module _ {f : ℤ → ℤ → List Interval} {room : ℕ} {s : List ℤ} {k : ℕ} {new old : Writer ℤ} (t : Filled f room s k new old) where
  module _ {x : List (List ℤ)} (e : x ≡ first_chunks 2 (length s / 2) s) (n : length x ≡ length s / 2) (h : k < length x) {lo hi : ℤ} (is_lo : lo ≡ first x k) (is_hi : hi ≡ second x k) where
    turn : drop (2 * k) s ≡ lo ∷ hi ∷ drop (2 * (k + 1)) s
    turn = pair_at s k e (omega arith) ∙ sym (λ i. is_lo i ∷ is_hi i ∷ drop (2 * (k + 1)) s)

    turned : AllProper (intervals (lo ∷ hi ∷ drop (2 * (k + 1)) s))
    turned = rw turn at t.proper

    -- the next interval is one that the operation takes, and there is room for its results
    pub next_proper : Proper lo hi
    unfolding intervals
    next_proper = turned.0

    free_next : new.len + (room + room * (length (drop (2 * (k + 1)) s) / 2)) ≤ length new.room.now
    free_next = omega (arith, t.free, ap (λ (l : List ℤ). room * (length l / 2)) turn, share room (length (drop (2 * (k + 1)) s)))

    pub next_room : new.len + room ≤ length new.room.now
    next_room = omega (arith, free_next)

    pub fill_next : {m : Writer ℤ} → Adds (f lo hi) m new → length (flat (f lo hi)) ≤ room → Filled f room s (k + 1) m old
    unfolding intervals
    fill_next w r = record {
      proper = turned.1;
      free = omega (arith, free_next, r, w.ends.count, w.ends.long);
      paired = pair_next (each_result f) s k t.paired e n h is_lo is_hi w.ends;
    }

  pub fill_done : length s / 2 ≤ k → Adds (each f (intervals s)) new old
  fill_done h = record { ends = pairs_done (each_result f) s k t.paired h }
