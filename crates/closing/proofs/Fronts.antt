-- The loop of `close`: the front holds the intervals read so far, closed to the limit; one more interval closes one gap (`shrink`). Assumes nothing.
use mathlib.Core.Path.{◌≡◌, refl, sym, ap, subst, ◌∙◌}
use mathlib.Core.Bool.{true}
use mathlib.Core.List.{List, [], ◌∷◌, ◌++◌, append_assoc}
use Prim.Native.Nat.{ℕ, suc, ◌+◌, ◌-◌, ◌*◌, ◌/◌, ◌%◌, ◌≤◌, ◌<◌}
use native.Mathlib.Omega.{arith}
use lib.ListN.{length, get_or, set, take, drop, length-append, length-drop, take-append-drop, drop_of_length-le}
use lib.Seq.{length-take-le, take-suc, take_at, get_or-drop, get_or_at, set_at, take-append-le, drop-append-le, take_all, paste}
use lib.IntN.{ℤ, pos, suc_ℤ}
use native.Mathlib.Numerals.{add-one}
use lib.Signed.{◌<ℤ◌}
use Rattle.std.specs.Simd.{first_chunks}
use Rattle.std.specs.Option.{MatchOption}
use Rattle.std.specs.Prelude.{Option, None, Some}
use Rattle.meaning.specs.NumberIntervals.{Set, Normal, flat, intervals}
use Rattle.laws.proofs.Flat.{even_flat, length_intervals}
use Rattle.sorting.specs.Order.{put_pair}
use Rattle.sorting.proofs.Chunks.{pair_at}
use Rattle.sorting.proofs.Steps.{end_at, drop_two}
use Rattle.laws.proofs.Integers.{by_test, and_yes}
use Rattle.meaning.specs.Close.{missing, close}
use Rattle.closing.specs.declared.Gap.{Gap}
use Rattle.closing.specs.Gaps.{at_least, thin, Open, Lowest, pushed, Ends, Closed}
use Rattle.closing.proofs.Thin.{thin_by, shrink, thin_length, at_least_append, at_least_thin, at_least_less}
use Rattle.closing.proofs.Least.{at_least_one, none_fewer, thin_new, thin_old}
use Rattle.closing.proofs.Bridge.{behind, flat_gaps}

-- ---- the front: its first start, its gaps, its last end

-- the gaps of a list of ends
abbrev pub gaps_of : List ℤ → List ℤ
gaps_of l = take (length l - 2) (drop 1 l)

pub front_split : (l : List ℤ) → 2 ≤ length l → l ≡ end_at l 0 ∷ gaps_of l ++ end_at l (length l - 1) ∷ []
front_split [] h = absurd (omega arith)
front_split (a ∷ []) h = absurd (omega arith)
front_split (a ∷ b ∷ r) h =
    let e : length (a ∷ b ∷ r) - 2 ≡ length r = omega arith in
    let f : length (a ∷ b ∷ r) - 1 ≡ suc (length r) = omega arith in
    let n : suc (length r) ≡ length (b ∷ r) = refl in
    rw (e, f) (ap (λ (x : List ℤ). a ∷ x) (sym (take_all (suc (length r)) (b ∷ r) (omega arith)) ∙ take-suc (b ∷ r) (length r) (pos 0) (omega arith)))

pub gaps_front : (l : List ℤ) (a z : ℤ) (p : List ℤ) → l ≡ a ∷ p ++ z ∷ [] → gaps_of l ≡ p
gaps_front l a z p e =
    let n : length l - 2 ≡ length p = omega (arith, ap length e, length-append p (z ∷ [])) in
    rw (n, e) (take_at p (z ∷ []) (length p) refl)

pub last_front : (l : List ℤ) (a z : ℤ) (p : List ℤ) → l ≡ a ∷ p ++ z ∷ [] → end_at l (length l - 1) ≡ z
last_front l a z p e =
    let n : length l - 1 ≡ suc (length p) = omega (arith, ap length e, length-append p (z ∷ [])) in
    rw (n, e) (get_or_at (a ∷ p) z [] (pos 0) (suc (length p)) refl)

-- ---- gaps of a normal set are wide

pub open_split : (p r : List ℤ) → length p % 2 ≡ 0 → Open (p ++ r) → Open p × Open r
open_split [] r h o = (tt, o)
open_split (e ∷ []) r h o = absurd (omega arith)
open_split (e ∷ s ∷ p) r h o = let q = open_split p r (omega arith) o.1 in ((o.0, q.0), q.1)

pub open_join : (p r : List ℤ) → length p % 2 ≡ 0 → Open p → Open r → Open (p ++ r)
open_join [] r h o q = q
open_join (e ∷ []) r h o q = absurd (omega arith)
open_join (e ∷ s ∷ p) r h o q = (o.0, open_join p r (omega arith) o.1 q)

open_flat : (s : Set) → Normal s → Open (drop 1 (flat s))
unfolding flat
open_flat [] n = tt
open_flat (i ∷ []) n = tt
open_flat (i ∷ j ∷ s) n = (n.1, open_flat (j ∷ s) n.2)

open_thin : (l : List ℤ) → Open l → Open (thin l)
unfolding thin
open_thin [] o = tt
open_thin (e ∷ []) o = tt
open_thin (e ∷ s ∷ r) o = by_test (at_least (missing e s) r) (λ t. rw t o.1) (λ t. rw t (o.0, open_thin r o.1))

-- ---- the gap after `at` numbers closed, and an interval put behind the rest

module _ (l : List ℤ) (at : ℕ) (s e : ℤ) (h : at + 3 ≤ length l) where
  kept_length : length (take (at + 1) l ++ drop (at + 3) l) ≡ length l - 2
  kept_length = length-append (take (at + 1) l) (drop (at + 3) l) ∙ omega (arith, length-take-le (at + 1) l (omega arith), length-drop (at + 3) l)

  pub pushed_length : length (pushed at s e l) ≡ length l
  pushed_length =
      ap length (sym (append_assoc (take (at + 1) l) (drop (at + 3) l) (s ∷ e ∷ [])))
      ∙ length-append (take (at + 1) l ++ drop (at + 3) l) (s ∷ e ∷ [])
      ∙ omega (arith, kept_length)

  pub push_is : (c : List ℤ) → c ≡ paste l (at + 1) (drop (at + 3) l) (length l - (at + 3)) → put_pair c (length l - 2) s e ≡ pushed at s e l
  unfolding put_pair
  push_is c w =
      let n : at + 1 + (length l - (at + 3)) ≡ length l - 2 = omega arith in
      let r = length-drop (at + 3) l in
      let all : take (length l - (at + 3)) (drop (at + 3) l) ≡ drop (at + 3) l = take_all (length l - (at + 3)) (drop (at + 3) l) (omega arith) in
      let whole : c ≡ (take (at + 1) l ++ drop (at + 3) l) ++ drop (length l - 2) l =
      w ∙ rw (n, all) refl in
      let size : length c ≡ length l = ap length whole ∙ length-append (take (at + 1) l ++ drop (at + 3) l) (drop (length l - 2) l) ∙ omega (arith, kept_length, length-drop (length l - 2) l) in
      let none : drop (length l - 2 + 2) c ≡ [] = drop_of_length-le c {i = length l - 2 + 2} (omega arith) in
      let front : take (length l - 2) c ≡ take (at + 1) l ++ drop (at + 3) l = ap (take (length l - 2)) whole ∙ take_at (take (at + 1) l ++ drop (at + 3) l) (drop (length l - 2) l) (length l - 2) kept_length in
      rw (front, none) (append_assoc (take (at + 1) l) (drop (at + 3) l) (s ∷ e ∷ []))

-- ---- the loop

-- the gaps of the first m numbers, where there are no more
pub gaps_are : (l : List ℤ) (m : ℕ) → length l ≡ m → take (m - 1 - 1) (drop 1 l) ≡ gaps_of l
gaps_are l m h = let e : m - 1 - 1 ≡ length l - 2 = omega arith in ap (λ (k : ℕ). take k (drop 1 l)) e

-- t: the ends of the set closed. Before a turn the intervals from k on are left, `left` of them, and as many gaps are to be closed
pub record Fronts (t old front : List ℤ) (k : ℕ) : Type 0 where
  pub first : ℤ
  pub last : ℤ
  pub left : ℕ
  pub some : 2 ≤ length front
  pub even : length front % 2 ≡ 0
  pub read : k + 2 * left ≡ length old
  pub is : front ≡ first ∷ gaps_of front ++ last ∷ []
  pub wide : Open (gaps_of front)
  pub next : Open (last ∷ drop k old)
  pub so_far : first ∷ thin_by left (gaps_of front ++ last ∷ drop k old) ≡ t

module _ {t old front : List ℤ} {k : ℕ} (f : Fronts t old front k) where
  abbrev gaps : List ℤ
  gaps = gaps_of front

  gaps_size : length gaps ≡ length front - 2
  gaps_size = length-take-le (length front - 2) (drop 1 front) (omega (arith, length-drop 1 front, f.some))

  pub gaps_even : length (gaps_of front) % 2 ≡ 0
  gaps_even = rw gaps_size (omega (arith, f.even, f.some))

  pub last_is : end_at front (length front - 1) ≡ f.last
  last_is = last_front front f.first f.last gaps f.is

  module _ (h : k + 2 ≤ length old) where
    abbrev s : ℤ
    s = end_at old k

    abbrev e : ℤ
    e = end_at old (k + 1)

    abbrev rest : List ℤ
    rest = drop (k + 2) old

    next_two : drop k old ≡ s ∷ e ∷ rest
    next_two = drop_two old k h

    opens : Open (f.last ∷ s ∷ e ∷ rest)
    opens = rw next_two at f.next

    pub gap_wide : suc_ℤ (end_at front (length front - 1)) <ℤ end_at old k
    gap_wide = rw last_is opens.0

    -- the front with the next interval
    abbrev more : List ℤ
    more = gaps ++ f.last ∷ s ∷ []

    more_length : length more ≡ length front
    more_length = length-append gaps (f.last ∷ s ∷ []) ∙ omega (arith, gaps_size, f.some)

    shrunk : thin_by f.left (gaps ++ f.last ∷ drop k old) ≡ thin_by (f.left - 1) (thin more ++ e ∷ rest)
    shrunk =
        let q : f.left ≡ suc (f.left - 1) = omega (arith, f.read) in
        let w : gaps ++ f.last ∷ drop k old ≡ more ++ e ∷ rest = ap (λ (x : List ℤ). gaps ++ f.last ∷ x) next_two ∙ sym (append_assoc gaps (f.last ∷ s ∷ []) (e ∷ rest)) in
        (λ i. thin_by (q i) (w i))
        ∙ shrink (f.left - 1) more (e ∷ rest) (rw more_length f.even) (omega (arith, length-drop (k + 2) old, f.read))

    fronts_make : (new p : List ℤ) → thin more ≡ p → new ≡ f.first ∷ p ++ e ∷ [] → Fronts t old new (k + 2) × (length new ≡ length front)
    fronts_make new p w u =
        let size : length p + 2 ≡ length front = sym (ap (λ (x : List ℤ). length x + 2) w) ∙ thin_length more (omega (arith, more_length, f.some)) ∙ more_length in
        let same : length new ≡ length front = ap length u ∙ omega (arith, size, length-append p (e ∷ [])) in
        let g = gaps_front new f.first e p u in
        let o : Open p = rw w at (open_thin more (open_join gaps (f.last ∷ s ∷ []) gaps_even f.wide (opens.0, tt))) in (
          record {
            first = f.first;
            last = e;
            left = f.left - 1;
            some = omega (arith, same, f.some);
            even = rw same f.even;
            read = omega (arith, f.read);
            is = rw g u;
            wide = rw g o;
            next = opens.1;
            so_far = rw g (ap (λ (x : List ℤ). f.first ∷ thin_by (f.left - 1) (x ++ e ∷ rest)) (sym w) ∙ ap (λ (x : List ℤ). f.first ∷ x) (sym shrunk) ∙ f.so_far);
          },
          same,
        )

    -- the next interval's own gap is closed
    module _ (u : at_least (suc (missing (end_at front (length front - 1)) (end_at old k))) (gaps_of front) ≡ true) where
      near_is : set front (length front - 1) e ≡ f.first ∷ gaps ++ e ∷ []
      near_is =
          let n : length front - 1 ≡ length (f.first ∷ gaps) = omega (arith, gaps_size, f.some) in
          ap (λ (x : List ℤ). set x (length front - 1) e) f.is ∙ set_at (f.first ∷ gaps) f.last [] e (length front - 1) (sym n)

      pub fronts_near : Fronts t old (set front (length front - 1) (end_at old (k + 1))) (k + 2)
      fronts_near = (fronts_make (set front (length front - 1) e) gaps (thin_new gaps f.last s gaps_even (rw last_is at u)) near_is).0

      pub gaps_near : gaps_of (set front (length front - 1) (end_at old (k + 1))) ≡ gaps_of front
      gaps_near = gaps_front (set front (length front - 1) e) f.first e gaps near_is

    -- or the least gap of the front
    module _ {at least : ℕ} (l : Lowest (gaps_of front) at least) (q : least ≤ missing (end_at front (length front - 1)) (end_at old k)) where
      pub spot_fits : at + 3 ≤ length front
      spot_fits = omega (arith, l.place, gaps_size)

      head : take (at + 1) front ≡ f.first ∷ take at gaps
      head =
          ap (take (at + 1)) f.is
          ∙ rw add-one (ap (λ (x : List ℤ). f.first ∷ x) (take-append-le at gaps (f.last ∷ []) (omega (arith, l.place))))

      tail : drop (at + 3) front ≡ drop (at + 2) gaps ++ f.last ∷ []
      tail =
          let z : at + 3 ≡ suc (at + 2) = omega arith in
          ap (drop (at + 3)) f.is ∙ rw z (drop-append-le (at + 2) gaps (f.last ∷ []) l.place)

      far_is : pushed at s e front ≡ f.first ∷ ((take at gaps ++ drop (at + 2) gaps) ++ f.last ∷ s ∷ []) ++ e ∷ []
      far_is = (λ i. head i ++ (tail i ++ s ∷ e ∷ [])) ∙ simp append_assoc

      thinned : thin more ≡ (take at gaps ++ drop (at + 2) gaps) ++ f.last ∷ s ∷ []
      thinned = thin_old gaps f.last s gaps_even l (rw last_is at q)

      pub fronts_far : Fronts t old (pushed at (end_at old k) (end_at old (k + 1)) front) (k + 2)
      fronts_far = (fronts_make (pushed at s e front) ((take at gaps ++ drop (at + 2) gaps) ++ f.last ∷ s ∷ []) thinned far_is).0

      -- no gap of the new front has fewer missing numbers than the one that went
      pub far_floor : at_least least (gaps_of (pushed at (end_at old k) (end_at old (k + 1)) front)) ≡ true
      far_floor =
          let v : at_least least more ≡ true = at_least_append least gaps (f.last ∷ s ∷ []) gaps_even ∙ and_yes l.under (at_least_one least f.last s (rw last_is at q)) in
          rw (gaps_front (pushed at s e front) f.first e _ far_is) (rw thinned at (at_least_thin least more v))

-- what is known of the least gap of a list
abbrev pub Known : List ℤ → Option Gap → Type 0
Known p gap = MatchOption gap (p ≡ []) (λ g. Lowest p g.at g.missing)

fewer : (p : List ℤ) (x : ℕ) (gap : Option Gap) → Known p gap → MatchOption gap (Unit {0}) (λ g. x < g.missing) → at_least (suc x) p ≡ true
fewer p x None l u = none_fewer (suc x) p l
fewer p x (Some g) l u = at_least_less p (omega (arith, u)) l.under

-- a turn in which the next interval's own gap has fewer missing numbers
pub near_turn
    : {t old front : List ℤ} {k : ℕ} → Fronts t old front k → k + 2 ≤ length old → (gap : Option Gap) → Known (gaps_of front) gap
    → MatchOption gap (Unit {0}) (λ g. missing (end_at front (length front - 1)) (end_at old k) < g.missing)
    → Fronts t old (set front (length front - 1) (end_at old (k + 1))) (k + 2) × Known (gaps_of (set front (length front - 1) (end_at old (k + 1)))) gap
near_turn f h gap l u =
    let v = fewer _ _ gap l u in
    (fronts_near f h v, rw (gaps_near f h v) l)

-- or in which the least gap of the front has no more
pub far_turn
    : {t old front : List ℤ} {k at least : ℕ} → Fronts t old front k → k + 2 ≤ length old → Lowest (gaps_of front) at least
    → least ≤ missing (end_at front (length front - 1)) (end_at old k) → (new : List ℤ) → new ≡ pushed at (end_at old k) (end_at old (k + 1)) front
    → (length new ≡ length front) × Fronts t old new (k + 2) × (at_least least (gaps_of new) ≡ true)
far_turn {front = front} {at = at} f h l q new e =
    rw e (pushed_length front at _ _ (spot_fits f h l q), fronts_far f h l q, far_floor f h l q)

-- the interval of a turn, as it is read behind the front
pub record Next (old : List ℤ) (k : ℕ) (pair : List ℤ) : Type 0 where
  pub start : get_or pair 0 (pos 0) ≡ end_at old k
  pub end : get_or pair 1 (pos 0) ≡ end_at old (k + 1)
  pub room : k + 2 ≤ length old

pub next_at
    : (old rest : List ℤ) (m i : ℕ) (pairs : List (List ℤ)) → rest ≡ drop m old → m ≤ length old
    → pairs ≡ first_chunks 2 (length rest / 2) rest → i < length pairs → length pairs ≡ length rest / 2
    → Next old (m + 2 * i) (get_or pairs i [])
next_at old rest m i pairs e h p j c =
    let g = ap (λ (x : List (List ℤ)). get_or x i []) p ∙ pair_at (length rest / 2) i rest [] (omega arith) (omega arith) in
    let z : m + (2 * i + 1) ≡ m + 2 * i + 1 = omega arith in
    record {
      start = ap (λ (x : List ℤ). get_or x 0 (pos 0)) g ∙ ap (λ (x : List ℤ). end_at x (2 * i)) e ∙ get_or-drop m old (2 * i) (pos 0);
      end = ap (λ (x : List ℤ). get_or x 1 (pos 0)) g ∙ ap (λ (x : List ℤ). end_at x (2 * i + 1)) e ∙ get_or-drop m old (2 * i + 1) (pos 0) ∙ ap (end_at old) z;
      room = omega (arith, ap length e, length-drop m old);
    }

-- ---- the whole call

abbrev pub closed_ends : ℕ → List ℤ → List ℤ
closed_ends limit old = flat (close limit (intervals old))

module _ (limit : ℕ) (old : List ℤ) (x : Ends old) where
  abbrev whole : Set
  whole = intervals old

  abbrev answer : List ℤ
  answer = closed_ends limit old

  whole_length : length whole ≡ length old / 2
  whole_length = length_intervals old

  whole_flat : flat whole ≡ old
  whole_flat = even_flat old x.even

  answer_is : answer ≡ behind (thin_by (length old / 2 - limit)) old
  unfolding close
  answer_is = flat_gaps (length whole - limit) whole ∙ λ i. behind (thin_by (whole_length i - limit)) (whole_flat i)

  -- few enough already
  pub closed_few : length old / 2 ≤ limit → Closed limit old old (length old)
  unfolding thin_by behind
  closed_few h =
      let z : length old / 2 - limit ≡ 0 = omega arith in
      let same : answer ≡ old = answer_is ∙ rw z (nothing old) in
      record { count = sym (ap length same); room = omega arith; front = take_all (length old) old (omega arith) ∙ sym same }
    where
      nothing : (l : List ℤ) → behind (thin_by 0) l ≡ l
      nothing [] = refl
      nothing (a ∷ l) = refl

  module _ (m : ℕ) (d : m ≡ 2 * limit) (o : 1 ≤ limit) (h : limit < length old / 2) where
    abbrev front : List ℤ
    front = take m old

    front_length : length front ≡ m
    front_length = length-take-le m old (omega (arith, x.even))

    splits : old ≡ end_at front 0 ∷ gaps_of front ++ end_at front (length front - 1) ∷ drop m old
    splits =
        sym (take-append-drop m old)
        ∙ ap (λ (y : List ℤ). y ++ drop m old) (front_split front (omega (arith, front_length)))
        ∙ ap (λ (y : List ℤ). end_at front 0 ∷ y) (append_assoc (gaps_of front) (end_at front (length front - 1) ∷ []) (drop m old))

    opens_all : Open (gaps_of front) × Open (end_at front (length front - 1) ∷ drop m old)
    opens_all =
        let w : Open (drop 1 old) = rw whole_flat at (open_flat whole x.normal) in
        open_split (gaps_of front) (end_at front (length front - 1) ∷ drop m old)
        (let z = length-take-le (length front - 2) (drop 1 front) (omega (arith, length-drop 1 front)) in rw z (omega (arith, front_length)))
        (subst (λ (y : List ℤ). Open (drop 1 y)) splits w)

    pub fronts_start : Fronts answer old (take m old) m
    unfolding behind
    fronts_start =
        record {
          first = end_at front 0;
          last = end_at front (length front - 1);
          left = length old / 2 - limit;
          some = omega (arith, front_length);
          even = omega (arith, front_length);
          read = omega (arith, x.even);
          is = front_split front (omega (arith, front_length));
          wide = opens_all.0;
          next = opens_all.1;
          so_far = sym (answer_is ∙ ap (behind (thin_by (length old / 2 - limit))) splits);
        }

    pub fronts_done : {front : List ℤ} {k : ℕ} → Fronts answer old front k → length old ≤ k → length front ≡ m → (new : List ℤ) → new ≡ front ++ drop m old → Closed limit old new m
    unfolding thin_by
    fronts_done {front} {k} f q r new w =
        let z : f.left ≡ 0 = omega (arith, f.read) in
        let none : drop k old ≡ [] = drop_of_length-le old q in
        let same : front ≡ answer = f.is ∙ rw (z, none) at f.so_far in
        record { count = sym r ∙ ap length same; room = omega (arith, x.even); front = ap (take m) w ∙ take_at front (drop m old) m r ∙ same }
