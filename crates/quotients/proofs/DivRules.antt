-- The rules of div by the tests that the code makes, and by what its calls write. Assumes nothing.
use lib.IntN.{ℤ, pos, negsuc, suc_ℤ, pred_ℤ, ◌*ℤ◌}
use lib.ListN.{length}
use lib.Signed.{lt_z, quot_z, ◌≤ℤ◌}
use mathlib.Core.Path.{◌≡◌, refl, sym, ap, ◌∙◌, subst}
use mathlib.Core.Logic.{⊎_elim, ◌≢◌}
use mir.Syntax.{w64}
use mir.Val.{SFits}
use mir.Facts.{to_z-of_z}
use mathlib.Core.Bool.{Bool, true, false, cond, ◌&&◌}
use mathlib.Core.List.{List, [], ◌++◌, append-nil}
use Prim.Native.Nat.{◌+◌, ◌≤◌}
use native.Mathlib.Omega.{arith}
use Rattle.std.proofs.Common.{Option}
use Rattle.meaning.specs.Number.{MIN, MAX, ONE, within, smaller, larger}
use Rattle.meaning.specs.Interval.{Interval, span, only, Proper, each, without, Spread, one, two, pieces, spread, unscaled, least_corner, greatest_corner, div_plain, div_piece, div_spread, div_part, div_pair}
use Rattle.laws.proofs.Wrapping.{wrap_id}
use Rattle.laws.proofs.Machine.{rd, range_fits}
use Rattle.laws.proofs.Integers.{zarith, ≤ℤ_trans, and_both, from_within, if_yes, if_no}
use Rattle.meaning.specs.NumberIntervals.{flat}
use Rattle.laws.proofs.Flat.{length_flat}
use Rattle.laws.proofs.Members.{AllProper}
use Rattle.laws.proofs.Parts.{without_none, low_part, high_part, one_sign, ends_at_minus_one}
use Rattle.laws.proofs.Quotients.{Plain, start_left, end_left, start_right, end_right, plain_fits, plain_both, plain_left, plain_right, thousands_proper, div_few}
use Rattle.writer.specs.declared.Writer.{Writer}
use Rattle.slices.specs.Adds.{Holds, Adds}
use Rattle.slices.proofs.Behind.{room_two, adds_as, adds_next, holds_as, holds_first, holds_next, two_first, two_second, two_added}
use Rattle.interval.specs.declared.Interval as code
use Rattle.interval.specs.declared.divisor.Divisor.{Divisor}
use Rattle.interval.specs.Part.{spans, divisor_spans, of_part, of_divisor}
use Rattle.interval.proofs.Cuts.{each_cut, each_single, part_is, divisor_is}
use Rattle.quotients.specs.Hull.{wrapped_quotient, hull}

-- the ends of an interval from MIN to MAX
pub start_fits : {a b : ℤ} → Proper a b → SFits w64 a
start_fits o = range_fits (record { above = o.low; below = ≤ℤ_trans o.ordered o.high })

pub end_fits : {a b : ℤ} → Proper a b → SFits w64 b
end_fits o = range_fits (record { above = ≤ℤ_trans o.low o.ordered; below = o.high })

-- MIN + 1
abbrev pub AFTER : ℤ
AFTER = negsuc 9223372036854775806

-- ---- the hull of corner quotients

pub hull_room : (a b t f : ℤ) (w : Writer ℤ) → Holds (hull a b t f) w → w.len + 2 ≤ length w.room.now
unfolding hull
hull_room a b t f w h = room_two (least_corner wrapped_quotient a b t f) (greatest_corner wrapped_quotient a b t f) w h

-- a hull is one interval, so room for one is room for any
pub any_hull : (a b t f s e g h : ℤ) (w : Writer ℤ) → Holds (hull a b t f) w → Holds (hull s e g h) w
unfolding hull flat
any_hull a b t f s e g h w k = k

-- in a plain case each corner quotient fits, so it is its own wrapped value
pub hull_plain : {s e t f : ℤ} → Plain s e t f → hull s e t f ≡ div_plain s e t f
unfolding hull least_corner greatest_corner
hull_plain {s} {e} {t} {f} p =
    let a = wrap_id (quot_z s t) (plain_fits p (start_left p) (start_right p)) in
    let b = wrap_id (quot_z s f) (plain_fits p (start_left p) (end_right p)) in
    let c = wrap_id (quot_z e t) (plain_fits p (end_left p) (start_right p)) in
    let d = wrap_id (quot_z e f) (plain_fits p (end_left p) (end_right p)) in
    λ i. span (smaller (smaller (a i) (b i)) (smaller (c i) (d i))) (larger (larger (a i) (b i)) (larger (c i) (d i)))

hull_if_plain : {s e t f : ℤ} (k : Bool) → (k ≡ true → Plain s e t f) → cond k (hull s e t f) [] ≡ cond k (div_plain s e t f) []
hull_if_plain true p = hull_plain (p refl)
hull_if_plain false p = refl

-- the ends of a divisor are not 0
module _ {t f : ℤ} (r : t ≤ℤ f) (z : within t (pos 0) f ≡ false) where
  pub start_nonzero : t ≢ pos 0
  start_nonzero e = ⊎_elim (λ q. absurd (omega (zarith, q, e))) (λ q. absurd (omega (zarith, q, r, e))) (one_sign z)

  pub end_nonzero : f ≢ pos 0
  end_nonzero e = ⊎_elim (λ q. absurd (omega (zarith, q, r, e))) (λ q. absurd (omega (zarith, q, e))) (one_sign z)

-- ---- a spread piece D = [a,b] by R = [t,f]

module _ {a b t f : ℤ} (o : Proper a b) (r : t ≤ℤ f) (z : within t (pos 0) f ≡ false) {wraps : Bool} (asked : wraps ≡ (within a MIN b && within t (negsuc 0) f)) where
  -- D without MIN by R, and D by R without −1
  abbrev lefts : List Interval
  lefts = each (λ u v. div_plain u v t f) (without MIN a b)

  abbrev rights : List Interval
  rights = each (div_plain a b) (without (negsuc 0) t f)

  module _ (plain : wraps ≡ false) where
    pub plain_piece : hull a b t f ≡ div_piece a b t f
    unfolding div_piece
    plain_piece = let e = sym asked ∙ plain in hull_plain (plain_both o r (one_sign z) e) ∙ if_no (only MIN ++ (lefts ++ rights)) (div_plain a b t f) e

  module _ (special : wraps ≡ true) where
    inside : (within a MIN b ≡ true) × (within t (negsuc 0) f ≡ true)
    inside = and_both (within a MIN b) (within t (negsuc 0) f) (sym asked ∙ special)

    first_low : a ≤ℤ MIN
    first_low = (from_within a MIN b inside.0).above

    last_is : f ≡ negsuc 0
    last_is = ends_at_minus_one (one_sign z) inside.1

    wrapped_piece : only MIN ++ (lefts ++ rights) ≡ div_piece a b t f
    unfolding div_piece
    wrapped_piece = if_yes (only MIN ++ (lefts ++ rights)) (div_plain a b t f) (sym asked ∙ special)

    pub first_room : (w : Writer ℤ) → Holds (div_piece a b t f) w → w.len + 2 ≤ length w.room.now
    first_room w h = room_two MIN MIN w (two_first (only MIN) (lefts ++ rights) wrapped_piece w h)

    -- D starts at MIN, so the part above it is all that is left
    lefts_are : (u : Option code.Interval) → spans u ≡ cond (lt_z MIN b) (span (suc_ℤ MIN) b) [] → of_part (λ x y. hull x y t f) u ≡ lefts
    lefts_are u above =
        let n : lt_z a MIN ≡ false = omega (zarith, o.low) in
        part_is (λ x y. hull x y t f) u (lt_z MIN b) (suc_ℤ MIN) b above
        ∙ hull_if_plain (lt_z MIN b) (λ h. plain_left o r (one_sign z) (high_part first_low (omega zarith)))
        ∙ sym (ap (λ (x : Bool). cond x (div_plain a (pred_ℤ MIN) t f) [] ++ cond (lt_z MIN b) (div_plain AFTER b t f) []) n)
        ∙ each_cut (λ u v. div_plain u v t f) MIN a b inside.0

    -- R ends at −1, so the part below it is all that is left
    rights_are : (v : Option Divisor) → divisor_spans v ≡ cond (lt_z t (negsuc 0)) (span t (pred_ℤ (negsuc 0))) [] → of_divisor (hull a b) v ≡ rights
    rights_are v below =
        let n : lt_z (negsuc 0) f ≡ false = omega (zarith, last_is) in
        let part : List Interval = cond (lt_z t (negsuc 0)) (div_plain a b t (negsuc 1)) [] in
        divisor_is (hull a b) v (lt_z t (negsuc 0)) t (pred_ℤ (negsuc 0)) below
        ∙ hull_if_plain (lt_z t (negsuc 0)) (λ h. plain_right o r (one_sign z) (low_part (omega zarith) (omega (zarith, last_is))))
        ∙ sym (append-nil part)
        ∙ sym (ap (λ (x : Bool). part ++ cond x (div_plain a b (pos 0) f) []) n)
        ∙ each_cut (div_plain a b) (negsuc 0) t f inside.1

    -- the calls for D without MIN and for R without −1, after that for {MIN}
    module _ {w m : Writer ℤ} (h : Holds (div_piece a b t f) w) (first : Adds (only MIN) m w) (u : Option code.Interval) (above : spans u ≡ cond (lt_z MIN b) (span (suc_ℤ MIN) b) []) where
      rest_room : Holds (lefts ++ rights) m
      rest_room = two_second (only MIN) (lefts ++ rights) wrapped_piece w h first

      pub lefts_room : Holds (of_part (λ x y. hull x y t f) u) m
      lefts_room = holds_as m (lefts_are u above) (holds_first lefts rights m rest_room)

      module _ {n : Writer ℤ} (second : Adds (of_part (λ x y. hull x y t f) u) n m) (v : Option Divisor) (below : divisor_spans v ≡ cond (lt_z t (negsuc 0)) (span t (pred_ℤ (negsuc 0))) []) where
        pub rights_room : Holds (of_divisor (hull a b) v) n
        rights_room = holds_as n (rights_are v below) (holds_next (adds_as (lefts_are u above) second) rights rest_room)

        pub piece_added : {k : Writer ℤ} → Adds (of_divisor (hull a b) v) k n → Adds (div_piece a b t f) k w
        piece_added third = two_added (only MIN) (lefts ++ rights) wrapped_piece w h first (adds_next (adds_as (lefts_are u above) second) (adds_as (rights_are v below) third))

-- ---- a part of the divisor, by the spread of 1000·s and 1000·e

module _ {s e : ℤ} (o : s ≤ℤ e) where
  pub spread_part : (t f : ℤ) {x : Spread} → x ≡ spread (ONE *ℤ s) (ONE *ℤ e) → div_spread x t f ≡ div_part s e t f
  unfolding div_part
  spread_part t f i = ap (λ (x : Spread). div_spread x t f) i

  module _ {u v : ℤ} (i : one u v ≡ spread (ONE *ℤ s) (ONE *ℤ e)) where
    piece_proper : Proper u v
    unfolding pieces
    piece_proper = (subst (λ (x : Spread). AllProper (pieces unscaled x)) (sym i) (thousands_proper o)).0

    pub piece_ordered : rd u ≤ℤ rd v
    piece_ordered = rw (to_z-of_z (start_fits piece_proper), to_z-of_z (end_fits piece_proper)) piece_proper.ordered

    pub one_part : (t f : ℤ) → div_piece (rd u) (rd v) t f ≡ div_part s e t f
    one_part t f = (λ j. div_piece (to_z-of_z (start_fits piece_proper) j) (to_z-of_z (end_fits piece_proper) j) t f) ∙ spread_part t f i

  module _ {u v : ℤ} (i : two u v ≡ spread (ONE *ℤ s) (ONE *ℤ e)) where
    pieces_proper : Proper u MAX × Proper MIN v
    unfolding pieces
    pieces_proper = let p = subst (λ (x : Spread). AllProper (pieces unscaled x)) (sym i) (thousands_proper o) in (p.0, p.1.0)

    pub two_part : (t f : ℤ) → div_piece (rd u) MAX t f ++ div_piece MIN (rd v) t f ≡ div_part s e t f
    two_part t f = (λ j. div_piece (to_z-of_z (start_fits pieces_proper.0) j) MAX t f ++ div_piece MIN (to_z-of_z (end_fits pieces_proper.1) j) t f) ∙ spread_part t f i

-- ---- the divisor

module _ {s e t f : ℤ} (o : Proper s e) (q : Proper t f) {cut : Bool} (asked : cut ≡ within t (pos 0) f) where
  pair_room : (w : Writer ℤ) → w.len + 24 ≤ length w.room.now → Holds (div_pair s e t f) w
  pair_room w h = omega (arith, length_flat (div_pair s e t f), div_few o q)

  module _ (outside : cut ≡ false) where
    pub pair_plain : div_part s e t f ≡ div_pair s e t f
    unfolding div_pair
    pair_plain = sym (ap (each (div_part s e)) (without_none (pos 0) t f (sym asked ∙ outside)) ∙ each_single (div_part s e) t f)

    pub plain_room : (w : Writer ℤ) → w.len + 24 ≤ length w.room.now → Holds (div_part s e t f) w
    plain_room w h = holds_as w pair_plain (pair_room w h)

  -- by the part below 0, and by the part above it
  abbrev lows : List Interval
  lows = cond (lt_z t (pos 0)) (div_part s e t (negsuc 0)) []

  abbrev highs : List Interval
  highs = cond (lt_z (pos 0) f) (div_part s e (pos 1) f) []

  module _ (inside : cut ≡ true) where
    pair_cut : lows ++ highs ≡ div_pair s e t f
    unfolding div_pair
    pair_cut = each_cut (div_part s e) (pos 0) t f (sym asked ∙ inside)

    -- the calls for the two
    module _ (u : Option Divisor) (negatives : divisor_spans u ≡ cond (lt_z t (pos 0)) (span t (negsuc 0)) []) where
      lows_are : of_divisor (div_part s e) u ≡ lows
      lows_are = divisor_is (div_part s e) u (lt_z t (pos 0)) t (negsuc 0) negatives

      module _ (w : Writer ℤ) (h : w.len + 24 ≤ length w.room.now) where
        pub lows_room : Holds (of_divisor (div_part s e) u) w
        lows_room = holds_as w lows_are (two_first lows highs pair_cut w (pair_room w h))

        module _ {m : Writer ℤ} (first : Adds (of_divisor (div_part s e) u) m w) (v : Option Divisor) (positives : divisor_spans v ≡ cond (lt_z (pos 0) f) (span (pos 1) f) []) where
          highs_are : of_divisor (div_part s e) v ≡ highs
          highs_are = divisor_is (div_part s e) v (lt_z (pos 0) f) (pos 1) f positives

          pub highs_room : Holds (of_divisor (div_part s e) v) m
          highs_room = holds_as m highs_are (two_second lows highs pair_cut w (pair_room w h) (adds_as lows_are first))

          pub pair_added : {n : Writer ℤ} → Adds (of_divisor (div_part s e) v) n m → Adds (div_pair s e t f) n w
          pair_added second = two_added lows highs pair_cut w (pair_room w h) (adds_as lows_are first) (adds_as highs_are second)
