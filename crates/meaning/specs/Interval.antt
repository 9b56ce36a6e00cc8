-- Interval (01, "Interval"): the results of one pair of intervals, before joining. The left interval L is [s,e], the right one R is [t,f]. Assumes nothing.
use Rattle.std.specs.Prelude.{leb, eqb, ℤ, pos, negsuc, neg_ℤ, nat_abs, ◌+ℤ◌, ◌-ℤ◌, ◌*ℤ◌, ◌≤ℤ◌, Bool, cond, ◌&&◌, List, [], ◌∷◌, ◌++◌, ℕ, zero, suc, ◌-◌, ◌*◌, ◌/◌, ◌%◌, ◌^◌, min, max}
use Rattle.std.proofs.Math.IntN.{suc_ℤ, pred_ℤ}
use Rattle.std.specs.Int.Signed.{le_z, lt_z, quot_z}
use Rattle.meaning.specs.Number.{MIN, MAX, ONE, within, eq_z, smaller, larger, window, wrap, thousandth, least_product, greatest_product}

pub record Interval : Type 0 where
  pub lo : ℤ
  pub hi : ℤ

-- the list of one interval
abbrev pub span : ℤ → ℤ → List Interval
span lo hi = record { lo = lo; hi = hi } ∷ []

abbrev pub only : ℤ → List Interval
only z = span z z

-- start at most end, and both from MIN to MAX
pub record Proper (s e : ℤ) : Type 0 where
  pub low : MIN ≤ℤ s
  pub ordered : s ≤ℤ e
  pub high : e ≤ℤ MAX

-- the results of g on each interval, one after the other
unfoldable pub each : (ℤ → ℤ → List Interval) → List Interval → List Interval
each g [] = []
each g (i ∷ r) = g i.lo i.hi ++ each g r

-- [s,e] without the number c: 0, 1 or 2 parts
unfoldable pub without : ℤ → ℤ → ℤ → List Interval
without c s e =
    cond (within s c e)
    (cond (lt_z s c) (span s (pred_ℤ c)) [] ++ cond (lt_z c e) (span (suc_ℤ c) e) [])
    (span s e)

-- what two intervals have in common
unfoldable pub meet_pair : ℤ → ℤ → ℤ → ℤ → List Interval
meet_pair s e t f = cond (le_z (larger s t) (smaller e f)) (span (larger s t) (smaller e f)) []

-- each interval cut to [lo,hi], whose ends may lie past MIN and MAX; one without a number there is dropped
abbrev pub cut_to : ℤ → ℤ → List Interval → List Interval
cut_to lo hi a = each (λ s e. meet_pair s e lo hi) a

-- ---- neg: [−e,−s]; but [MIN,e], e ≠ MIN, gives [−e,MAX] and {MIN}; {MIN} gives {MIN}

unfoldable pub neg_pair : ℤ → ℤ → List Interval
neg_pair s e =
    cond (eq_z s MIN)
    (cond (eq_z e MIN) (only MIN) (span (neg_ℤ e) MAX ++ only MIN))
    (span (neg_ℤ e) (neg_ℤ s))

-- ---- abs: MIN in L gives {MIN}, and [−MAX,e] goes on if e ≠ MIN

-- then [s,e] if s ≥ 0, [−e,−s] if e ≤ 0, else [0, larger of −s and e]
unfoldable pub abs_rest : ℤ → ℤ → List Interval
abs_rest s e =
    cond (le_z (pos 0) s) (span s e)
    (cond (le_z e (pos 0)) (span (neg_ℤ e) (neg_ℤ s))
    (span (pos 0) (larger (neg_ℤ s) e)))

unfoldable pub abs_pair : ℤ → ℤ → List Interval
abs_pair s e =
    cond (within s MIN e)
    (only MIN ++ cond (eq_z e MIN) [] (abs_rest (neg_ℤ MAX) e))
    (abs_rest s e)

-- ---- exact ranges on the circle of 2^64 numbers

-- [MIN,MAX]; [u,v]; [u,MAX] and [MIN,v]. Here u and v are wrapped numbers by their places, which windows 0 and 1 turn round, and MIN and MAX the ends that the rule itself writes
pub data Spread : Type 0 where
  whole : Spread
  one : ℤ → ℤ → Spread
  two : ℤ → ℤ → Spread

-- its intervals, with `scale` done to u and v and not to the ends that the rule writes
unfoldable pub pieces : (ℤ → ℤ) → Spread → List Interval
pieces scale whole = span MIN MAX
pieces scale (one u v) = span (scale u) (scale v)
pieces scale (two u v) = span (scale u) MAX ++ span MIN (scale v)

-- the distance q − p is 2^64 − 1 or more
abbrev pub far : ℤ → ℤ → Bool
far p q = le_z (pos (2 ^ 64 - 1)) (q -ℤ p)

-- add, sub: a far distance gives [MIN,MAX], else wrap and split at the end of the range
unfoldable pub split : ℤ → ℤ → Spread
split p q = cond (far p q) whole (cond (le_z (wrap p) (wrap q)) (one (wrap p) (wrap q)) (two (wrap p) (wrap q)))

-- mul, div: a far distance gives [MIN,MAX]. Same window: [u,v]. Windows 0 and 1: [v,MAX], [MIN,u]. Other neighbouring windows: [u,MAX], [MIN,v]
unfoldable pub spread : ℤ → ℤ → Spread
spread p q =
    cond (far p q) whole
    (cond (eq_z (window p) (window q)) (one (wrap p) (wrap q))
    (cond (eq_z (window p) (pos 0) && eq_z (window q) (pos 1)) (two (wrap q) (wrap p))
    (two (wrap p) (wrap q))))

-- ---- add, sub: exact ends

abbrev pub unscaled : ℤ → ℤ
unscaled z = z

unfoldable pub add_pair : ℤ → ℤ → ℤ → ℤ → List Interval
add_pair s e t f = pieces unscaled (split (s +ℤ t) (e +ℤ f))

unfoldable pub sub_pair : ℤ → ℤ → ℤ → ℤ → List Interval
sub_pair s e t f = pieces unscaled (split (s -ℤ f) (e -ℤ t))

-- ---- mul: p, q are the least and greatest corner products; u and v are first divided by 1000

unfoldable pub least_corner : (ℤ → ℤ → ℤ) → ℤ → ℤ → ℤ → ℤ → ℤ
least_corner op s e t f = smaller (smaller (op s t) (op s f)) (smaller (op e t) (op e f))

unfoldable pub greatest_corner : (ℤ → ℤ → ℤ) → ℤ → ℤ → ℤ → ℤ → ℤ
greatest_corner op s e t f = larger (larger (op s t) (op s f)) (larger (op e t) (op e f))

-- the rule of 01, before the cut of 02, (vii)
unfoldable pub uncut_pair : ℤ → ℤ → ℤ → ℤ → List Interval
uncut_pair s e t f = pieces thousandth (spread (least_corner ◌*ℤ◌ s e t f) (greatest_corner ◌*ℤ◌ s e t f))

-- each interval of the rule is cut to the range of products (02, (vii)); none is dropped: `mul_kept` of Demand2
unfoldable pub mul_pair : ℤ → ℤ → ℤ → ℤ → List Interval
mul_pair s e t f = cut_to least_product greatest_product (uncut_pair s e t f)

-- ---- div

-- a plain case: the hull of four corner quotients
abbrev pub div_plain : ℤ → ℤ → ℤ → ℤ → List Interval
div_plain a b t f = span (least_corner quot_z a b t f) (greatest_corner quot_z a b t f)

-- a spread piece D = [a,b] by R without 0: if MIN is in D and −1 in R, then {MIN}, D without MIN by R, and D by R without −1, empty ones skipped
unfoldable pub div_piece : ℤ → ℤ → ℤ → ℤ → List Interval
div_piece a b t f =
    cond (within a MIN b && within t (negsuc 0) f)
    (only MIN ++ (each (λ u v. div_plain u v t f) (without MIN a b) ++ each (div_plain a b) (without (negsuc 0) t f)))
    (div_plain a b t f)

-- each spread piece is divided; [MIN,MAX] of a far distance is not
abbrev pub div_spread : Spread → ℤ → ℤ → List Interval
div_spread whole t f = span MIN MAX
div_spread (one u v) t f = div_piece u v t f
div_spread (two u v) t f = div_piece u MAX t f ++ div_piece MIN v t f

-- a part of the divisor: p = 1000·s, q = 1000·e
unfoldable pub div_part : ℤ → ℤ → ℤ → ℤ → List Interval
div_part s e t f = div_spread (spread (ONE *ℤ s) (ONE *ℤ e)) t f

-- 0 is cut out of the divisor, and each part that is left divides
unfoldable pub div_pair : ℤ → ℤ → ℤ → ℤ → List Interval
div_pair s e t f = each (div_part s e) (without (pos 0) t f)

-- ---- rem, the first rule that fits: (a) to (f). `g` is the rule list again, for the parts that a rule goes on with

abbrev pub PairOp : Type 0
PairOp = ℤ → ℤ → ℤ → ℤ → List Interval

-- L without c by R, and L by R without c
abbrev pub cut_left : PairOp → ℤ → PairOp
cut_left g c s e t f = each (λ a b. g a b t f) (without c s e)

abbrev pub cut_right : PairOp → ℤ → PairOp
cut_right g c s e t f = each (g s e) (without c t f)

-- least and greatest magnitude in an interval that holds no 0
abbrev pub least_magnitude : ℤ → ℤ → ℕ
least_magnitude s e = min (nat_abs s) (nat_abs e)

abbrev pub greatest_magnitude : ℤ → ℤ → ℕ
greatest_magnitude s e = max (nat_abs s) (nat_abs e)

-- (a) 0 in R: cut, take the parts
abbrev pub rule_a : PairOp → PairOp
rule_a g s e t f = cut_right g (pos 0) s e t f

-- (b) MIN in L and −1 in R: L without MIN by R, L by R without −1, and {0}
abbrev pub rule_b : PairOp → PairOp
rule_b g s e t f = cut_left g MIN s e t f ++ (cut_right g (negsuc 0) s e t f ++ only (pos 0))

-- (c) 0 in L: the parts of L, and {0}
abbrev pub rule_c : PairOp → PairOp
rule_c g s e t f = cut_left g (pos 0) s e t f ++ only (pos 0)

-- L against {MIN}: L itself, or {0} if L = {MIN}, or [MIN,0] if L holds MIN and more
unfoldable pub against : ℤ → ℤ → List Interval
against s e = cond (within s MIN e) (cond (lt_z MIN e) (span MIN (pos 0)) (only (pos 0))) (span s e)

-- (d) MIN in R: L by R without MIN, then L against {MIN}
abbrev pub rule_d : PairOp → PairOp
rule_d g s e t f = cut_right g MIN s e t f ++ against s e

-- (e) MIN in L: L without MIN by R, and [1−d,0], d the greatest magnitude in R
abbrev pub rule_e : PairOp → PairOp
rule_e g s e t f = cut_left g MIN s e t f ++ span (pos 1 -ℤ pos (greatest_magnitude t f)) (pos 0)

-- an interval of magnitudes, negated if L is negative
abbrev pub signed_span : Bool → ℕ → ℕ → List Interval
signed_span negated l h = cond negated (span (neg_ℤ (pos h)) (neg_ℤ (pos l))) (span (pos l) (pos h))

-- on magnitudes [a,b] and [c,d]: d ≤ b−a gives [0,d−1]; c = d with its greatest multiple up to b at or above a gives [0, b rem c],
-- and [a rem c, c−1] unless a is that multiple; c = d without gives [a rem c, b rem c]; else [0,d−1]
unfoldable pub rem_magnitudes : Bool → ℕ → ℕ → ℕ → ℕ → List Interval
rem_magnitudes negated a b c d =
    cond (leb d (b - a)) (signed_span negated 0 (d - 1))
    (cond (eqb c d)
    (cond (leb a (b / c * c))
    (signed_span negated 0 (b % c) ++ cond (eqb a (b / c * c)) [] (signed_span negated (a % c) (c - 1)))
    (signed_span negated (a % c) (b % c)))
    (signed_span negated 0 (d - 1)))

-- (f)
unfoldable pub rule_f : PairOp
rule_f s e t f = rem_magnitudes (lt_z s (pos 0)) (least_magnitude s e) (greatest_magnitude s e) (least_magnitude t f) (greatest_magnitude t f)

unfoldable pub rem_step : PairOp → PairOp
rem_step g s e t f =
    cond (within t (pos 0) f) (rule_a g s e t f)
    (cond (within s MIN e && within t (negsuc 0) f) (rule_b g s e t f)
    (cond (within s (pos 0) e) (rule_c g s e t f)
    (cond (within t MIN f) (rule_d g s e t f)
    (cond (within s MIN e) (rule_e g s e t f)
    (rule_f s e t f)))))

-- with a number that falls at each self-call
unfoldable pub rem_with : ℕ → PairOp
rem_with zero s e t f = []
rem_with (suc n) s e t f = rem_step (rem_with n) s e t f

-- each self-call loses one of five tests (0, −1 and MIN in R; 0 and MIN in L), so 6 is enough: `rem_rules` of laws/proofs/Remainders.antt
unfoldable pub rem_pair : PairOp
rem_pair s e t f = rem_with 6 s e t f
