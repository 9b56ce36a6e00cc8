-- neg and abs of an interval: each turns the order around or keeps it, and MIN, whose result is MIN again, stands by itself. Assumes nothing.
use lib.IntN.{ℤ, pos, neg_ℤ, nat_abs}
use lib.ListN.{length}
use lib.Signed.{le_z, ◌≤ℤ◌, ◌<ℤ◌, ≤ℤ_refl}
use mathlib.Core.Path.{◌≡◌, refl, sym, ap, ◌∙◌, subst}
use mathlib.Core.Bool.{true, false, cond}
use mathlib.Core.Logic.{⊎_elim}
use mathlib.Core.List.{List, [], ◌++◌}
use Prim.Native.Nat.{◌≤◌}
use native.Mathlib.Omega.{arith}
use Rattle.meaning.specs.Number.{MIN, MAX, Between, eq_z, larger, window, wrap, negative, absolute}
use Rattle.meaning.specs.Interval.{Interval, span, only, Proper, neg_pair, abs_rest, abs_pair}
use Rattle.meaning.specs.NumberIntervals.{◌∈◌, here, there}
use Rattle.laws.proofs.Integers.{zarith, by_test, cond_case, eq_z_is, up_neg, down_neg, neg_parts, abs_parts, one_part, larger_case, larger_ge, within_case}
use Rattle.laws.proofs.Machine.{fits_out}
use Rattle.laws.proofs.Members.{AllProper, between, in_span, in_only, in_either}
use Rattle.laws.proofs.Wrapping.{wrap_id}

-- a member of [s,e] that gives w
pub record From1 (op : ℤ → ℤ) (s e w : ℤ) : Type 0 where
  pub member : ℤ
  pub member_in : Between s member e
  pub gives : op member ≡ w

-- ---- the negative

negative_min : negative MIN ≡ MIN
unfolding negative wrap window
negative_min = refl

negative_plain : {x : ℤ} → MIN <ℤ x → x ≤ℤ MAX → negative x ≡ neg_ℤ x
unfolding negative
negative_plain {x} h k = wrap_id (neg_ℤ x) (fits_out _ (omega (zarith, neg_parts x), omega (zarith, neg_parts x)))

neg_case
    : (P : List Interval → Type 0) (s e : ℤ)
    → (eq_z s MIN ≡ true → eq_z e MIN ≡ true → P (only MIN))
    → (eq_z s MIN ≡ true → eq_z e MIN ≡ false → P (span (neg_ℤ e) MAX ++ only MIN))
    → (eq_z s MIN ≡ false → P (span (neg_ℤ e) (neg_ℤ s)))
    → P (neg_pair s e)
unfolding neg_pair
neg_case P s e f g h =
    cond_case P (eq_z s MIN) (cond (eq_z e MIN) (only MIN) (span (neg_ℤ e) MAX ++ only MIN)) (span (neg_ℤ e) (neg_ℤ s))
    (λ t. cond_case P (eq_z e MIN) (only MIN) (span (neg_ℤ e) MAX ++ only MIN) (f t) (g t))
    h

pub neg_holds : {s x e : ℤ} → Proper s e → Between s x e → negative x ∈ neg_pair s e
neg_holds {s} {x} {e} p b =
    let ns = neg_parts s in let ne = neg_parts e in let nx = neg_parts x in
    by_test (eq_z x MIN)
    (λ t. let i : negative x ≡ MIN = ap negative (eq_z_is t) ∙ negative_min in
    subst (λ w. w ∈ neg_pair s e) (sym i)
    (neg_case (λ l. MIN ∈ l) s e
    (λ _ _. in_only MIN)
    (λ _ _. there (in_only MIN))
    (λ u. absurd (omega zarith))))
    (λ t. let i : negative x ≡ neg_ℤ x = negative_plain (omega zarith) (omega zarith) in
    subst (λ w. w ∈ neg_pair s e) (sym i)
    (neg_case (λ l. neg_ℤ x ∈ l) s e
    (λ u v. absurd (omega zarith))
    (λ u v. here (between (omega zarith) (omega zarith)))
    (λ u. here (between (omega zarith) (omega zarith)))))

-- w is the negative of −w
neg_back : {s e w : ℤ} → MIN <ℤ w → w ≤ℤ MAX → neg_ℤ e ≤ℤ w → w ≤ℤ neg_ℤ s → From1 negative s e w
neg_back {s} {e} {w} h k a b =
    let ns = neg_parts s in let ne = neg_parts e in let nw = neg_parts w in let nn = neg_parts (neg_ℤ w) in
    let i : neg_ℤ (neg_ℤ w) ≡ w = omega zarith in
    record { member = neg_ℤ w; member_in = between (omega zarith) (omega zarith); gives = negative_plain (omega zarith) (omega zarith) ∙ i }

neg_min : {s e w : ℤ} → Proper s e → eq_z s MIN ≡ true → Between MIN w MIN → From1 negative s e w
neg_min {s} {e} {w} p t b =
    let i : MIN ≡ w = omega zarith in
    record { member = s; member_in = between (≤ℤ_refl s) p.ordered; gives = ap negative (eq_z_is t) ∙ negative_min ∙ i }

pub neg_only : {s e w : ℤ} → Proper s e → w ∈ neg_pair s e → From1 negative s e w
neg_only {s} {e} {w} p m =
    let ns = neg_parts s in let ne = neg_parts e in
    neg_case (λ l. w ∈ l → From1 negative s e w) s e
    (λ t _ n. neg_min p t (in_span n))
    (λ t _ n. ⊎_elim
    (λ j. let b = in_span j in neg_back (omega zarith) (omega zarith) (omega zarith) (omega zarith))
    (λ j. neg_min p t (in_span j))
    (in_either (span (neg_ℤ e) MAX) n))
    (λ t n. let b = in_span n in neg_back (omega zarith) (omega zarith) (omega zarith) (omega zarith))
    m

min_proper : Proper MIN MIN
min_proper = record { low = omega zarith; ordered = omega zarith; high = omega zarith }

pub neg_proper : {s e : ℤ} → Proper s e → AllProper (neg_pair s e)
neg_proper {s} {e} p =
    let ns = neg_parts s in let ne = neg_parts e in
    neg_case AllProper s e
    (λ _ _. (min_proper, tt))
    (λ t u. (record { low = omega zarith; ordered = omega zarith; high = omega zarith }, (min_proper, tt)))
    (λ t. (record { low = omega zarith; ordered = omega zarith; high = omega zarith }, tt))

pub neg_few : (s e : ℤ) → length (neg_pair s e) ≤ 2
neg_few s e = neg_case (λ l. length l ≤ 2) s e (λ _ _. omega arith) (λ _ _. omega arith) (λ _. omega arith)

-- ---- the absolute value

absolute_min : absolute MIN ≡ MIN
unfolding absolute wrap window
absolute_min = refl

absolute_plain : {x : ℤ} → MIN <ℤ x → x ≤ℤ MAX → absolute x ≡ pos (nat_abs x)
unfolding absolute
absolute_plain {x} h k = wrap_id (pos (nat_abs x)) (fits_out _ (omega (zarith, abs_parts x, one_part x), omega (zarith, abs_parts x, one_part x)))

rest_case
    : (P : List Interval → Type 0) (s e : ℤ)
    → (pos 0 ≤ℤ s → P (span s e))
    → (s <ℤ pos 0 → e ≤ℤ pos 0 → P (span (neg_ℤ e) (neg_ℤ s)))
    → (s <ℤ pos 0 → pos 0 <ℤ e → P (span (pos 0) (larger (neg_ℤ s) e)))
    → P (abs_rest s e)
unfolding abs_rest
rest_case P s e f g h =
    cond_case P (le_z (pos 0) s) (span s e) (cond (le_z e (pos 0)) (span (neg_ℤ e) (neg_ℤ s)) (span (pos 0) (larger (neg_ℤ s) e)))
    (λ t. f (omega zarith))
    (λ t. cond_case P (le_z e (pos 0)) (span (neg_ℤ e) (neg_ℤ s)) (span (pos 0) (larger (neg_ℤ s) e))
    (λ u. g (omega zarith) (omega zarith))
    (λ u. h (omega zarith) (omega zarith)))

-- [s,e] without MIN
module _ {s e : ℤ} (low : MIN <ℤ s) (ordered : s ≤ℤ e) (high : e ≤ℤ MAX) where
  rest_holds : {x : ℤ} → Between s x e → absolute x ∈ abs_rest s e
  rest_holds {x} b =
      let ns = neg_parts s in let ne = neg_parts e in let n = abs_parts x in let o = one_part x in
      let i : absolute x ≡ pos (nat_abs x) = absolute_plain (omega zarith) (omega zarith) in
      subst (λ w. w ∈ abs_rest s e) (sym i)
      (rest_case (λ l. pos (nat_abs x) ∈ l) s e
      (λ t. here (between (omega zarith) (omega zarith)))
      (λ t u. here (between (omega zarith) (omega zarith)))
      (λ t u. here (between (omega zarith) (omega (zarith, larger_ge (neg_ℤ s) e)))))

  -- w is the absolute value of w, or of −w
  as_itself : {w : ℤ} → pos 0 ≤ℤ w → s ≤ℤ w → w ≤ℤ e → From1 absolute s e w
  as_itself {w} z h k =
      let i : pos (nat_abs w) ≡ w = omega (zarith, abs_parts w, one_part w) in
      record { member = w; member_in = between h k; gives = absolute_plain (omega zarith) (omega zarith) ∙ i }

  as_negative : {w : ℤ} → pos 0 ≤ℤ w → s ≤ℤ neg_ℤ w → neg_ℤ w ≤ℤ e → From1 absolute s e w
  as_negative {w} z h k =
      let i : pos (nat_abs (neg_ℤ w)) ≡ w = omega (zarith, abs_parts (neg_ℤ w), one_part w, up_neg w, down_neg w) in
      record { member = neg_ℤ w; member_in = between h k; gives = absolute_plain (omega zarith) (omega zarith) ∙ i }

  rest_only : {w : ℤ} → w ∈ abs_rest s e → From1 absolute s e w
  rest_only {w} m =
      let ns = neg_parts s in let ne = neg_parts e in let nw = neg_parts w in
      rest_case (λ l. w ∈ l → From1 absolute s e w) s e
      (λ t n. let b = in_span n in as_itself (omega zarith) b.above b.below)
      (λ t u n. let b = in_span n in as_negative (omega zarith) (omega zarith) (omega zarith))
      (λ t u. larger_case (λ h. w ∈ span (pos 0) h → From1 absolute s e w) (neg_ℤ s) e
      (λ v n. let b = in_span n in as_itself b.above (omega zarith) b.below)
      (λ v n. let b = in_span n in as_negative b.above (omega zarith) (omega zarith)))
      m

  rest_proper : AllProper (abs_rest s e)
  rest_proper =
      let ns = neg_parts s in let ne = neg_parts e in
      rest_case AllProper s e
      (λ t. (record { low = omega zarith; ordered = ordered; high = high }, tt))
      (λ t u. (record { low = omega zarith; ordered = omega zarith; high = omega zarith }, tt))
      (λ t u. larger_case (λ h. AllProper (span (pos 0) h)) (neg_ℤ s) e
      (λ v. (record { low = omega zarith; ordered = omega zarith; high = high }, tt))
      (λ v. (record { low = omega zarith; ordered = omega zarith; high = omega zarith }, tt)))

rest_few : (s e : ℤ) → length (abs_rest s e) ≤ 1
rest_few s e = rest_case (λ l. length l ≤ 1) s e (λ _. omega arith) (λ _ _. omega arith) (λ _ _. omega arith)

abs_case
    : (P : List Interval → Type 0) (s e : ℤ)
    → (s ≤ℤ MIN → eq_z e MIN ≡ true → P (only MIN))
    → (s ≤ℤ MIN → MIN ≤ℤ e → eq_z e MIN ≡ false → P (only MIN ++ abs_rest (neg_ℤ MAX) e))
    → (MIN <ℤ s → P (abs_rest s e))
    → (e <ℤ MIN → P (abs_rest s e))
    → P (abs_pair s e)
unfolding abs_pair
abs_case P s e f g h k =
    within_case (λ t. P (cond t (only MIN ++ cond (eq_z e MIN) [] (abs_rest (neg_ℤ MAX) e)) (abs_rest s e))) s MIN e
    (λ a b. cond_case (λ l. P (only MIN ++ l)) (eq_z e MIN) [] (abs_rest (neg_ℤ MAX) e) (f a) (g a b))
    h
    k

pub abs_holds : {s x e : ℤ} → Proper s e → Between s x e → absolute x ∈ abs_pair s e
abs_holds {s} {x} {e} p b =
    by_test (eq_z x MIN)
    (λ t. let i : absolute x ≡ MIN = ap absolute (eq_z_is t) ∙ absolute_min in
    subst (λ w. w ∈ abs_pair s e) (sym i)
    (abs_case (λ l. MIN ∈ l) s e
    (λ _ _. in_only MIN)
    (λ _ _ _. here (between (≤ℤ_refl MIN) (≤ℤ_refl MIN)))
    (λ u. absurd (omega zarith))
    (λ u. absurd (omega zarith))))
    (λ t. abs_case (λ l. absolute x ∈ l) s e
    (λ u v. absurd (omega zarith))
    (λ u v w. there (rest_holds (omega zarith) (omega zarith) p.high (between (omega zarith) b.below)))
    (λ h. rest_holds h p.ordered p.high b)
    (λ u. absurd (omega zarith)))

abs_min : {s e w : ℤ} → Proper s e → s ≤ℤ MIN → Between MIN w MIN → From1 absolute s e w
abs_min {s} {e} {w} p t b =
    let i : MIN ≡ w = omega zarith in
    let j : s ≡ MIN = omega zarith in
    record { member = s; member_in = between (≤ℤ_refl s) p.ordered; gives = ap absolute j ∙ absolute_min ∙ i }

pub abs_only : {s e w : ℤ} → Proper s e → w ∈ abs_pair s e → From1 absolute s e w
abs_only {s} {e} {w} p m =
    abs_case (λ l. w ∈ l → From1 absolute s e w) s e
    (λ t _ n. abs_min p t (in_span n))
    (λ t u v n. ⊎_elim
    (λ j. abs_min p t (in_span j))
    (λ j. let r = rest_only (omega zarith) (omega zarith) p.high j in
    record { member = r.member; member_in = between (omega (zarith, r.member_in.above)) r.member_in.below; gives = r.gives })
    (in_either (only MIN) n))
    (λ h n. rest_only h p.ordered p.high n)
    (λ t. absurd (omega zarith))
    m

pub abs_proper : {s e : ℤ} → Proper s e → AllProper (abs_pair s e)
abs_proper {s} {e} p =
    abs_case AllProper s e
    (λ _ _. (min_proper, tt))
    (λ t u v. (min_proper, rest_proper (omega zarith) (omega zarith) p.high))
    (λ h. rest_proper h p.ordered p.high)
    (λ t. absurd (omega zarith))

pub abs_few : (s e : ℤ) → length (abs_pair s e) ≤ 2
abs_few s e =
    abs_case (λ l. length l ≤ 2) s e
    (λ _ _. omega arith)
    (λ _ _ _. omega (arith, rest_few (neg_ℤ MAX) e))
    (λ _. omega (arith, rest_few s e))
    (λ _. omega (arith, rest_few s e))
