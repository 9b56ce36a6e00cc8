-- What neg and abs of one interval are in each case. Assumes nothing.
use mathlib.Core.Path.{◌≡◌}
use mathlib.Core.Bool.{true, false}
use mathlib.Core.List.{◌++◌}
use lib.IntN.{ℤ, pos, neg_ℤ, ◌-ℤ◌}
use lib.Signed.{le_z, ◌≤ℤ◌, ◌<ℤ◌}
use Rattle.meaning.specs.Number.{MIN, MAX, within, eq_z, larger}
use Rattle.meaning.specs.Interval.{span, only, neg_pair, abs_rest, abs_pair}
use mir.Syntax.{w64}
use mir.Val.{SFits}
use Rattle.std.specs.Int.{int_max}
use Rattle.laws.proofs.Integers.{zarith, is_within, below_out}
use Rattle.laws.proofs.Machine.{num, rd, neg_ok, neg_is}

-- a number above MIN, negated in the code
pub negated : {x : ℤ} → SFits w64 x → MIN <ℤ x → rd (pos 0 -ℤ rd x) ≡ neg_ℤ x
negated f h = neg_is f (neg_ok f (omega (zarith, num f)))

pub max_larger : (a b : ℤ) → int_max a b ≡ larger b a
max_larger a b = grind zarith

module _ (s e : ℤ) where
  pub neg_least : s ≡ MIN → e ≡ MIN → only MIN ≡ neg_pair s e
  unfolding neg_pair
  neg_least h k =
      let t : eq_z s MIN ≡ true = omega zarith in
      let u : eq_z e MIN ≡ true = omega zarith in
      rw (t, u)

  pub neg_from_least : s ≡ MIN → MIN <ℤ e → span (neg_ℤ e) MAX ++ only MIN ≡ neg_pair s e
  unfolding neg_pair
  neg_from_least h k =
      let t : eq_z s MIN ≡ true = omega zarith in
      let u : eq_z e MIN ≡ false = omega zarith in
      rw (t, u)

  pub neg_plain : MIN <ℤ s → span (neg_ℤ e) (neg_ℤ s) ≡ neg_pair s e
  unfolding neg_pair
  neg_plain h = let t : eq_z s MIN ≡ false = omega zarith in rw t

  pub rest_positive : pos 0 ≤ℤ s → span s e ≡ abs_rest s e
  unfolding abs_rest
  rest_positive h = let t : le_z (pos 0) s ≡ true = omega zarith in rw t

  pub rest_negative : s <ℤ pos 0 → e ≤ℤ pos 0 → span (neg_ℤ e) (neg_ℤ s) ≡ abs_rest s e
  unfolding abs_rest
  rest_negative h k =
      let t : le_z (pos 0) s ≡ false = omega zarith in
      let u : le_z e (pos 0) ≡ true = omega zarith in
      rw (t, u)

  pub rest_both : s <ℤ pos 0 → pos 0 <ℤ e → span (pos 0) (larger (neg_ℤ s) e) ≡ abs_rest s e
  unfolding abs_rest
  rest_both h k =
      let t : le_z (pos 0) s ≡ false = omega zarith in
      let u : le_z e (pos 0) ≡ false = omega zarith in
      rw (t, u)

  pub abs_least : s ≡ MIN → e ≡ MIN → only MIN ≡ abs_pair s e
  unfolding abs_pair
  abs_least h k =
      let t : within s MIN e ≡ true = is_within (omega zarith) (omega zarith) in
      let u : eq_z e MIN ≡ true = omega zarith in
      rw (t, u)

  pub abs_from_least : s ≡ MIN → MIN <ℤ e → only MIN ++ abs_rest (neg_ℤ MAX) e ≡ abs_pair s e
  unfolding abs_pair
  abs_from_least h k =
      let t : within s MIN e ≡ true = is_within (omega zarith) (omega zarith) in
      let u : eq_z e MIN ≡ false = omega zarith in
      rw (t, u)

  pub abs_plain : MIN <ℤ s → abs_rest s e ≡ abs_pair s e
  unfolding abs_pair
  abs_plain h = let t : within s MIN e ≡ false = below_out e h in rw t
