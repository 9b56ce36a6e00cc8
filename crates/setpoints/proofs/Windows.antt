-- The window of two ends that the code meets a set with. Assumes nothing.
use Rattle.std.proofs.Common.{◌≡◌, ℕ, ℤ, pos, negsuc, ◌+ℤ◌, ◌-ℤ◌, ◌≤ℤ◌, ◌<◌, ◌^◌, [], ◌∷◌, refl, ap, ◌∙◌, arith, w64}
use Rattle.std.specs.Int.{saturate_signed}
use mir.Facts.{to_z-of_z}
use mir.Val.{SFits}
use lib.Signed.{le_z, mag}
use Rattle.meaning.specs.Number.{MIN, MAX, InRange, smaller, larger}
use Rattle.meaning.specs.NumberIntervals.{Set, Normal, intersect, intervals, normal}
use Rattle.meaning.specs.Setpoints.{near}
use Rattle.laws.proofs.Integers.{zarith, and_yes, add_parts, sub_parts}
use Rattle.laws.proofs.Machine.{rd, ok, fits_range}
use Rattle.laws.proofs.Near.{window_normal, window_meets}
use Rattle.sets.specs.Sets.{SetEnds}

module _ (x : ℤ) (d : ℕ) (p : InRange x) {lo hi : ℤ} (el : lo ≡ larger MIN (x -ℤ pos d)) (eh : hi ≡ smaller MAX (x +ℤ pos d)) where
  pub window_ends : SetEnds (lo ∷ hi ∷ [])
  unfolding normal intervals
  window_ends =
      let n = window_normal x d p el eh in
      record { test = and_yes {a = le_z lo hi} (omega (zarith, n.0.ordered)) refl; is = n }

  pub window_near : (s : Set) → Normal s → intersect s (intervals (lo ∷ hi ∷ [])) ≡ near s x d
  unfolding intervals
  window_near s k = window_meets x d p el eh s k

-- the ends of the window, as the code has them
held_below : (z : ℤ) → z ≤ℤ MAX → saturate_signed w64 z ≡ larger MIN z
held_below (pos n) h = ap pos (omega (arith, zarith, h))
held_below (negsuc n) h = grind (arith, zarith)

held_above : (z : ℤ) → MIN ≤ℤ z → saturate_signed w64 z ≡ smaller MAX z
held_above (pos n) h = grind (arith, zarith)
held_above (negsuc n) h = ap negsuc (omega (arith, zarith, h))

module _ {x m : ℤ} (f : SFits w64 x) (h : mag m < 2 ^ 63) (d : ℕ) where
  pub low_end : m ≡ saturate_signed w64 (rd x -ℤ pos d) → rd m ≡ larger MIN (x -ℤ pos d)
  low_end e =
      let p = fits_range f in
      to_z-of_z (ok h) ∙ e ∙ ap (λ (z : ℤ). saturate_signed w64 (z -ℤ pos d)) (to_z-of_z f) ∙ held_below (x -ℤ pos d) (omega (zarith, p.below, sub_parts x (pos d)))

  pub high_end : m ≡ saturate_signed w64 (rd x +ℤ pos d) → rd m ≡ smaller MAX (x +ℤ pos d)
  high_end e =
      let p = fits_range f in
      to_z-of_z (ok h) ∙ e ∙ ap (λ (z : ℤ). saturate_signed w64 (z +ℤ pos d)) (to_z-of_z f) ∙ held_above (x +ℤ pos d) (omega (zarith, p.above, add_parts x (pos d)))
