-- The spread of an exact range (01, "Spread"): the wrapped value of every exact number from p to q is in one of its intervals; these are at most 2, and their ends are from MIN to MAX.
-- In windows 0 and 1 the rule writes [v,MAX] and [MIN,u]: there v is below u, so the two pieces hold everything. Assumes nothing.
use lib.IntN.{ℤ, pos}
use lib.ListN.{length}
use lib.Signed.{◌≤ℤ◌, ◌<ℤ◌, ≤ℤ_refl}
use mathlib.Core.Path.{◌≡◌}
use mathlib.Core.Bool.{true, false, ◌&&◌}
use Prim.Native.Nat.{◌+◌, ◌-◌, ◌^◌, ◌≤◌, ◌<◌}
use native.Mathlib.Omega.{arith}
use Rattle.meaning.specs.Number.{MIN, MAX, Between, InRange, eq_z, window, wrap, thousandth}
use Rattle.meaning.specs.Interval.{Proper, Spread, whole, one, two, pieces, far, spread, unscaled}
use Rattle.meaning.specs.NumberIntervals.{◌∈◌, here, there}
use Rattle.laws.proofs.Integers.{up, down, zarith, cond_case, by_order, and_both, eq_z_is, eq_z_not, one_part, sub_parts, up_quot, down_quot}
use Rattle.laws.proofs.Machine.{num}
use Rattle.laws.proofs.Wrapping.{wrap_parts, wrap_fits, wrap_range}
use Rattle.laws.proofs.Members.{between, not_in_none, AllProper}

-- ---- the cases of a spread

module _ (p q : ℤ) where
  pub spread_whole : far p q ≡ true → spread p q ≡ whole
  unfolding spread
  spread_whole e = rw e

  pub spread_one : far p q ≡ false → eq_z (window p) (window q) ≡ true → spread p q ≡ one (wrap p) (wrap q)
  unfolding spread
  spread_one e f = rw (e, f)

  pub spread_middle : far p q ≡ false → eq_z (window p) (window q) ≡ false → eq_z (window p) (pos 0) ≡ true → eq_z (window q) (pos 1) ≡ true → spread p q ≡ two (wrap q) (wrap p)
  unfolding spread
  spread_middle e f g h = rw (e, f, g, h)

  pub spread_two : far p q ≡ false → eq_z (window p) (window q) ≡ false → eq_z (window p) (pos 0) ≡ false → spread p q ≡ two (wrap p) (wrap q)
  unfolding spread
  spread_two e f g = rw (e, f, g)

  -- all four at once
  pub spread_case {ℓ} : (P : Spread → Type ℓ) → (far p q ≡ true → P whole) → (far p q ≡ false → window p ≡ window q → P (one (wrap p) (wrap q)))
      → (far p q ≡ false → window p ≡ pos 0 → window q ≡ pos 1 → P (two (wrap q) (wrap p)))
      → (far p q ≡ false → (window p ≡ window q → ⊥) → P (two (wrap p) (wrap q))) → P (spread p q)
  unfolding spread
  spread_case P all same middle apart =
      cond_case P (far p q) _ _ all
      (λ n. cond_case P (eq_z (window p) (window q)) _ _ (λ e. same n (eq_z_is e))
      (λ d. cond_case P (eq_z (window p) (pos 0) && eq_z (window q) (pos 1)) _ _
      (λ e. let b = and_both (eq_z (window p) (pos 0)) (eq_z (window q) (pos 1)) e in middle n (eq_z_is b.0) (eq_z_is b.1))
      (λ e. apart n (eq_z_not d))))

  -- not far: q − p is less than 2^64 − 1
  pub near : far p q ≡ false → up q + down p < up p + down q + (2 ^ 64 - 1)
  near n = omega (zarith, sub_parts q p)

-- ---- a scale keeps the order and the range

pub record Scale (scale : ℤ → ℤ) : Type 0 where
  pub keeps : {a b : ℤ} → a ≤ℤ b → scale a ≤ℤ scale b
  pub fits : {a : ℤ} → InRange a → InRange (scale a)

pub unscaled_scale : Scale unscaled
unscaled_scale = record { keeps = λ h. h; fits = λ h. h }

pub thousandth_scale : Scale thousandth
thousandth_scale = record { keeps = keeps; fits = fits }
  where
    keeps : {a b : ℤ} → a ≤ℤ b → thousandth a ≤ℤ thousandth b
    keeps {a} {b} h = omega (zarith, up_quot a 1000, down_quot a 1000, up_quot b 1000, down_quot b 1000, one_part a, one_part b)

    fits : {a : ℤ} → InRange a → InRange (thousandth a)
    fits {a} r = let u = up_quot a 1000 in let d = down_quot a 1000 in between (omega (zarith, r.above, r.below, one_part a)) (omega (zarith, r.above, r.below, one_part a))

-- ---- the order of wrapped numbers

module _ {p z q : ℤ} (b : Between p z q) where
  pub same_low : window p ≡ window q → wrap p ≤ℤ wrap z
  same_low e = omega (zarith, b.above, b.below, wrap_parts p, wrap_parts q, wrap_parts z, num (wrap_fits p), num (wrap_fits q), num (wrap_fits z))

  same_high : window p ≡ window q → wrap z ≤ℤ wrap q
  same_high e = omega (zarith, b.above, b.below, wrap_parts p, wrap_parts q, wrap_parts z, num (wrap_fits p), num (wrap_fits q), num (wrap_fits z))

  past : far p q ≡ false → wrap z <ℤ wrap p → wrap z ≤ℤ wrap q
  past n l = omega (zarith, near p q n, b.above, b.below, wrap_parts p, wrap_parts q, wrap_parts z, num (wrap_fits p), num (wrap_fits q), num (wrap_fits z))

-- ---- members, ends and number

-- the wrapped value itself
wrapped_in : {p z q : ℤ} → Between p z q → wrap z ∈ pieces unscaled (spread p q)
unfolding pieces
wrapped_in {p} {z} {q} b =
    spread_case p q (λ s. wrap z ∈ pieces unscaled s)
    (λ _. here (wrap_range z))
    (λ _ e. here (between (same_low b e) (same_high b e)))
    (λ n e f. by_order (wrap z) (wrap p)
    (λ l. there (here (between (wrap_range z).above (omega zarith))))
    (λ l. here (between (omega (zarith, l, near p q n, wrap_parts p, wrap_parts q)) (wrap_range z).below)))
    (λ n _. by_order (wrap z) (wrap p)
    (λ l. there (here (between (wrap_range z).above (past b n l))))
    (λ l. here (between l (wrap_range z).below)))

pub from_range : {z : ℤ} → InRange z → Proper z MAX
from_range r = record { low = r.above; ordered = r.below; high = omega zarith }

pub to_range : {z : ℤ} → InRange z → Proper MIN z
to_range r = record { low = omega zarith; ordered = r.above; high = r.below }

pub proper_whole : Proper MIN MAX
proper_whole = to_range (between (omega zarith) (omega zarith))

module _ {scale : ℤ → ℤ} (S : Scale scale) where
  pub in_pieces : {z : ℤ} (s : Spread) → InRange z → z ∈ pieces unscaled s → scale z ∈ pieces scale s
  unfolding pieces
  in_pieces whole r m = here (S.fits r)
  in_pieces (one u v) r (here b) = here (between (S.keeps b.above) (S.keeps b.below))
  in_pieces (one u v) r (there m) = not_in_none m
  in_pieces (two u v) r (here b) = here (between (S.keeps b.above) (S.fits r).below)
  in_pieces (two u v) r (there (here b)) = there (here (between (S.fits r).above (S.keeps b.below)))
  in_pieces (two u v) r (there (there m)) = not_in_none m

  pub spread_holds : {p z q : ℤ} → Between p z q → scale (wrap z) ∈ pieces scale (spread p q)
  spread_holds {p} {z} {q} b = in_pieces (spread p q) (wrap_range z) (wrapped_in b)

  both_proper : (p q : ℤ) → AllProper (pieces scale (two (wrap p) (wrap q)))
  unfolding pieces
  both_proper p q = (from_range (S.fits (wrap_range p)), (to_range (S.fits (wrap_range q)), tt))

  pub spread_proper : {p q : ℤ} → p ≤ℤ q → AllProper (pieces scale (spread p q))
  unfolding pieces
  spread_proper {p} {q} h =
      spread_case p q (λ s. AllProper (pieces scale s))
      (λ _. (proper_whole, tt))
      (λ _ e. (record { low = (S.fits (wrap_range p)).above; ordered = S.keeps (same_low (between h (≤ℤ_refl q)) e); high = (S.fits (wrap_range q)).below }, tt))
      (λ _ _ _. both_proper q p)
      (λ _ _. both_proper p q)

pub pieces_few : (scale : ℤ → ℤ) (s : Spread) → length (pieces scale s) ≤ 2
unfolding pieces
pieces_few scale whole = omega arith
pieces_few scale (one u v) = omega arith
pieces_few scale (two u v) = omega arith

pub spread_few : (scale : ℤ → ℤ) (p q : ℤ) → length (pieces scale (spread p q)) ≤ 2
spread_few scale p q = pieces_few scale (spread p q)
