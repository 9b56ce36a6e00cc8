-- A part for sheets that pass: what it comes to by the check's outcome, and that a sheet that does not pass answers as the check does. Assumes nothing.
use lib.ListN.{length}
use mathlib.Core.Path.{◌≡◌, refl, sym, ap, ◌∙◌}
use mathlib.Core.List.{List}
use Prim.Native.Nat.{ℕ}
use native.Mathlib.Omega.{arith}
use Rattle.meaning.specs.Outcome.{Outcome, done, stopped}
use Rattle.meaning.specs.NumberIntervals.{Set}
use Rattle.meaning.specs.Sheet.{Line}
use Rattle.meaning.specs.Text.{Read, sheet, no_sheet, read}
use Rattle.meaning.specs.Run.{verdict, Judged, refused, worked, judge}
use Rattle.meaning.specs.Check.{Bands, check, check_text, interval_limit, text_by}
use Rattle.meaning.specs.Composing.{Composed, finding, refusal, text_returns, text_leaves, by_check, by_read, if_passed, AsCheck}

module _ (part : List Line → List Set → Composed) where
  pub passed_is : (t : List ℕ) (ls : List Line) (n : ℕ) (B : Bands) → read t ≡ sheet ls → check_text interval_limit t ≡ worked n (done B) → if_passed part t ≡ part ls B.sets
  unfolding if_passed text_by
  passed_is t ls n B e k = ap (by_read part) e ∙ go (check interval_limit ls) (sym (ap (judge (check interval_limit)) e) ∙ k)
    where
      go : (o : Outcome Bands) → worked (length ls) o ≡ worked n (done B) → by_check part ls o ≡ part ls B.sets
      go (done C) p = ap (λ (C : Bands). part ls C.sets) (let q : C ≡ B = cc in q)
      go (stopped i j C) p = absurd (let z : ◌≡◌ {A = ℕ} 0 1 = cc in let v : ⊥ = omega arith in v)

  pub refused_is : (t : List ℕ) (k l : ℕ) → check_text interval_limit t ≡ refused k l → if_passed part t ≡ refusal k l
  unfolding if_passed text_by
  refused_is t k l e = go (read t) e
    where
      go : (x : Read) → judge (check interval_limit) x ≡ refused k l → by_read part x ≡ refusal k l
      go (sheet ls) p = absurd (let z : ◌≡◌ {A = ℕ} 0 1 = cc in let v : ⊥ = omega arith in v)
      go (no_sheet i j) p = let a : i ≡ k = cc in let b : j ≡ l = cc in (λ x. refusal (a x) (b x))

  pub stopped_is : (t : List ℕ) (n k l : ℕ) (B : Bands) → check_text interval_limit t ≡ worked n (stopped k l B) → if_passed part t ≡ finding k l
  unfolding if_passed text_by
  stopped_is t n k l B e = go (read t) e
    where
      inner : (ls : List Line) (o : Outcome Bands) → worked (length ls) o ≡ worked n (stopped k l B) → by_check part ls o ≡ finding k l
      inner ls (done C) p = absurd (let z : ◌≡◌ {A = ℕ} 0 1 = cc in let v : ⊥ = omega arith in v)
      inner ls (stopped i j C) p = let a : i ≡ k = cc in let b : j ≡ l = cc in (λ x. finding (a x) (b x))

      go : (x : Read) → judge (check interval_limit) x ≡ worked n (stopped k l B) → by_read part x ≡ finding k l
      go (sheet ls) p = inner ls (check interval_limit ls) p
      go (no_sheet i j) p = absurd (let z : ◌≡◌ {A = ℕ} 0 1 = cc in let v : ⊥ = omega arith in v)

-- number and line as the check returns them, and the output as lent
pub as_check : AsCheck
unfolding text_returns text_leaves
as_check part t out h = go (check_text interval_limit t) refl h
  where
    go : (j : Judged Bands) → check_text interval_limit t ≡ j → ((verdict j).number ≡ 0 → ⊥) → (text_returns (if_passed part t) out ≡ verdict j) × (text_leaves (if_passed part t) out ≡ out)
    go (refused k l) e h = let c = refused_is part t k l e in (ap (λ x. text_returns x out) c, ap (λ x. text_leaves x out) c)
    go (worked n (done B)) e h = absurd (h refl)
    go (worked n (stopped k l B)) e h = let c = stopped_is part t n k l B e in (ap (λ x. text_returns x out) c, ap (λ x. text_leaves x out) c)
