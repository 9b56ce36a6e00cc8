-- Where line n stands, from what the code finds: the end of the text cut before it, and its LF. Assumes nothing.
use Rattle.std.proofs.Common.{◌≡◌, refl, sym, ap, subst, ◌∙◌, List, [], ℕ, suc, ◌-◌, length, drop, take, length-drop, arith}
use borrow.Author.Tests.{lt-ltb, le-ltb}
use lib.Seq.{take_all}
use Rattle.meaning.specs.Text.{lines, line_at, cut}
use Rattle.sheet.specs.declared.Part.{Part}
use Rattle.sheet.specs.Place.{nowhere, Placed}
use Rattle.sheet.proofs.Feeds.{FirstLine, line_inside, line_long, lines_past, line_there, line_none}

module _ {p : Part} (s : p.start ≡ 0) (l : p.len ≡ 0) where
  no_part : nowhere ≡ p
  no_part = λ i. record { start = sym s i; len = sym l i }

  pub placed_zero : (t : List ℕ) {n : ℕ} → n ≡ 0 → Placed t n p
  unfolding line_at
  placed_zero t {n} e = rw (e, ← no_part) (record { place = refl; bytes = refl; inside = omega arith })

-- line i + 1 starts at `at`, where the part `rest` starts
module _ (t : List ℕ) (i at : ℕ) (a : at ≡ length (cut t i)) {rest : List ℕ} (r : rest ≡ take (length t - at) (drop at t)) {n : ℕ} (ne : n ≡ suc i) where
  rest_is : rest ≡ drop at t
  rest_is = r ∙ take_all (length t - at) (drop at t) (omega (arith, length-drop at t))

  pub placed_there : {e : ℕ} → FirstLine rest e → Placed t n (record { start = at; len = e })
  unfolding line_at
  placed_there {e} f =
      let g = subst (λ (x : List ℕ). FirstLine x e) rest_is f in
      let l = g.inside in
      rw ne (record {
        place = rw (lt-ltb i (length (lines t)) (line_inside t i at a g), line_long t i at a g) (ap (λ (k : ℕ). record { start = k; len = e }) a);
        bytes = line_there t i at a g;
        inside = omega (arith, length-drop at t);
      })

  pub placed_none : {p : Part} → p.start ≡ 0 → p.len ≡ 0 → lines rest ≡ [] → Placed t n p
  unfolding line_at
  placed_none {p} s l e =
      let g = sym (ap lines rest_is) ∙ e in
      rw (ne, ← no_part s l) (record { place = rw (le-ltb i (length (lines t)) (lines_past t i at a g)); bytes = line_none t i at a g; inside = omega arith })
