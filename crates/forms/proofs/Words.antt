-- A form's head by its first five bytes. Assumes nothing.
use mathlib.Core.Path.{◌≡◌, refl, sym, ap, ◌∙◌}
use mathlib.Core.Bool.{Bool, true, false, ◌&&◌, and-false}
use mathlib.Core.List.{List, [], ◌∷◌}
use Prim.Native.Nat.{ℕ, zero, suc}
use Prim.Native.Char.{code}
use native.Mathlib.Omega.{arith}
use lib.Dec.{T, eqb, ltb}
use lib.ListN.{length, get_or, drop, drop_of_length-le, get_or-eq_default}
use lib.Seq.{drop-cons}
use borrow.Author.Tests.{ne_eqb, ltb-true, ltb-false}
use Rattle.meaning.specs.Bytes.{bytes}
use Rattle.meaning.specs.Reading.{begins, Head, is_none, head}
use Rattle.laws.proofs.Integers.{by_test}

-- no byte of the word is 0, which stands past the end of a text
abbrev letters : List ℕ → Bool
letters [] = true
letters (zero ∷ w) = false
letters (suc x ∷ w) = letters w

-- the word stands at i
abbrev stands_at : List ℕ → List ℕ → ℕ → Bool
stands_at [] s i = true
stands_at (x ∷ w) s i = eqb (get_or s i 0) x && stands_at w s (suc i)

begins_stands : (w s : List ℕ) (i : ℕ) → T (letters w) → begins w (drop i s) ≡ stands_at w s i
unfolding begins
begins_stands [] s i h = refl
begins_stands (zero ∷ w) s i h = absurd h
begins_stands (suc x ∷ w) s i h =
    by_test (ltb i (length s))
    (λ e. let l = ltb-true i (length s) e in rw (drop-cons s i 0 l) (ap (λ (b : Bool). eqb (get_or s i 0) (suc x) && b) (begins_stands w s (suc i) h)))
    (λ e. let l = ltb-false i (length s) e in rw (drop_of_length-le s l, get_or-eq_default s 0 l) (ap (λ (b : Bool). b && stands_at w s (suc i)) (sym (ne_eqb 0 (suc x) (omega arith)))))

-- the head of five bytes
abbrev by_bytes : ℕ → ℕ → ℕ → ℕ → ℕ → Head
by_bytes o a b c d = head (o ∷ a ∷ b ∷ c ∷ d ∷ [])

head_bytes : (s : List ℕ) → head s ≡ by_bytes (get_or s 0 0) (get_or s 1 0) (get_or s 2 0) (get_or s 3 0) (get_or s 4 0)
unfolding head begins
head_bytes s =
    rw (
      begins_stands (bytes "(reg ") s 0 tt,
      begins_stands (bytes "(neg ") s 0 tt,
      begins_stands (bytes "(abs ") s 0 tt,
      begins_stands (bytes "(not ") s 0 tt,
      begins_stands (bytes "(add ") s 0 tt,
      begins_stands (bytes "(sub ") s 0 tt,
      begins_stands (bytes "(mul ") s 0 tt,
      begins_stands (bytes "(div ") s 0 tt,
      begins_stands (bytes "(rem ") s 0 tt,
      begins_stands (bytes "(le ") s 0 tt,
      begins_stands (bytes "(lt ") s 0 tt,
      begins_stands (bytes "(ne ") s 0 tt,
      begins_stands (bytes "(and ") s 0 tt,
      begins_stands (bytes "(or ") s 0 tt,
    )

-- which case holds, in the terms that the code has at hand
module _ (s : List ℕ) {o : ℕ} (eo : o ≡ get_or s 0 0) where
  pub head_none : (o ≡ code "(" → ⊥) → is_none ≡ head s
  unfolding head begins
  head_none h = sym (head_bytes s ∙ rw (← eo, ne_eqb _ _ h))

  module _ (h : o ≡ code "(") {a b c : ℕ} (ea : a ≡ get_or s 1 0) (eb : b ≡ get_or s 2 0) (ec : c ≡ get_or s 3 0) where
    bytes_are : {x : ℕ} → o ≡ x → head s ≡ by_bytes x a b c (get_or s 4 0)
    bytes_are e = head_bytes s ∙ rw (← eo, ← ea, ← eb, ← ec, e)

    pub head_short : c ≡ code " " → head (code "(" ∷ a ∷ b ∷ code " " ∷ []) ≡ head s
    unfolding head begins
    head_short e = sym (bytes_are h ∙ rw e (simp and-false))

    module _ (n : c ≡ code " " → ⊥) {d : ℕ} (ed : d ≡ get_or s 4 0) where
      pub head_long : d ≡ code " " → head (code "(" ∷ a ∷ b ∷ c ∷ code " " ∷ []) ≡ head s
      head_long e = sym (bytes_are h ∙ ap (by_bytes (code "(") a b c) (sym ed ∙ e))

      pub head_open : (d ≡ code " " → ⊥) → is_none ≡ head s
      unfolding head begins
      head_open e = sym (bytes_are h ∙ rw (← ed) (simp (ne_eqb c (code " ") n, ne_eqb d (code " ") e, and-false)))
