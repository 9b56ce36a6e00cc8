-- The pairs of a list, as they stand in its chunks of two, and a whole that has a part for each of them. Assumes nothing.
use mathlib.Core.Path.{◌≡◌, refl, sym, ap, ◌∙◌}
use mathlib.Core.List.{List, [], ◌∷◌, ◌++◌}
use Prim.Native.Nat.{ℕ, zero, suc, ◌+◌, ◌*◌, ◌/◌, ◌≤◌, ◌<◌}
use native.Mathlib.Omega.{arith}
use lib.ListN.{length, get_or, drop, length-drop}
use lib.IntN.{ℤ, pos}
use Rattle.std.specs.Simd.{first_chunks}
use Rattle.writer.specs.declared.Writer.{Writer}
use Rattle.writer.specs.Written.{Fits, Appends}
use Rattle.writer.proofs.Partly.{Partly, partly_as, partly_fits, partly_next, partly_done}

-- the two numbers of chunk k
abbrev pub first : List (List ℤ) → ℕ → ℤ
first x k = get_or (get_or x k []) 0 (pos 0)

abbrev pub second : List (List ℤ) → ℕ → ℤ
second x k = get_or (get_or x k []) 1 (pos 0)

pub chunk_at : (c k : ℕ) (l : List ℤ) → k < c → c * 2 ≤ length l → drop (2 * k) l ≡ first (first_chunks 2 c l) k ∷ second (first_chunks 2 c l) k ∷ drop (2 * (k + 1)) l
chunk_at zero k l h n = absurd (omega arith)
chunk_at (suc c) k [] h n = absurd (omega arith)
chunk_at (suc c) k (s ∷ []) h n = absurd (omega arith)
chunk_at (suc c) zero (s ∷ e ∷ r) h n = refl
chunk_at (suc c) (suc k) (s ∷ e ∷ r) h n =
    let p : 2 * suc k ≡ suc (suc (2 * k)) = omega arith in
    let q : 2 * (suc k + 1) ≡ suc (suc (2 * (k + 1))) = omega arith in
    (λ i. drop (p i) (s ∷ e ∷ r))
    ∙ chunk_at c k r (omega arith) (omega arith)
    ∙ sym (λ i. first (first_chunks 2 c r) k ∷ second (first_chunks 2 c r) k ∷ drop (q i) (s ∷ e ∷ r))

-- the same of all chunks of two that a list has
pub pair_at : {x : List (List ℤ)} (l : List ℤ) (k : ℕ) → x ≡ first_chunks 2 (length l / 2) l → k < length l / 2 → drop (2 * k) l ≡ first x k ∷ second x k ∷ drop (2 * (k + 1)) l
pair_at l k e h = chunk_at (length l / 2) k l h (omega arith) ∙ sym (λ i. first (e i) k ∷ second (e i) k ∷ drop (2 * (k + 1)) l)

-- what is written of a list has a part for each pair
pub record IsEach {A : Type 0} (whole : List ℤ → List A) (part : ℤ → ℤ → List A) : Type 0 where
  pub none : (l : List ℤ) → length l < 2 → whole l ≡ []
  pub more : (lo hi : ℤ) (l : List ℤ) → whole (lo ∷ hi ∷ l) ≡ part lo hi ++ whole l

-- with k pairs written
abbrev pub Paired : {A : Type 0} → (List ℤ → List A) → List ℤ → ℕ → Writer A → Writer A → Type 0
Paired whole l k new old = Partly (whole l) (whole (drop (2 * k) l)) new old

module _ {A : Type 0} {whole : List ℤ → List A} {part : ℤ → ℤ → List A} (each : IsEach whole part) (l : List ℤ) (k : ℕ) {new old : Writer A} (p : Paired whole l k new old) where
  module _ {x : List (List ℤ)} (e : x ≡ first_chunks 2 (length l / 2) l) (n : length x ≡ length l / 2) (h : k < length x) {lo hi : ℤ} (is_lo : lo ≡ first x k) (is_hi : hi ≡ second x k) where
    turned : Partly (whole l) (part lo hi ++ whole (drop (2 * (k + 1)) l)) new old
    turned =
        partly_as (
        ap whole (pair_at l k e (omega arith) ∙ sym (λ i. is_lo i ∷ is_hi i ∷ drop (2 * (k + 1)) l)) ∙ each.more lo hi (drop (2 * (k + 1)) l)
        ) p

    pub pair_fits : Fits (whole l) old → Fits (part lo hi) new
    pair_fits f = partly_fits (part lo hi) (whole (drop (2 * (k + 1)) l)) turned f

    pub pair_next : {m : Writer A} → Appends (part lo hi) m new → Paired whole l (k + 1) m old
    pair_next w = partly_next (part lo hi) (whole (drop (2 * (k + 1)) l)) turned w

  pub pairs_done : length l / 2 ≤ k → Appends (whole l) new old
  pairs_done h = partly_done (partly_as (each.none (drop (2 * k) l) (omega (arith, length-drop (2 * k) l))) p)
