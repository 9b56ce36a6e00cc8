-- The texts of the intervals of a register: one for each pair of its ends. Assumes nothing.
use mathlib.Core.Path.{◌≡◌, refl, sym}
use mathlib.Core.List.{List, [], ◌∷◌, ◌++◌, append_assoc}
use Prim.Native.Nat.{ℕ, ◌<◌}
use native.Mathlib.Omega.{arith}
use lib.IntN.{ℤ}
use lib.ListN.{length}
use Rattle.meaning.specs.Bytes.{bytes}
use Rattle.meaning.specs.NumberIntervals.{intervals}
use Rattle.meaning.specs.Listing.{decimal_z, interval_texts}
use Rattle.wording.specs.Texts.{interval_text}
use Rattle.writer.proofs.Pairs.{IsEach}

abbrev pub listed : List ℤ → List ℕ
listed l = interval_texts (intervals l)

pub each_listed : IsEach listed interval_text
unfolding intervals interval_texts
each_listed = record { none = none; more = λ lo hi l. sym (append_assoc (bytes " " ++ decimal_z lo) (bytes ".." ++ decimal_z hi) (listed l)) }
  where
    none : (l : List ℤ) → length l < 2 → listed l ≡ []
    none [] h = refl
    none (a ∷ []) h = refl
    none (a ∷ b ∷ l) h = absurd (omega arith)
