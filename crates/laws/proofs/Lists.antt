-- A law of lists: what would stand past the end does not matter for a place that is there. Assumes nothing.
use lib.ListN.{length, get_or}
use mathlib.Core.Path.{◌≡◌, refl}
use mathlib.Core.List.{List, [], ◌∷◌}
use Prim.Native.Nat.{ℕ, zero, suc, ◌<◌}
use native.Mathlib.Omega.{arith}

pub get_d_there : {A : Type 0} (l : List A) (i : ℕ) (a b : A) → i < length l → get_or l i a ≡ get_or l i b
get_d_there [] i a b h = absurd (let x : ⊥ = omega arith in x)
get_d_there (x ∷ l) zero a b h = refl
get_d_there (x ∷ l) (suc i) a b h = get_d_there l i a b (omega arith)
