-- Texts by their bytes, so that sheets and listings stand here as they are written. Assumes nothing.
use Rattle.std.specs.Prelude.{List, [], ◌∷◌, ℕ}
use Prim.Native.Char.{code}
use Prim.Native.String.{String, [] as []ᵗ, ◌∷◌ as ◌∷ᵗ◌}

-- an ASCII text: the byte of a character is its code
abbrev pub bytes : String → List ℕ
bytes []ᵗ = []
bytes (c ∷ᵗ s) = code c ∷ bytes s

-- the byte that ends a line
abbrev pub LF : ℕ
LF = 10
