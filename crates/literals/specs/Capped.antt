-- How the code holds a literal's digits, beside the definitions of `meaning`. Assumes nothing.
use Rattle.std.specs.Prelude.{List, [], ◌∷◌, ℕ, ◌+◌, ◌-◌, ◌*◌, min}
use Prim.Native.Char.{code}

-- 2^63 + 1: no literal from MIN to MAX has a greater magnitude than 2^63
abbrev pub cap : ℕ
cap = 9223372036854775809

-- the number that digits write behind a, held at the cap
unfoldable pub capped : ℕ → List ℕ → ℕ
capped a [] = a
capped a (b ∷ s) = capped (min cap (a * 10 + (b - code "0"))) s
