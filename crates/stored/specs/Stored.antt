-- A stored number: its bytes, the least first. Assumes nothing.
use Rattle.std.specs.Prelude.{List, get_or, ℕ, zero, suc, ◌+◌, ◌*◌}

-- the number that n bytes from place i on hold
unfoldable pub bits_at : ℕ → ℕ → List ℕ → ℕ
bits_at zero i s = 0
bits_at (suc n) i s = get_or s i 0 + 256 * bits_at n (i + 1) s
