-- A number read from a file. Assumes nothing.
use Rattle.std.specs.Prelude.{◌≡◌, ℕ, ℤ, List, Option, IfSome, length, pos}
use Rattle.std.specs.Io.KnownBytes.{Consumes}
use Rattle.meaning.specs.Number.{wrap}
use Rattle.stored.specs.Stored.{bits_at}

-- a number is the one of eight bytes that were next
abbrev pub ReadsNumber : Option (List ℕ) → Option (List ℕ) → Option ℤ → Type 0
ReadsNumber old new r = IfSome r (λ x. (bytes : List ℕ) × Consumes old new bytes × (length bytes ≡ 8) × (x ≡ wrap (pos (bits_at 8 0 bytes))))
