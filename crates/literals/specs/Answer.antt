-- What each answer of the code says, in the words of `meaning`. Assumes nothing.
use Rattle.std.specs.Prelude.{ℤ, pos, cond, Option, Some, None}
use Rattle.meaning.specs.Sheet.{beyond}
use Rattle.meaning.specs.Reading.{Got, got, bad}
use Rattle.literals.specs.declared.Got.{Got as Found}

abbrev pub got_of : {A : Type 0} → Option (Found A) → Got A
got_of (Some g) = got g.value g.len
got_of None = bad

-- a literal's value where it is from MIN to MAX, else 0
unfoldable pub kept : ℤ → ℤ
kept z = cond (beyond z) (pos 0) z

-- a literal's value where it is from MIN to MAX, else none
unfoldable pub held : ℤ → Option ℤ
held z = cond (beyond z) None (Some z)
