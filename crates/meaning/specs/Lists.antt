-- What a call leaves in a slice that it is lent, in one equation that also says what is untouched. Assumes nothing.
use Rattle.std.specs.Prelude.{length, drop, List, [], ◌∷◌, ◌++◌}

-- xs, and after it what stood there before
unfoldable pub over {ℓ} : {A : Type ℓ} → List A → List A → List A
over xs old = xs ++ drop (length xs) old

-- each element has a property
abbrev pub All : {A : Type 0} → (A → Type 0) → List A → Type 0
All P [] = Unit {0}
All P (x ∷ xs) = P x × All P xs
