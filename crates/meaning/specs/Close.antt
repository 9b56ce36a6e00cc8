-- Closing gaps (02, (v)): while more than `limit` intervals remain, the gap with the fewest missing numbers is closed, the lowest of equals. Assumes nothing.
use Rattle.std.specs.Prelude.{leb, ℤ, length, Bool, true, cond, ◌&&◌, [], ◌∷◌, ℕ, zero, suc, ◌-◌}
use Rattle.meaning.specs.Number.{distance}
use Rattle.meaning.specs.NumberIntervals.{Set}

-- how many numbers are missing between an end e and the next start s
unfoldable pub missing : ℤ → ℤ → ℕ
missing e s = distance s e - 1

-- no gap of the set has fewer than g missing numbers
unfoldable pub none_fewer : ℕ → Set → Bool
none_fewer g [] = true
none_fewer g (i ∷ []) = true
none_fewer g (i ∷ j ∷ s) = leb g (missing i.hi j.lo) && none_fewer g (j ∷ s)

-- the gap with the fewest missing numbers is closed, the lowest of equals: the first gap after which none has fewer
unfoldable pub close_one : Set → Set
close_one [] = []
close_one (i ∷ []) = i ∷ []
close_one (i ∷ j ∷ s) =
    cond (none_fewer (missing i.hi j.lo) (j ∷ s)) (record { lo = i.lo; hi = j.hi } ∷ s)
    (i ∷ close_one (j ∷ s))

-- n gaps are closed, one after the other
unfoldable pub close_gaps : ℕ → Set → Set
close_gaps zero s = s
close_gaps (suc n) s = close_gaps n (close_one s)

-- until `limit` intervals remain: each closing leaves one fewer
unfoldable pub close : ℕ → Set → Set
close limit s = close_gaps (length s - limit) s
