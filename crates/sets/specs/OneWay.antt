-- A set is normal in at most one way. Assumes nothing.
use Rattle.std.specs.Prelude.{ℤ, [], ◌∷◌, ◌≤ℤ◌, ◌<ℤ◌}
use Rattle.std.specs.Coded.{Unit-prop}
use Rattle.std.specs.Int.Signed.{le_z, lt_z}
use lib.Dec.{T_prop}
use Rattle.meaning.specs.Interval.{Proper}
use Rattle.meaning.specs.NumberIntervals.{Set, Apart, Normal}

le-prop : {a b : ℤ} → IsProp (a ≤ℤ b)
le-prop {a} {b} x y = λ i. record { le = T_prop (le_z a b) x.le y.le i }

lt-prop : {a b : ℤ} → IsProp (a <ℤ b)
lt-prop {a} {b} x y = λ i. record { lt = T_prop (lt_z a b) x.lt y.lt i }

Proper-prop : {a b : ℤ} → IsProp (Proper a b)
Proper-prop x y = λ i. record { low = le-prop x.low y.low i; ordered = le-prop x.ordered y.ordered i; high = le-prop x.high y.high i }

Apart-prop : (e : ℤ) (s : Set) → IsProp (Apart e s)
Apart-prop e [] = Unit-prop
Apart-prop e (i ∷ s) = lt-prop

pub Normal-prop : (s : Set) → IsProp (Normal s)
Normal-prop [] x y = Unit-prop x y
Normal-prop (i ∷ s) x y = λ j. (Proper-prop x.0 y.0 j, Apart-prop i.hi s x.1 y.1 j, Normal-prop s x.2 y.2 j)
