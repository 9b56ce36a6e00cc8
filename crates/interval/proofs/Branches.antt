-- What a branch for a part that may be there writes behind what a writer has already. Assumes nothing.
use Rattle.std.proofs.Common.{◌≡◌, sym, subst, List, [], ℤ, ◌≤◌, length, Option, Some, None, arith}
use Rattle.meaning.specs.Interval as meant
use Rattle.writer.specs.declared.Writer.{Writer}
use Rattle.slices.specs.Adds.{Adds}
use Rattle.slices.proofs.Behind.{adds_as, adds_none}
use Rattle.interval.specs.declared.Interval.{Interval}
use Rattle.interval.specs.declared.divisor.Divisor.{Divisor}
use Rattle.interval.specs.Part.{of_part, of_divisor}

-- after a call that wrote, nothing
pub none_after : {x : List meant.Interval} {n w : Writer ℤ} → Adds x n w → Adds [] n n
none_after {n = n} a = adds_none n (omega (arith, a.ends.count, a.ends.room, a.ends.long))

module _ (g : ℤ → ℤ → List meant.Interval) {m n : Writer ℤ} (i : m ≡ n) where
  pub part_written : {r : Option Interval} {d : Interval} {w : Writer ℤ} → r ≡ Some d → Adds (g d.lo d.hi) n w → Adds (of_part g r) m w
  part_written {r} {w = w} e a = subst (λ (k : Writer ℤ). Adds (of_part g r) k w) (sym i) (adds_as (λ j. of_part g (sym e j)) a)

  pub part_missing : {r : Option Interval} → r ≡ None → n.len ≤ length n.room.now → Adds (of_part g r) m n
  part_missing {r} e h = subst (λ (k : Writer ℤ). Adds (of_part g r) k n) (sym i) (adds_as (λ j. of_part g (sym e j)) (adds_none n h))

  pub divisor_written : {r : Option Divisor} {d : Divisor} {w : Writer ℤ} → r ≡ Some d → Adds (g d.numbers.lo d.numbers.hi) n w → Adds (of_divisor g r) m w
  divisor_written {r} {w = w} e a = subst (λ (k : Writer ℤ). Adds (of_divisor g r) k w) (sym i) (adds_as (λ j. of_divisor g (sym e j)) a)

  pub divisor_missing : {r : Option Divisor} → r ≡ None → n.len ≤ length n.room.now → Adds (of_divisor g r) m n
  divisor_missing {r} e h = subst (λ (k : Writer ℤ). Adds (of_divisor g r) k n) (sym i) (adds_as (λ j. of_divisor g (sym e j)) (adds_none n h))
