-- `forms::SizesAlgebra::literal` meets its contract: a literal that the code does not hold is beyond MIN..MAX.
use mathlib.Core.Path.{◌≡◌, refl, sym, ap, ◌∙◌}
use mathlib.Core.Bool.{Bool, true, false, not}
use Prim.Native.Nat.{ℕ}
use lib.Dec.{leb}
use lib.IntN.{ℤ}
use mir.Val.{bool_byte}
use Rattle.std.specs.Option.{is_some}
use Rattle.meaning.specs.Number.{MIN, MAX, within}
use Rattle.meaning.specs.Sheet.{beyond}
use Rattle.laws.proofs.Integers.{by_test}
use Rattle.literals.specs.Answer.{held}
use Rattle.forms.proofs.SizesAlgebra.literal.Goals as goal

far_is : (z : ℤ) (far : Bool) → is_some (held z) ≡ not far → far ≡ beyond z
unfolding held
far_is z true h = by_test (within MIN z MAX) (λ e. (rw e at h) ∙ rw e) (λ e. rw e)
far_is z false h = by_test (within MIN z MAX) (λ e. rw e) (λ e. (rw e at h) ∙ rw e)

-- one for a truth value that holds
counted : (far : Bool) {n : ℕ} → n ≡ bool_byte far → leb 1 n ≡ far
counted true e = rw e refl
counted false e = rw e refl

pub returns-clause-value : goal.returns-clause-value
returns-clause-value c = λ w e. counted c.is_none.result c.from.ensures ∙ far_is w c.is_none.result (ap is_some (sym e) ∙ c.is_none.ensures)
