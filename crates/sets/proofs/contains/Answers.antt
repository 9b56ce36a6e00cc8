-- One of the pairs holds the number. Assumes nothing.
use mathlib.Core.Path.{refl, ap, ◌∙◌}
use borrow.Author.Rules.{rules}
use Rattle.std.specs.List.{list_any}
use Rattle.std.proofs.lemmas.Iterator.{YieldsList-from_slice}
use Rattle.std.proofs.lemmas.Iterator.Search.{any_from_yields_List}
use Rattle.sets.proofs.Chunks.{holds, any_holds}
use Rattle.sets.proofs.contains.Goals as goal

pub returns : goal.returns
returns c =
    let test = holds c.args.x in
    any_from_yields_List test _ _ _ c.any.ensures.ran (YieldsList-from_slice c.as_chunks.result.0.now cc) (λ x b q k. search rules)
    ∙ ap (list_any test) c.as_chunks.ensures.front ∙ any_holds c.args.x _ c.args.s.now refl
