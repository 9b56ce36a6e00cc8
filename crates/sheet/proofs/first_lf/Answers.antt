-- As many bytes stand before the first LF as its place says, and all where there is none. Assumes nothing.
use Rattle.std.proofs.Common.{rules, tests, ◌∙◌, eqb, not}
use Rattle.std.proofs.lemmas.Iterator.{YieldsList-from_slice}
use Rattle.std.proofs.lemmas.Iterator.Consumers.{count_from_yields_List}
use Rattle.std.proofs.lemmas.Iterator.Search.{YieldsList-from_take_while}
use Rattle.std.proofs.lemmas.List.Folds.{length-prefix_len}
use Rattle.meaning.specs.Bytes.{LF}
use Rattle.sheet.proofs.first_lf.Goals as goal

pub returns : goal.returns
returns c =
    let before = count_from_yields_List c.take_while.result _ c.count-end.ensures.ran (YieldsList-from_take_while _ (λ byte. not (eqb byte LF)) (YieldsList-from_slice c.args.text.now cc) c.take_while.ensures.closure c.take_while.ensures.done (λ x b q k. search (rules, tests)))
    ∙ length-prefix_len (λ byte. not (eqb byte LF)) c.args.text.now in
    rw (c.then_some.ensures, before) (search (rules, tests))
