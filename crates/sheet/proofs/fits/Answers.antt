-- Each line is counted and measured, so all of them pass just where there are at most 256 and none is over 120 bytes. Assumes nothing.
use Rattle.std.proofs.Common.{arith, rules, tests, ◌&&◌, ◌∙◌, leb, ltb, length, List, ℕ, ap, zero-add}
use Rattle.std.proofs.lemmas.Iterator.Search.{all_from_yields_List}
use Rattle.std.proofs.lemmas.Iterator.Consumers.{YieldsList-from_first, YieldsList-from_enumerate}
use Rattle.meaning.specs.Text.{lines}
use Rattle.sheet.specs.declared.Lines.{Lines}
use Rattle.sheet.proofs.Feeds.{fits_from}
use Rattle.sheet.proofs.fits.Goals as goal

pub returns : goal.returns
returns c =
    all_from_yields_List (λ (p : ℕ × List ℕ). ltb p.0 256 && leb (length p.1) 120) c.all.new.self _ c.all.result c.all.ensures.ran
    (YieldsList-from_enumerate (YieldsList-from_first (λ x. x.now) (λ it. lines it.rest.now) (lines c.args.text.now) (ap lines (ap (λ (it : Lines). it.rest.now) c.enumerate.ensures.source ∙ c.of.ensures))) c.enumerate.ensures.count)
    (λ x b q k. search (rules, tests)) ∙ fits_from 0 (lines c.args.text.now) (omega arith) ∙ rw zero-add
