-- Each pair of ends is tested. Assumes nothing.
use mathlib.Core.Path.{refl, ◌∙◌}
use Prim.Native.Nat.{◌/◌}
use lib.ListN.{length}
use Rattle.std.proofs.Common.{rules, tests}
use Rattle.std.specs.Simd.{first_chunks}
use Rattle.std.proofs.lemmas.Iterator.{YieldsList-from_slice}
use Rattle.std.proofs.lemmas.Iterator.Search.{all_from_yields_List}
use Rattle.set_lines.proofs.Bounds.{lies, all_lie}
use Rattle.set_lines.proofs.inside.Goals as goal

pub returns : goal.returns
returns c =
    let l = c.args.ends.now in
    let e = all_from_yields_List (lies c.args.bounds.lo c.args.bounds.hi) _ _ _ c.all.ensures.ran (YieldsList-from_slice (first_chunks 2 (length l / 2) l) cc) (λ x b q k. search (rules, tests)) in
    e ∙ all_lie c.args.bounds.lo c.args.bounds.hi (length l / 2) l refl
