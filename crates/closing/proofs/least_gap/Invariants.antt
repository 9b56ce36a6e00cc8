use mathlib.Core.Path.{◌≡◌}
use mathlib.Core.List.{[]}
use Prim.Native.Nat.{◌*◌, ◌<◌}
use lib.ListN.{take}
use Rattle.std.specs.Option.{MatchOption}
use Rattle.closing.specs.Gaps.{Lowest}
use Rattle.closing.proofs.Search.{Searching}
use Rattle.closing.proofs.least_gap.Given as goal

abbrev pub invariant-loop-i : goal.invariant-loop-i
invariant-loop-i l =
    Searching l.gaps l.floor (2 * l.i)
    × MatchOption l.least (take (2 * l.i) l.gaps ≡ []) (λ g. Lowest (take (2 * l.i) l.gaps) g.at g.missing × (l.floor < g.missing))
