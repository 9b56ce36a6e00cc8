use mathlib.Core.Path.{◌≡◌}
use Prim.Native.Nat.{◌+◌, ◌*◌}
use lib.ListN.{length}
use Rattle.closing.proofs.Fronts.{Fronts, Known, closed_ends, gaps_of}
use Rattle.closing.proofs.close.Given as goal

abbrev pub invariant-loop-s : goal.invariant-loop-s
invariant-loop-s l =
    (length l.front ≡ l.m)
    × Fronts (closed_ends l.limit l.fn.ends) l.fn.ends l.front (l.m + 2 * l.s-index)
    × Known (gaps_of l.front) l.gap
