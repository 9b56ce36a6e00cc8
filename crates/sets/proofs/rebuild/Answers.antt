-- A single interval is its own join; otherwise the numbers are put in order, with room for half of them, and joined in one pass. Assumes nothing.
use native.Mathlib.Omega.{arith}
use Rattle.sets.proofs.Bridge.{pairs_valid}
use Rattle.sets.proofs.Joining.{rebuilt, rebuilt_few}
use Rattle.sets.proofs.rebuild.Goals as goal
use Rattle.sets.proofs.rebuild.Goals.{then-n-le64, else-n-le64+then-n-le1024, else-n-le64+else-n-le1024}

pub returns-then-n-lt4 : goal.returns-then-n-lt4
returns-then-n-lt4 c = rebuilt_few _ c.requires.1 c.if-n-lt4.true

pub sort_within-requires : goal.sort_within-requires
sort_within-requires c = (omega arith, omega arith, pairs_valid c.requires.1)

pub sort_within-requires-then-n-le1024 : goal.sort_within-requires-then-n-le1024
sort_within-requires-then-n-le1024 c = (omega arith, omega arith, pairs_valid c.requires.1)

pub sort_within-requires-else-n-le1024 : goal.sort_within-requires-else-n-le1024
sort_within-requires-else-n-le1024 c = (omega arith, omega (arith, c.requires.0), pairs_valid c.requires.1)

pub returns : goal.returns
returns c =
    elim c.if-n-le64.branch [
      | then-n-le64 w ↦
          let p = w.sort_within in
          rebuilt p.auto.ends c.requires.1 p.ensures (rw w.ends-is at c.join_pass.ensures)
      | else-n-le64+then-n-le1024 w ↦
          let p = w.sort_within-then-n-le1024 in
          rebuilt p.auto.ends c.requires.1 p.ensures (rw w.ends-is at c.join_pass.ensures)
      | else-n-le64+else-n-le1024 w ↦
          let p = w.sort_within-else-n-le1024 in
          rebuilt p.auto.ends c.requires.1 p.ensures (rw w.ends-is at c.join_pass.ensures)
    ]
