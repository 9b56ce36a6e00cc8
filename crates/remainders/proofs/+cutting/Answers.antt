-- By the tests, what is written is the first rule that fits; a call of the cycle hands on a number that has fallen, or a shorter way to it. Assumes nothing.
use Rattle.std.proofs.Common.{◌∙◌, sym, ℕ, ℤ, List, ◌++◌, pos, negsuc, rules, arith}
use Rattle.meaning.specs.Number.{MIN, within}
use Rattle.meaning.specs.Interval as meant
use Rattle.meaning.specs.Interval.{only, against, cut_right, rule_f, rem_with}
use Rattle.laws.proofs.Integers.{and_both}
use Rattle.slices.specs.Adds.{Adds}
use Rattle.slices.proofs.Behind.{room_two, adds_as, adds_none, adds_next, holds_as, holds_first, holds_next, two_first, two_second, two_added}
use Rattle.interval.specs.declared.Interval.{Interval}
use Rattle.interval.specs.Part.{of_part}
use Rattle.interval.proofs.Branches.{none_after, part_written, part_missing}
use Rattle.rem_rules.proofs.MagnitudeRules.{against_two}
use Rattle.remainders.proofs.RemRules.{ends_read, parts_are, below_room, with_none, written_a, written_b, written_c, written_d, written_e, written_f}
use Rattle.remainders.proofs.+cutting.Goals as goal
use Rattle.remainders.proofs.+cutting.Goals.{cut_left-in-Some, cut_left-in_default, cut_right-in-Some, cut_right-in_default}

-- what n turns give of an interval by r
abbrev by : ℕ → Interval → ℤ → ℤ → List meant.Interval
by n r a b = rem_with n a b r.lo r.hi

-- what (b) writes after its first part
abbrev rest : ℕ → Interval → Interval → List meant.Interval
rest n l r = cut_right (rem_with n) (negsuc 0) l.lo l.hi r.lo r.hi ++ only (pos 0)

-- ---- left and right without c: the two parts together are what the definition has

pub cut_left-rem_with-requires : goal.cut_left-rem_with-requires
cut_left-rem_with-requires t c =
    let g : ℤ → ℤ → List meant.Interval = by c.args.n c.args.right in
    (omega arith, holds_as c.args.out.now (λ j. of_part g (sym c.in-Some.is j)) (below_room g c.args.left c.below.result c.args.out.now c.ranges.c c.requires.inside c.below.ensures c.requires.room))

pub cut_left-rem_with-requires-in-Some-above : goal.cut_left-rem_with-requires-in-Some-above
cut_left-rem_with-requires-in-Some-above t c =
    let g : ℤ → ℤ → List meant.Interval = by c.args.n c.args.right in
    let d = parts_are g c.args.left c.below.result c.above.result c.ranges.c c.requires.inside c.below.ensures c.above.ensures in
    let first : Adds (of_part g c.below.result) c.match-below.out c.args.out.now = elim c.match-below.branch [
      | cut_left-in-Some w ↦ part_written g w.out-is w.in-Some.is w.rem_with.ensures
      | cut_left-in_default w ↦ part_missing g w.out-is w.in_default.is (omega (arith, c.requires.room))
    ] in
    (omega arith, holds_as c.match-below.out (λ j. of_part g (sym c.in-Some-above.is j)) (two_second _ _ d c.args.out.now c.requires.room first))

pub cut_left-returns-in-Some-above : goal.cut_left-returns-in-Some-above
cut_left-returns-in-Some-above t c =
    let g : ℤ → ℤ → List meant.Interval = by c.args.n c.args.right in
    let d = parts_are g c.args.left c.below.result c.above.result c.ranges.c c.requires.inside c.below.ensures c.above.ensures in
    let first : Adds (of_part g c.below.result) c.match-below.out c.args.out.now = elim c.match-below.branch [
      | cut_left-in-Some w ↦ part_written g w.out-is w.in-Some.is w.rem_with.ensures
      | cut_left-in_default w ↦ part_missing g w.out-is w.in_default.is (omega (arith, c.requires.room))
    ] in
    two_added _ _ d c.args.out.now c.requires.room first (adds_as (λ j. of_part g (sym c.in-Some-above.is j)) c.rem_with-in-Some-above.ensures)

pub cut_left-returns-in_default-above : goal.cut_left-returns-in_default-above
cut_left-returns-in_default-above t c =
    let g : ℤ → ℤ → List meant.Interval = by c.args.n c.args.right in
    let d = parts_are g c.args.left c.below.result c.above.result c.ranges.c c.requires.inside c.below.ensures c.above.ensures in
    let first : Adds (of_part g c.below.result) c.match-below.out c.args.out.now = elim c.match-below.branch [
      | cut_left-in-Some w ↦ part_written g w.out-is w.in-Some.is w.rem_with.ensures
      | cut_left-in_default w ↦ part_missing g w.out-is w.in_default.is (omega (arith, c.requires.room))
    ] in
    two_added _ _ d c.args.out.now c.requires.room first (adds_as (λ j. of_part g (sym c.in_default-above.is j)) (none_after first))

pub cut_right-rem_with-requires : goal.cut_right-rem_with-requires
cut_right-rem_with-requires t c =
    let g : ℤ → ℤ → List meant.Interval = rem_with c.args.n c.args.left.lo c.args.left.hi in
    (omega arith, holds_as c.args.out.now (λ j. of_part g (sym c.in-Some.is j)) (below_room g c.args.right c.below.result c.args.out.now c.ranges.c c.requires.inside c.below.ensures c.requires.room))

pub cut_right-rem_with-requires-in-Some-above : goal.cut_right-rem_with-requires-in-Some-above
cut_right-rem_with-requires-in-Some-above t c =
    let g : ℤ → ℤ → List meant.Interval = rem_with c.args.n c.args.left.lo c.args.left.hi in
    let d = parts_are g c.args.right c.below.result c.above.result c.ranges.c c.requires.inside c.below.ensures c.above.ensures in
    let first : Adds (of_part g c.below.result) c.match-below.out c.args.out.now = elim c.match-below.branch [
      | cut_right-in-Some w ↦ part_written g w.out-is w.in-Some.is w.rem_with.ensures
      | cut_right-in_default w ↦ part_missing g w.out-is w.in_default.is (omega (arith, c.requires.room))
    ] in
    (omega arith, holds_as c.match-below.out (λ j. of_part g (sym c.in-Some-above.is j)) (two_second _ _ d c.args.out.now c.requires.room first))

pub cut_right-returns-in-Some-above : goal.cut_right-returns-in-Some-above
cut_right-returns-in-Some-above t c =
    let g : ℤ → ℤ → List meant.Interval = rem_with c.args.n c.args.left.lo c.args.left.hi in
    let d = parts_are g c.args.right c.below.result c.above.result c.ranges.c c.requires.inside c.below.ensures c.above.ensures in
    let first : Adds (of_part g c.below.result) c.match-below.out c.args.out.now = elim c.match-below.branch [
      | cut_right-in-Some w ↦ part_written g w.out-is w.in-Some.is w.rem_with.ensures
      | cut_right-in_default w ↦ part_missing g w.out-is w.in_default.is (omega (arith, c.requires.room))
    ] in
    two_added _ _ d c.args.out.now c.requires.room first (adds_as (λ j. of_part g (sym c.in-Some-above.is j)) c.rem_with-in-Some-above.ensures)

pub cut_right-returns-in_default-above : goal.cut_right-returns-in_default-above
cut_right-returns-in_default-above t c =
    let g : ℤ → ℤ → List meant.Interval = rem_with c.args.n c.args.left.lo c.args.left.hi in
    let d = parts_are g c.args.right c.below.result c.above.result c.ranges.c c.requires.inside c.below.ensures c.above.ensures in
    let first : Adds (of_part g c.below.result) c.match-below.out c.args.out.now = elim c.match-below.branch [
      | cut_right-in-Some w ↦ part_written g w.out-is w.in-Some.is w.rem_with.ensures
      | cut_right-in_default w ↦ part_missing g w.out-is w.in_default.is (omega (arith, c.requires.room))
    ] in
    two_added _ _ d c.args.out.now c.requires.room first (adds_as (λ j. of_part g (sym c.in_default-above.is j)) (none_after first))

-- ---- left without MIN by right, left by right without -1, and 0

pub cut_both-cut_left-requires : goal.cut_both-cut_left-requires
cut_both-cut_left-requires t c = (omega arith, (c.requires.left_has_min, holds_first _ (rest c.args.n c.args.left c.args.right) c.args.out.now c.requires.room))

pub cut_both-cut_right-requires : goal.cut_both-cut_right-requires
cut_both-cut_right-requires t c =
    (omega arith, (c.requires.right_has_minus_one, holds_first _ (only (pos 0)) c.cut_left.new.out (holds_next c.cut_left.ensures (rest c.args.n c.args.left c.args.right) c.requires.room)))

pub cut_both-put_one-requires : goal.cut_both-put_one-requires
cut_both-put_one-requires t c =
    room_two (pos 0) (pos 0) c.cut_right.new.out (holds_next c.cut_right.ensures (only (pos 0)) (holds_next c.cut_left.ensures (rest c.args.n c.args.left c.args.right) c.requires.room))

pub cut_both-returns : goal.cut_both-returns
cut_both-returns t c = adds_next c.cut_left.ensures (adds_next c.cut_right.ensures c.put_one.ensures)

-- ---- the first rule that fits

pub rem_with-returns-then-n-eq0 : goal.rem_with-returns-then-n-eq0
rem_with-returns-then-n-eq0 t c = adds_as (with_none c.args.n c.args.left.lo c.args.left.hi c.args.right.lo c.args.right.hi c.if-n-eq0.true) (adds_none c.args.out.now (omega (arith, c.requires)))

-- (a)
pub rem_with-cut_right-requires : goal.rem_with-cut_right-requires
rem_with-cut_right-requires t c =
    let e = written_a c.args.n c.args.left c.args.right c.if-n-eq0.false c.if-contains.ensures in
    (omega arith, (sym c.if-contains.ensures, holds_as c.args.out.now e c.requires))

pub rem_with-returns-then-contains : goal.rem_with-returns-then-contains
rem_with-returns-then-contains t c = adds_as (written_a c.args.n c.args.left c.args.right c.if-n-eq0.false c.if-contains.ensures) c.cut_right.ensures

-- (b)
pub rem_with-cut_both-requires : goal.rem_with-cut_both-requires
rem_with-cut_both-requires t c =
    let e = written_b c.args.n c.args.left c.args.right c.if-n-eq0.false c.if-contains.ensures c.if-quotient_wraps.ensures in
    let both = and_both (within c.args.left.lo MIN c.args.left.hi) (within c.args.right.lo (negsuc 0) c.args.right.hi) (sym c.if-quotient_wraps.ensures) in
    (omega arith, (both.0, (both.1, holds_as c.args.out.now e c.requires)))

pub rem_with-returns-then-quotient_wraps : goal.rem_with-returns-then-quotient_wraps
rem_with-returns-then-quotient_wraps t c =
    adds_as (written_b c.args.n c.args.left c.args.right c.if-n-eq0.false c.if-contains.ensures c.if-quotient_wraps.ensures) c.cut_both.ensures

-- (c)
pub rem_with-cut_left-requires : goal.rem_with-cut_left-requires
rem_with-cut_left-requires t c =
    let e = written_c c.args.n c.args.left c.args.right c.if-n-eq0.false c.if-contains.ensures c.if-quotient_wraps.ensures c.if-contains-2.ensures in
    (omega arith, (sym c.if-contains-2.ensures, two_first _ _ e c.args.out.now c.requires))

pub rem_with-put_one-requires : goal.rem_with-put_one-requires
rem_with-put_one-requires t c =
    let e = written_c c.args.n c.args.left c.args.right c.if-n-eq0.false c.if-contains.ensures c.if-quotient_wraps.ensures c.if-contains-2.ensures in
    room_two (pos 0) (pos 0) c.cut_left.new.out (two_second _ _ e c.args.out.now c.requires c.cut_left.ensures)

pub rem_with-returns-then-contains-2 : goal.rem_with-returns-then-contains-2
rem_with-returns-then-contains-2 t c =
    let e = written_c c.args.n c.args.left c.args.right c.if-n-eq0.false c.if-contains.ensures c.if-quotient_wraps.ensures c.if-contains-2.ensures in
    two_added _ _ e c.args.out.now c.requires c.cut_left.ensures c.put_one.ensures

-- (d)
pub rem_with-cut_right-requires-then-contains-3 : goal.rem_with-cut_right-requires-then-contains-3
rem_with-cut_right-requires-then-contains-3 t c =
    let e = written_d c.args.n c.args.left c.args.right c.if-n-eq0.false c.if-contains.ensures c.if-quotient_wraps.ensures c.if-contains-2.ensures c.if-contains-3.ensures in
    (omega arith, (sym c.if-contains-3.ensures, two_first _ _ e c.args.out.now c.requires))

pub rem_with-put_against-requires : goal.rem_with-put_against-requires
rem_with-put_against-requires t c =
    let e = written_d c.args.n c.args.left c.args.right c.if-n-eq0.false c.if-contains.ensures c.if-quotient_wraps.ensures c.if-contains-2.ensures c.if-contains-3.ensures in
    omega (arith, against_two c.args.left.lo c.args.left.hi, two_second _ _ e c.args.out.now c.requires c.cut_right-then-contains-3.ensures)

pub rem_with-returns-then-contains-3 : goal.rem_with-returns-then-contains-3
rem_with-returns-then-contains-3 t c =
    let e = written_d c.args.n c.args.left c.args.right c.if-n-eq0.false c.if-contains.ensures c.if-quotient_wraps.ensures c.if-contains-2.ensures c.if-contains-3.ensures in
    two_added _ _ e c.args.out.now c.requires c.cut_right-then-contains-3.ensures (adds_as (ends_read against c.args.left (search rules) (search rules)) c.put_against.ensures)

-- (e)
pub rem_with-cut_left-requires-then-contains-4 : goal.rem_with-cut_left-requires-then-contains-4
rem_with-cut_left-requires-then-contains-4 t c =
    let e = written_e c.args.n c.args.left c.args.right c.if-n-eq0.false c.if-contains.ensures c.if-quotient_wraps.ensures c.if-contains-2.ensures c.if-contains-3.ensures c.if-contains-4.ensures in
    (omega arith, (sym c.if-contains-4.ensures, two_first _ _ e c.args.out.now c.requires))

pub rem_with-put_under-requires : goal.rem_with-put_under-requires
rem_with-put_under-requires t c =
    let e = written_e c.args.n c.args.left c.args.right c.if-n-eq0.false c.if-contains.ensures c.if-quotient_wraps.ensures c.if-contains-2.ensures c.if-contains-3.ensures c.if-contains-4.ensures in
    room_two _ _ c.cut_left-then-contains-4.new.out (two_second _ _ e c.args.out.now c.requires c.cut_left-then-contains-4.ensures)

pub rem_with-returns-then-contains-4 : goal.rem_with-returns-then-contains-4
rem_with-returns-then-contains-4 t c =
    let e = written_e c.args.n c.args.left c.args.right c.if-n-eq0.false c.if-contains.ensures c.if-quotient_wraps.ensures c.if-contains-2.ensures c.if-contains-3.ensures c.if-contains-4.ensures in
    two_added _ _ e c.args.out.now c.requires c.cut_left-then-contains-4.ensures c.put_under.ensures

-- (f)
pub rem_with-put_remainders-requires : goal.rem_with-put_remainders-requires
rem_with-put_remainders-requires t c =
    let e = written_f c.args.n c.args.left c.args.right c.if-n-eq0.false c.if-contains.ensures c.if-quotient_wraps.ensures c.if-contains-2.ensures c.if-contains-3.ensures c.if-contains-4.ensures in
    holds_as c.args.out.now (ends_read (λ s e. rule_f s e c.args.right.lo c.args.right.hi) c.args.left (search rules) (search rules) ∙ e) c.requires

pub rem_with-returns-else-contains-4 : goal.rem_with-returns-else-contains-4
rem_with-returns-else-contains-4 t c =
    let e = written_f c.args.n c.args.left c.args.right c.if-n-eq0.false c.if-contains.ensures c.if-quotient_wraps.ensures c.if-contains-2.ensures c.if-contains-3.ensures c.if-contains-4.ensures in
    adds_as (ends_read (λ s e. rule_f s e c.args.right.lo c.args.right.hi) c.args.left (search rules) (search rules) ∙ e) c.put_remainders.ensures
