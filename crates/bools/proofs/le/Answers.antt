-- The first starts and the last ends decide; without an interval there is no pair. Assumes nothing.
use mathlib.Core.Path.{sym, ◌∙◌}
use Prim.Native.Nat.{◌-◌, ◌≤◌, ◌<◌, ◌^◌}
use native.Mathlib.Omega.{arith}
use borrow.Author.Tests.{ltb-true, ltb-false}
use lib.ListN.{length, get_or}
use lib.IntN.{pos}
use lib.Signed.{le_z, lt_z, mag}
use Rattle.meaning.specs.NumberIntervals.{le_bools}
use Rattle.laws.proofs.Machine.{back}
use Rattle.bools.proofs.Some.{empty_left, empty_right, by_start_end, by_end_start, le_keeps, lt_keeps}
use Rattle.bools.proofs.le.Goals as goal

pub returns-in-len2-up-len2-up : goal.returns-in-len2-up-len2-up
unfolding le_bools
returns-in-len2-up-len2-up c =
    let l = c.args.left.numbers.now in
    let m = c.args.right.numbers.now in
    let p : 2 ≤ length l = omega (arith, ltb-false) in
    let q : 2 ≤ length m = omega (arith, ltb-false) in
    let g : mag (get_or l 0 (pos 0)) < 2 ^ 63 = omega arith in
    let h : mag (get_or l (length l - 1) (pos 0)) < 2 ^ 63 = omega arith in
    let j : mag (get_or m 0 (pos 0)) < 2 ^ 63 = omega arith in
    let k : mag (get_or m (length m - 1) (pos 0)) < 2 ^ 63 = omega arith in
    let s = back (get_or l 0 (pos 0)) g in
    let e = back (get_or l (length l - 1) (pos 0)) h in
    let t = back (get_or m 0 (pos 0)) j in
    let f = back (get_or m (length m - 1) (pos 0)) k in
    let no = (λ i. lt_z (t i) (e i)) ∙ sym (by_end_start l m c.args.left.set c.args.right.set p q lt_z lt_keeps) in
    let yes = (λ i. le_z (s i) (f i)) ∙ sym (by_start_end l m c.args.left.set c.args.right.set p q le_z le_keeps) in
    λ i. record { bfalse = no i; btrue = yes i }

pub returns-in_default : goal.returns-in_default
unfolding le_bools
returns-in_default c =
    let a = c.args in
    let h = c.in_default.len_below in
    λ i. record { bfalse = empty_left (λ s e t f. lt_z t e) a.left.numbers.now a.right.numbers.now h i; btrue = empty_left (λ s e t f. le_z s f) a.left.numbers.now a.right.numbers.now h i }

pub returns-in_default-2 : goal.returns-in_default-2
unfolding le_bools
returns-in_default-2 c =
    let a = c.args in
    let h : length a.right.numbers.now < 2 = omega (arith, ltb-true) in
    λ i. record { bfalse = empty_right (λ s e t f. lt_z t e) a.left.numbers.now a.right.numbers.now h i; btrue = empty_right (λ s e t f. le_z s f) a.left.numbers.now a.right.numbers.now h i }
