-- `decimal::digits_back` writes the digits from the last one on: what is still to be written stands before what is written already. Assumes nothing.
use mathlib.Core.Path.{◌≡◌, sym, ap, ◌∙◌}
use Prim.Native.Nat.{◌-◌}
use native.Mathlib.Omega.{arith}
use lib.ListN.{drop, drop_of_length-le}
use Rattle.meaning.specs.Listing.{digits_before, decimal}
use Rattle.decimal.proofs.Digits.{last_digit, next_digit}
use Rattle.decimal.proofs.digits_back.Goals as goal

pub loop-at-init : goal.loop-at-init
unfolding decimal
loop-at-init c = ap (digits_before 20 c.args.n) (drop_of_length-le c.args.buffer.now {i = 20} (omega arith))

pub returns-then-rest-eq0 : goal.returns-then-rest-eq0
returns-then-rest-eq0 c =
    let L = c.loop-at in
    (omega arith, last_digit L.at (L.at - 1) L.rest L.buffer (omega arith) (omega arith) (omega arith) c.digit.result c.digit.ensures ∙ L.invariant)

pub loop-at-preserved : goal.loop-at-preserved
loop-at-preserved c =
    let L = c.loop-at in
    next_digit L.at (L.at - 1) L.rest L.buffer (omega arith) (omega arith) (omega arith) c.digit.result c.digit.ensures ∙ L.invariant

pub returns : goal.returns
unfolding digits_before
returns c =
    let L = c.loop-at in
    let z : L.at ≡ 0 = omega arith in
    (omega arith, sym (λ j. digits_before (z j) L.rest (drop (z j) L.buffer)) ∙ L.invariant)
