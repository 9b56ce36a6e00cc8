-- The upper words tell the windows and the lower words the wrapped values. Numbers that are near, in order and in two windows are in neighbouring ones, so
-- the window of p tells windows 0 and 1.
-- Assumes nothing.
use borrow.Author.Tests.{eq-eqb, ne_eqb}
use mathlib.Core.Path.{◌≡◌, sym, ap, ap₂, ◌∙◌}
use mathlib.Core.Bool.{Bool, true, false}
use Prim.Native.Nat.{ℕ, ◌+◌, ◌^◌, ◌<◌}
use native.Mathlib.Omega.{arith}
use lib.Dec.{eqb}
use lib.IntN.{pos}
use lib.Signed.{◌≤ℤ◌}
use Rattle.meaning.specs.Number.{eq_z, window, wrap}
use Rattle.meaning.specs.Interval.{one, two, far}
use Rattle.laws.proofs.Machine.{rd}
use Rattle.laws.proofs.Spread.{spread_whole, spread_one, spread_middle, spread_two}
use Rattle.wide.specs.Exact.{number_of}
use Rattle.wide.proofs.Words.{is_held, in_order, is_lit, window_held, end_held}
use Rattle.wide.proofs.Order.{next}
use Rattle.wide.proofs.Spreads.{eq_test, near_words}
use Rattle.wide.specs.declared.product.Wide.{Wide}
use Rattle.wide.proofs.spread.spread_of.Goals as goal
use Rattle.wide.proofs.spread.spread_of.Goals.{After-unword-v}

-- two exact numbers that are not far apart, by their words
module _ (p q : Wide) (a : p.lo < 2 ^ 64) (b : q.lo < 2 ^ 64) where
  -- in two windows: the next window
  neighbour : number_of p ≤ℤ number_of q → far (number_of p) (number_of q) ≡ false → (p.hi ≡ q.hi → ⊥) → q.hi ≡ p.hi + 1
  neighbour o f n =
      next p.hi q.hi p.lo q.lo a b (in_order (is_held p.hi p.lo) (is_held q.hi q.lo) o) (near_words (is_held p.hi p.lo) (is_held q.hi q.lo) f) n

  -- the tests of the windows
  same_window : {t : Bool} → eqb p.hi q.hi ≡ t → eq_z (window (number_of p)) (window (number_of q)) ≡ t
  same_window e = eq_test (window_held p.hi p.lo a) (window_held q.hi q.lo b) ∙ e

  p_window : {t : Bool} → eqb p.hi (2 ^ 63) ≡ t → eq_z (window (number_of p)) (pos 0) ≡ t
  p_window e = eq_test (window_held p.hi p.lo a) (is_lit 0 (2 ^ 63)) ∙ e

  q_window : eqb q.hi (1 + 2 ^ 63) ≡ true → eq_z (window (number_of q)) (pos 1) ≡ true
  q_window e = eq_test (window_held q.hi q.lo b) (is_lit 1 (2 ^ 63)) ∙ e

pub returns-then-far_apart : goal.returns-then-far_apart
returns-then-far_apart c = sym (spread_whole _ _ (sym c.far_apart.ensures ∙ c.if-far_apart.true))

-- after both calls of `unword`: their results are the wrapped values
module _ (c : After-unword-v) where
  near : far (number_of c.args.p) (number_of c.args.q) ≡ false
  near = sym c.far_apart.ensures ∙ c.if-far_apart.false

  u_is : rd c.unword-u.result ≡ wrap (number_of c.args.p)
  u_is = end_held c.args.p.hi c.args.p.lo c.unword-u.result (omega arith) c.unword-u.type_inv c.unword-u.ensures

  v_is : rd c.unword-v.result ≡ wrap (number_of c.args.q)
  v_is = end_held c.args.q.hi c.args.q.lo c.unword-v.result (omega arith) c.unword-v.type_inv c.unword-v.ensures

pub returns-then-p-q : goal.returns-then-p-q
returns-then-p-q c =
    let x = c.args in
    let f = c.before.before.before in
    ap₂ one (u_is f) (v_is f)
    ∙ sym (spread_one _ _ (near f) (same_window x.p x.q (omega arith) (omega arith) (eq-eqb _ _ c.if-p-q.true)))

pub returns-then-p-eq-MIDDLE : goal.returns-then-p-eq-MIDDLE
returns-then-p-eq-MIDDLE c =
    let x = c.args in
    let f = c.before.before.before.before.before in
    let a : x.p.lo < 2 ^ 64 = omega arith in
    let b : x.q.lo < 2 ^ 64 = omega arith in
    let k = neighbour x.p x.q a b c.requires (near f) c.if-p-q.false in
    ap₂ two (v_is f) (u_is f)
    ∙ sym (spread_middle _ _ (near f) (same_window x.p x.q a b (ne_eqb _ _ c.if-p-q.false)) (p_window x.p x.q a b (eq-eqb _ _ c.if-p-eq-MIDDLE.true))
    (q_window x.p x.q a b (eq-eqb _ _ (k ∙ ap (λ (n : ℕ). n + 1) c.if-p-eq-MIDDLE.true))))

pub returns-else-p-eq-MIDDLE : goal.returns-else-p-eq-MIDDLE
returns-else-p-eq-MIDDLE c =
    let x = c.args in
    let f = c.before.before.before.before.before in
    let a : x.p.lo < 2 ^ 64 = omega arith in
    let b : x.q.lo < 2 ^ 64 = omega arith in
    ap₂ two (u_is f) (v_is f)
    ∙ sym (spread_two _ _ (near f) (same_window x.p x.q a b (ne_eqb _ _ c.if-p-q.false)) (p_window x.p x.q a b (ne_eqb _ _ c.if-p-eq-MIDDLE.false)))
