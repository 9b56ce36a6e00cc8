-- What a call returns and leaves, at each of its ends: a refused argument, too little work, and the answer handed out. One law an end for every call. Assumes nothing.
use mathlib.Core.Path.{◌≡◌, refl, sym, ap, subst, ◌∙◌}
use mathlib.Core.Bool.{Bool, cond}
use mathlib.Core.List.{List, [], ◌++◌}
use Prim.Native.Nat.{ℕ, ◌*◌, ◌/◌, ◌≤◌, ◌<◌}
use native.Mathlib.Nat.{zero-mul, mul-one}
use native.Mathlib.Omega.{arith}
use borrow.Author.Tests.{le-ltb, eq-eqb, eqb-true}
use lib.Dec.{ltb, eqb}
use lib.ListN.{length, take, drop, replicate, length-replicate}
use lib.Seq.{length-take-le, take-take}
use lib.IntN.{ℤ, pos}
use Rattle.std.specs.Borrow.{MutBor}
use Rattle.meaning.specs.Lists.{over}
use Rattle.meaning.specs.Refusals.{too_short, no_room}
use Rattle.meaning.specs.Number.{Op1}
use Rattle.meaning.specs.NumberIntervals.{Set, set1, flag1, flat, intervals, normal}
use Rattle.meaning.specs.SetCalls.{factor1, need1, need2, refusal, refusal2, Returned, written, refused, call_returns, call_out, call_work}
use Rattle.laws.proofs.Integers.{cond_case}
use Rattle.laws.proofs.Over.{over_same}
use Rattle.replies.specs.declared.Written.{Written}
use Rattle.cores.specs.Cored.{Cored}
use Rattle.cores.specs.declared.Op.{Op}
use Rattle.cores.specs.Operation.{factor_of, set_of, flag_of, Alone}
use Rattle.cores.proofs.Operations.{alone_is}
use Rattle.writer.specs.declared.Writer.{Writer}
use Rattle.writer.specs.Written.{Starts}
use Rattle.writer.proofs.Chain.{first_written}
use Rattle.slices.specs.Adds.{Adds}
use Rattle.replies.specs.Returning.{Ended, Handed}

-- filling the first numbers of a slice leaves the rest
filled_over : (n : ℕ) (old : List ℤ) (a : ℤ) (new : List ℤ) → n ≤ length old → new ≡ replicate (length (take n old)) a → new ++ drop n old ≡ over (replicate n a) old
unfolding over
filled_over n old a new h e = rw (length-replicate n a) (ap (λ (l : List ℤ). l ++ drop n old) (e ∙ ap (λ (k : ℕ). replicate k a) (length-take-le n old h)))

-- zeroing hides what was done before the need's end
zeroed : (old new : List ℤ) (need : ℕ) → drop need new ≡ drop need old → over (replicate need (pos 0)) new ≡ over (replicate need (pos 0)) old
zeroed old new need e =
    over_same (replicate need (pos 0)) new old (rw (length-replicate need (pos 0)) e)

module _ (k need : ℕ) (answer : Set) (flag : Bool) (out work : List ℤ) where
  -- r is the refusal as the code has it
  pub call_refused : (r : ℕ) → r ≡ k → (r ≡ 0 → ⊥) → Ended k need answer flag out work (refused r) out work
  unfolding call_returns call_out call_work
  call_refused r e h = grind arith

  pub call_short : k ≡ 0 → length work < need → Ended k need answer flag out work (refused too_short) out work
  unfolding call_returns call_out call_work
  call_short h s = grind arith

  -- the answer, as it stands in the first n numbers of a list of ends, and the work zeroed
  call_done : (n : ℕ) (ends : List ℤ) → n ≡ length (flat answer) → ends ≡ flat answer → k ≡ 0 → need ≤ length work → {rep : Returned}
      → rep ≡ cond (ltb (length out) n) (refused no_room) (written n flag)
      → Ended k need answer flag out work rep (cond (ltb (length out) n) out (over ends out)) (over (replicate need (pos 0)) work)
  unfolding call_returns call_out call_work
  call_done n ends e f h s r = rw (eq-eqb k 0 h, le-ltb (length work) need s, ← e, ← f) (r, refl, refl)

  -- a call that ends with a core's answer, handed out from the first r numbers of the work: r is the need as the code has it
  pub call_ended : {c : Written} {new : List ℤ} → k ≡ 0 → (r : ℕ) → r ≡ need → r ≤ length work → length new ≡ length work → Cored answer flag need work new c
      → {rep : Returned} {o w : List ℤ}
      → rep ≡ cond (ltb (length out) c.count) (refused no_room) (written c.count c.flag)
      → o ≡ cond (ltb (length out) c.count) out (over (take c.count (take r new)) out)
      → w ≡ replicate (length (take r new)) (pos 0)
      → Ended k need answer flag out work rep o (w ++ drop r new)
  call_ended {c} {new} h r e s l d p q z =
      let t = call_done c.count (take c.count new) d.count d.front h (rw e at s) (p ∙ ap (λ (x : Bool). cond (ltb (length out) c.count) (refused no_room) (written c.count x)) d.flagged) in
      let front : take c.count (take r new) ≡ take c.count new = take-take c.count r new (omega (arith, d.room, e)) in (
        t.0,
        q ∙ ap (λ (x : List ℤ). cond (ltb (length out) c.count) out (over x out)) front ∙ t.1,
        filled_over r new (pos 0) _ (omega (arith, s, l)) z ∙ ap (λ (x : ℕ). over (replicate x (pos 0)) new) e ∙ zeroed work new need d.rest ∙ t.2,
      )

-- ---- a call that takes no work

module _ (k : ℕ) (answer : Set) (flag : Bool) (out : List ℤ) where
  pub handed_refused : (need r : ℕ) → r ≡ k → (r ≡ 0 → ⊥) → Handed k need answer flag out (refused r) out
  handed_refused need r e h = let d = call_refused k need answer flag out [] r e h in (d.0, d.1)

  pub call_handed : {ends : List ℤ} → ends ≡ flat answer → k ≡ 0 → {rep : Returned} {o : List ℤ}
      → rep ≡ cond (ltb (length out) (length ends)) (refused no_room) (written (length ends) flag) → o ≡ cond (ltb (length out) (length ends)) out (over ends out)
      → Handed k 0 answer flag out rep o
  call_handed {ends} f h p q = let d = call_done k 0 answer flag out [] (length ends) ends (ap length f) f h (omega arith) p in (d.0, q ∙ d.1)

-- what a writer has after the first call that wrote intervals
pub written_is : {w v : Writer ℤ} {lent : MutBor (List ℤ)} {x : Set} {ends : List ℤ} → Starts w lent → Adds x v w → ends ≡ take v.len v.room.now → ends ≡ flat x
written_is s a e = e ∙ first_written s a.ends

-- the same end, with its parts in other words
pub handed_as : (out : List ℤ) {k j n m : ℕ} {x y : Set} {f g : Bool} {o : List ℤ} {r : Returned} → k ≡ j → n ≡ m → x ≡ y → f ≡ g → Handed k n x f out r o → Handed j m y g out r o
handed_as out e n a f h = (h.0 ∙ (λ i. call_returns (e i) (n i) (a i) (f i) out []), h.1 ∙ (λ i. call_out (e i) (n i) (a i) (f i) out []))

-- ---- the code works on the operands L and R that the sets are

module _ {L R l r : List ℤ} (same : (L ≡ l) × (R ≡ r)) where
  -- the need, with the factor and the sets as the code has them
  pub need_as : {n k j : ℕ} → k ≡ j → n ≡ need2 k L R → n ≡ need2 j l r
  need_as e h = h ∙ (λ i. need2 (e i) (same.0 i) (same.1 i))

  pub cored_as : (o : Op) (flag : Bool) (old new : List ℤ) (c : Written)
      → Cored (set_of o (intervals L) (intervals R)) (flag_of o flag (intervals L) (intervals R)) (need2 (factor_of o) L R) old new c
      → Cored (set_of o (intervals l) (intervals r)) (flag_of o flag (intervals l) (intervals r)) (need2 (factor_of o) l r) old new c
  cored_as o flag old new c h =
      subst (λ (p : List ℤ × List ℤ). Cored (set_of o (intervals p.0) (intervals p.1)) (flag_of o flag (intervals p.0) (intervals p.1)) (need2 (factor_of o) p.0 p.1) old new c) (λ i. (same.0 i, same.1 i)) h

-- what a core and the end of a call ask for
pub enough : {r need n : ℕ} → r ≡ need → r ≤ n → need ≤ n
enough e h = omega arith

pub end_asks : {r need count n : ℕ} (l : List ℤ) → r ≡ need → count ≤ need → r ≤ n → length l ≡ n → count ≤ length (take r l)
end_asks {r} l e h k q = omega (arith, length-take-le r l (omega (arith, k, q)))

-- a call with factor 0 needs no work
pub no_need1 : {k : ℕ} → k ≡ 0 → (n : ℕ) → 2 * k * n ≡ 0
no_need1 e n = ap (λ (k : ℕ). 2 * k * n) e ∙ zero-mul n

pub no_need2 : {k : ℕ} → k ≡ 0 → (n m : ℕ) → 2 * k * n * m ≡ 0
no_need2 e n m = ap (λ (k : ℕ). 2 * k * n * m) e ∙ ap (λ (k : ℕ). k * m) (zero-mul n) ∙ zero-mul m

-- ---- one operand: the right set {0} is not refused, and counts as one interval

pub alone_refusal : (left : List ℤ) → refusal2 left (replicate 2 (pos 0)) ≡ refusal left
unfolding refusal2 refusal normal
alone_refusal left = cond_case (λ (k : ℕ). k ≡ refusal left) (eqb (refusal left) 0) 0 (refusal left) (λ e. sym (eqb-true (refusal left) 0 e)) (λ _. refl)

alone_need : {k j : ℕ} → k ≡ j → (left : List ℤ) → need2 k left (replicate 2 (pos 0)) ≡ need1 j left
alone_need {k} {j} e left = ap (λ (x : ℕ). 2 * x * (length left / 2) * 1) e ∙ mul-one (2 * j * (length left / 2))

-- an operation on one set ends as its operation on that set and {0}
pub alone_ended : {o : Op} {p : Op1} → Alone o p → (left : List ℤ) (flag : Bool) (out work : List ℤ) {r : Returned} {a w : List ℤ}
    → Ended (refusal2 left (replicate 2 (pos 0))) (need2 (factor_of o) left (replicate 2 (pos 0))) (set_of o (intervals left) (intervals (replicate 2 (pos 0))))
    (flag_of o flag (intervals left) (intervals (replicate 2 (pos 0)))) out work r a w
    → Ended (refusal left) (need1 (factor1 p) left) (set1 p (intervals left)) (flag1 p flag) out work r a w
alone_ended {o} {p} x left flag out work h =
    let is = alone_is x flag (intervals left) (intervals (replicate 2 (pos 0))) in
    let k = alone_refusal left in
    let n = alone_need is.2 left in (
      h.0 ∙ (λ i. call_returns (k i) (n i) (is.0 i) (is.1 i) out work),
      h.1 ∙ (λ i. call_out (k i) (n i) (is.0 i) (is.1 i) out work),
      h.2 ∙ (λ i. call_work (k i) (n i) (is.0 i) (is.1 i) out work),
    )
