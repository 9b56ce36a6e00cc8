-- The ends of a call that writes text: short, written, stop and refusal. Assumes nothing.
use lib.Dec.{ltb}
use lib.ListN.{length, take, drop}
use mathlib.Core.Path.{◌≡◌, refl, sym, ap, subst, ◌∙◌}
use mathlib.Core.Bool.{Bool, true, false, cond}
use mathlib.Core.List.{List, ◌++◌}
use Prim.Native.Nat.{ℕ, ◌≤◌, ◌<◌}
use native.Mathlib.Omega.{arith}
use borrow.Author.Tests.{lt-ltb, le-ltb, ltb-false}
use Rattle.std.specs.Prelude.{Result, Ok, Err}
use Rattle.meaning.specs.Refusals.{no_room}
use Rattle.meaning.specs.Composing.{Composed, text, finding, refusal, text_returns, text_leaves}
use Rattle.refusals.specs.declared.Cause.{Cause}
use Rattle.refusals.specs.declared.Cause.TheVariants.{NoRoom}
use Rattle.refusals.specs.declared.Trouble.{Trouble}
use Rattle.refusals.specs.declared.Trouble.TheVariants.{Refused, Stopped}
use Rattle.refusals.specs.Numbers.{number_of}
use Rattle.refusals.specs.Endings.{Ending, ending_of}
use Rattle.refusals.specs.Endings as ending
use Rattle.laws.proofs.Integers.{if_yes, if_no}
use Rattle.std.specs.Borrow.{MutBor}
use Rattle.meaning.specs.Lists.{over}
use Rattle.writer.specs.declared.Writer.{Writer}
use Rattle.writer.specs.Written.{Starts, Appends}
use Rattle.texts.specs.Answers.{answer_for, Writes}

pub writes_short : (x out : List ℕ) → length out < length x → Writes (text x) out (Err (Refused NoRoom 0)) out
unfolding text_returns text_leaves answer_for
writes_short x out h =
    let t = lt-ltb (length out) (length x) h in
    record { returns = if_yes _ _ t; answer_is = if_yes _ _ t; leaves = if_yes _ _ t }

-- the text stands at the front, and its bytes are counted
pub writes_all : (x : List ℕ) {out new : List ℕ} {n : ℕ} → n ≡ length x → new ≡ over x out → n ≤ length out → Writes (text x) out (Ok n) new
unfolding text_returns text_leaves answer_for
writes_all x {out} count left room =
    let t = le-ltb (length out) (length x) (omega arith) in
    record {
      returns = ap (λ (k : ℕ). record { number = 0; line = 0; count = k }) count ∙ if_no _ _ t;
      answer_is = ap ending.success count ∙ if_no _ _ t;
      leaves = left ∙ if_no _ _ t;
    }

-- the same of what a writer holds after its first call
pub writes_first : {w v : Writer ℕ} {lent : MutBor (List ℕ)} {x : List ℕ} → Starts w lent → Appends x v w → Writes (text x) lent.now (Ok v.len) v.room.now
writes_first {w} {x = x} s a =
    writes_all x (omega (arith, s.empty, a.count)) (a.left ∙ (λ i. take (s.empty i) (s.now i) ++ over x (drop (s.empty i) (s.now i)))) (omega (arith, s.empty, a.count, a.room, ap length s.now))

pub writes_stop : (k : Cause) (l : ℕ) (out : List ℕ) → Writes (finding (number_of k) l) out (Err (Stopped k l)) out
unfolding text_returns text_leaves answer_for
writes_stop k l out = record { returns = refl; answer_is = refl; leaves = refl }

pub writes_refusal : (k : Cause) (l : ℕ) (out : List ℕ) → Writes (refusal (number_of k) l) out (Err (Refused k l)) out
unfolding text_returns text_leaves answer_for
writes_refusal k l out = record { returns = refl; answer_is = refl; leaves = refl }

-- what it was to write, said another way
pub writes_as : {x y : Composed} {out new : List ℕ} {r : Result ℕ Trouble} → x ≡ y → Writes x out r new → Writes y out r new
writes_as {out = out} {new = new} {r = r} e w = subst (λ (c : Composed). Writes c out r new) e w

-- what was written lies in the output
pub written_fits : {c : Composed} {out new : List ℕ} {r : Result ℕ Trouble} {n : ℕ} → Writes c out r new → r ≡ Ok n → n ≤ length out
unfolding answer_for
written_fits {c} {out} {new} {r} {n} w e = go c (ap ending_of (sym e) ∙ w.answer_is)
  where
    fits : (x : List ℕ) (b : Bool) → ltb (length out) (length x) ≡ b → ending.success n ≡ cond b (ending.refusal no_room 0) (ending.success (length x)) → n ≤ length out
    fits x true t p = absurd (grind arith)
    fits x false t p = let k : n ≡ length x = cc in omega (arith, ltb-false (length out) (length x) t)

    go : (c : Composed) → ending.success n ≡ answer_for c (length out) → n ≤ length out
    go (text x) p = fits x (ltb (length out) (length x)) refl p
    go (finding k l) p = absurd (grind arith)
    go (refusal k l) p = absurd (grind arith)
