-- The answer of a part that writes text, in the words of meaning/Composing, and the contract of such a call. Assumes nothing.
use Rattle.std.specs.Prelude.{ltb, length, ◌≡◌, cond, List, ℕ, Result}
use Rattle.meaning.specs.Refusals.{no_room}
use Rattle.meaning.specs.Composing.{Composed, text, finding, refusal, text_returns, text_leaves}
use Rattle.refusals.specs.declared.Trouble.{Trouble}
use Rattle.refusals.specs.Endings.{Ending, ending_of, verdict_of}
use Rattle.refusals.specs.Endings as ending

-- the answer for n bytes lent
unfoldable pub answer_for : Composed → ℕ → Ending
answer_for (text x) n = cond (ltb n (length x)) (ending.refusal no_room 0) (ending.success (length x))
answer_for (finding k l) n = ending.stop k l
answer_for (refusal k l) n = ending.refusal k l

-- a call that was to write c: `out` was lent, r returned, and `out'` left
pub record Writes (c : Composed) (out : List ℕ) (r : Result ℕ Trouble) (out' : List ℕ) : Type 0 where
  pub returns : verdict_of r ≡ text_returns c out
  pub answer_is : ending_of r ≡ answer_for c (length out)
  pub leaves : out' ≡ text_leaves c out
