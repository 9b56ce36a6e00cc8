-- What a step gives: a value, or the number of the trouble that it meets. `work` carries a state through the lines, and the first line that meets trouble
-- stops it. The run and the check are both `work`, each at a state and a step of its own. Assumes nothing.
use Rattle.std.specs.Prelude.{List, [], ◌∷◌, ℕ, suc}
use Rattle.std.specs.Prelude.{Option, None, Some}

pub data Res (A : Type 0) : Type 0 where
  ok : A → Res A
  stop : ℕ → Res A

unfoldable pub bind : {A B : Type 0} → Res A → (A → Res B) → Res B
bind (ok a) f = f a
bind (stop k) f = stop k

-- no result is trouble k
abbrev pub or_stop : {A : Type 0} → ℕ → Option A → Res A
or_stop k None = stop k
or_stop k (Some a) = ok a

-- done, with the last state; or stopped: the number, the line, and the state before that line
pub data Outcome (A : Type 0) : Type 0 where
  done : A → Outcome A
  stopped : ℕ → ℕ → A → Outcome A

-- a line's result, and then the lines after it (`rest`): n is the line's number, a the state before it
abbrev pub onward : {A : Type 0} → ℕ → A → Res A → (A → Outcome A) → Outcome A
onward n a (ok b) rest = rest b
onward n a (stop k) rest = stopped k n a

-- n is the number of the first of the lines
unfoldable pub work : {A L : Type 0} → (A → L → Res A) → ℕ → A → List L → Outcome A
work f n a [] = done a
work f n a (l ∷ ls) = onward n a (f a l) (λ b. work f (suc n) b ls)

-- line n on what the lines before it left
unfoldable pub next_line : {A L : Type 0} → (A → L → Res A) → ℕ → Outcome A → L → Outcome A
next_line f n (done a) l = onward n a (f a l) done
next_line f n (stopped k m a) l = stopped k m a
