-- The plain run (01, "Plain run", as request (vi) of document 02 amends it): its state is one number a register. Assumes nothing.
use Rattle.std.specs.Prelude.{ltb, ℤ, pos, length, get_or, set, take, ◌≡◌, cond, List, ℕ, zero, suc}
use Rattle.meaning.specs.Refusals.{too_short, zero_divisor, hold_broken, outside_in}
use Rattle.meaning.specs.Lists.{over, All}
use Rattle.meaning.specs.Outcome.{Res, ok, stop, bind, or_stop, Outcome, done, stopped, work, next_line}
use Rattle.meaning.specs.Number.{InRange, within, Between, point1, point2}
use Rattle.meaning.specs.Sheet.{registers, Form, lit, reg, form1, form2, Act, put, hold, Line, input, act}
use Rattle.meaning.specs.Text.{Read, sheet, no_sheet, read}

-- a literal gives its thousandths, (reg R) the state's number; always both arguments, left before right; a right value 0 in div or rem is 20
unfoldable pub value_of : List ℤ → Form → Res ℤ
value_of s (lit z) = ok z
value_of s (reg r) = ok (get_or s r (pos 0))
value_of s (form1 o e) = bind (value_of s e) (λ x. ok (point1 o x))
value_of s (form2 o e f) = bind (value_of s e) (λ x. bind (value_of s f) (λ y. or_stop zero_divisor (point2 o x y)))

-- put: R takes E's value. hold: 21 if R's number is outside LO to HI, else nothing alters
unfoldable pub run_act : List ℤ → Act → Res (List ℤ)
run_act s (put r e) = bind (value_of s e) (λ z. ok (set s r z))
run_act s (hold r lo hi) = cond (within lo (get_or s r (pos 0)) hi) (ok s) (stop hold_broken)

-- in: 22 if R's lent number is outside LO to HI, else R takes it
unfoldable pub run_line : List ℤ → List ℤ → Line → Res (List ℤ)
run_line lent s (input r lo hi) = cond (within lo (get_or lent r (pos 0)) hi) (ok (set s r (get_or lent r (pos 0)))) (stop outside_in)
run_line lent s (act a) = run_act s a

-- every register starts with the number that was there, its lent one (02, (vi))
unfoldable pub start_numbers : List ℤ → List ℤ
start_numbers lent = take registers lent

unfoldable pub run : List ℤ → List Line → Outcome (List ℤ)
run lent ls = work (run_line lent) 1 (start_numbers lent) ls

-- the state after line 0 is the start; line N works on the state after line N − 1 (for N up to the line count: what stands for a line past the last one is never asked for)
unfoldable pub state_after : List ℤ → List Line → ℕ → Outcome (List ℤ)
state_after lent ls zero = done (start_numbers lent)
state_after lent ls (suc n) = next_line (run_line lent) (suc n) (state_after lent ls n) (get_or ls n (act (hold 0 (pos 0) (pos 0))))

-- ---- the run of a text

-- a refusal with its number and line, or the line count and the outcome of the lines
pub data Judged (A : Type 0) : Type 0 where
  refused : ℕ → ℕ → Judged A
  worked : ℕ → Outcome A → Judged A

abbrev pub judge : {A : Type 0} → (List Line → Outcome A) → Read → Judged A
judge f (sheet ls) = worked (length ls) (f ls)
judge f (no_sheet k n) = refused k n

unfoldable pub run_text : List ℤ → List ℕ → Judged (List ℤ)
run_text lent t = judge (run lent) (read t)

-- ---- the call: what it returns, and what it leaves in the lent slice

-- on success number 0, line 0 and the line count; else the number and its line
pub record Verdict : Type 0 where
  pub number : ℕ
  pub line : ℕ
  pub count : ℕ

abbrev pub verdict : {A : Type 0} → Judged A → Verdict
verdict (refused k l) = record { number = k; line = l; count = 0 }
verdict (worked n (done a)) = record { number = 0; line = 0; count = n }
verdict (worked n (stopped k l a)) = record { number = k; line = l; count = 0 }

-- 3 where fewer numbers are lent than there are registers, before all else
unfoldable pub run_call : List ℕ → List ℤ → Judged (List ℤ)
run_call t lent = cond (ltb (length lent) registers) (refused too_short 0) (run_text lent t)

-- the last state, or the state before the line that stopped the run
abbrev pub left_by : List ℤ → Judged (List ℤ) → List ℤ
left_by lent (refused k l) = lent
left_by lent (worked n (done s)) = over s lent
left_by lent (worked n (stopped k l s)) = over s lent

unfoldable pub run_lent : List ℕ → List ℤ → List ℤ
run_lent t lent = left_by lent (run_call t lent)

-- where the lines of t were worked, the numbers that they started from are numbers of i64, whatever was left in a register
abbrev pub Ranged : List ℕ → List ℤ → Type 0
Ranged t lent = (n : ℕ) (o : Outcome (List ℤ)) → run_call t lent ≡ worked n o → All InRange (start_numbers lent)

-- ---- the premise of demand 3: the lent numbers of the registers with `in` lines lie inside them

unfoldable pub Allowed : List ℤ → Line → Type 0
Allowed lent (input r lo hi) = Between lo (get_or lent r (pos 0)) hi
Allowed lent (act a) = Unit {0}

pub record LentInside (lent : List ℤ) (t : List ℕ) : Type 0 where
  pub inside : (ls : List Line) → read t ≡ sheet ls → All (Allowed lent) ls
