-- Sheet (01, "Sheet"): forms and lines, as reading gives them. Assumes nothing.
use Rattle.std.specs.Prelude.{ℤ, ◌≤ℤ◌, Bool, false, not, ◌||◌, ℕ, ◌<◌}
use Rattle.std.specs.Int.Signed.{lt_z}
use Rattle.meaning.specs.Number.{MIN, MAX, within, InRange, Op1, Op2}

-- how many registers there are: R is 0 to 15
abbrev pub registers : ℕ
registers = 16

-- E: a literal in thousandths, (reg R), (OP E), (OP E E)
pub data Form : Type 0 where
  lit : ℤ → Form
  reg : ℕ → Form
  form1 : Op1 → Form → Form
  form2 : Op2 → Form → Form → Form

-- the lines that work on the state alone: (put R E) and (hold R LO HI)
pub data Act : Type 0 where
  put : ℕ → Form → Act
  hold : ℕ → ℤ → ℤ → Act

-- `input` is the paper's (in R LO HI)
pub data Line : Type 0 where
  input : ℕ → ℤ → ℤ → Line
  act : Act → Line

-- ---- what is refused of a line that is inside the grammar

-- beyond MIN..MAX
abbrev pub beyond : ℤ → Bool
beyond z = not (within MIN z MAX)

-- 7: some literal is beyond MIN..MAX
unfoldable pub far_form : Form → Bool
far_form (lit z) = beyond z
far_form (reg r) = false
far_form (form1 o e) = far_form e
far_form (form2 o e f) = far_form e || far_form f

unfoldable pub far_act : Act → Bool
far_act (put r e) = far_form e
far_act (hold r lo hi) = beyond lo || beyond hi

unfoldable pub far_line : Line → Bool
far_line (input r lo hi) = beyond lo || beyond hi
far_line (act a) = far_act a

-- 6: LO past HI
unfoldable pub crossed_act : Act → Bool
crossed_act (put r e) = false
crossed_act (hold r lo hi) = lt_z hi lo

unfoldable pub crossed_line : Line → Bool
crossed_line (input r lo hi) = lt_z hi lo
crossed_line (act a) = crossed_act a

-- ---- what reading makes sure of: registers are there, literals are from MIN to MAX, and no LO is past its HI

unfoldable pub FineForm : Form → Type 0
FineForm (lit z) = InRange z
FineForm (reg r) = r < registers
FineForm (form1 o e) = FineForm e
FineForm (form2 o e f) = FineForm e × FineForm f

pub record FineRange (r : ℕ) (lo hi : ℤ) : Type 0 where
  pub there : r < registers
  pub lo_fits : InRange lo
  pub hi_fits : InRange hi
  pub ordered : lo ≤ℤ hi

unfoldable pub FineAct : Act → Type 0
FineAct (put r e) = (r < registers) × FineForm e
FineAct (hold r lo hi) = FineRange r lo hi

unfoldable pub FineLine : Line → Type 0
FineLine (input r lo hi) = FineRange r lo hi
FineLine (act a) = FineAct a
