-- Reading a line (01, "Sheet"): literals, registers, forms and lines from bytes. A reader gives a value and the number of bytes that it takes, or nothing. Assumes nothing.
use Rattle.std.specs.Prelude.{leb, ltb, eqb, ℤ, pos, neg_ℤ, length, get_or, take, drop, Bool, true, false, cond, ◌&&◌, List, [], ◌∷◌, ℕ, zero, suc, ◌+◌, ◌-◌, ◌*◌, ◌^◌}
use Prim.Native.Char.{code}
use Rattle.meaning.specs.Refusals.{ungrammatical, far_literal}
use Rattle.meaning.specs.Bytes.{bytes}
use Rattle.meaning.specs.Outcome.{Res, ok, stop}
use Rattle.meaning.specs.Number.{Op1, neg, abs, not', Op2, add, sub, mul, div, rem, le, lt, ne, and, or}
use Rattle.meaning.specs.Sheet.{registers, Form, lit, reg, form1, form2, Act, put, hold, Line, input, act, far_line, crossed_line}

pub data Got (A : Type 0) : Type 0 where
  got : A → ℕ → Got A
  bad : Got A

abbrev pub map_got : {A B : Type 0} → (A → B) → Got A → Got B
map_got f (got a n) = got (f a) n
map_got f bad = bad

-- go on with what was read, if anything was
abbrev pub and_then : {A B : Type 0} → Got A → (A → ℕ → Got B) → Got B
and_then (got a n) k = k a n
and_then bad k = bad

-- go on if the byte at i is b (past the end stands 0, which is no byte of the grammar)
abbrev pub byte : {A : Type 0} → List ℕ → ℕ → ℕ → Got A → Got A
byte s i b g = cond (eqb (get_or s i 0) b) g bad

-- the closing bracket at i ends it
unfoldable pub closed : {A : Type 0} → List ℕ → ℕ → A → Got A
closed s i a = byte s i (code ")") (got a (i + 1))

-- the text begins with a word
unfoldable pub begins : List ℕ → List ℕ → Bool
begins [] s = true
begins (x ∷ w) [] = false
begins (x ∷ w) (b ∷ s) = eqb b x && begins w s

-- ---- literals: optional minus, digits without a needless leading 0, optionally a point and 1 to 3 digits

abbrev pub is_digit : ℕ → Bool
is_digit b = leb (code "0") b && leb b (code "9")

-- how many digits the text begins with
unfoldable pub digits : List ℕ → ℕ
digits [] = 0
digits (b ∷ s) = cond (is_digit b) (digits s + 1) 0

-- the number that digits write behind a
unfoldable pub number : ℕ → List ℕ → ℕ
number a [] = a
number a (b ∷ s) = number (a * 10 + (b - code "0")) s

-- the first of i digits is a needless 0
abbrev pub needless : List ℕ → ℕ → Bool
needless s i = ltb 1 i && eqb (get_or s 0 0) (code "0")

-- thousandths of a unit of the last of d decimals: 1000, 100, 10, 1
unfoldable pub scale : ℕ → ℕ
scale d = 10 ^ (3 - d)

abbrev pub signed : Bool → ℕ → ℤ
signed negated n = cond negated (neg_ℤ (pos n)) (pos n)

-- i digits of s, the point, and the d digits that t begins with; o bytes stand before s
unfoldable pub decimals : Bool → ℕ → List ℕ → ℕ → List ℕ → ℕ → Got ℤ
decimals negated o s i t d =
    cond (eqb d 0) bad
    (cond (ltb 3 d) bad
    (got (signed negated (number (number 0 (take i s)) (take d t) * scale d)) (o + i + 1 + d)))

-- without the sign, which took o bytes; s begins with i digits
unfoldable pub unsigned : Bool → ℕ → List ℕ → ℕ → Got ℤ
unsigned negated o s i =
    cond (eqb i 0) bad
    (cond (needless s i) bad
    (cond (eqb (get_or s i 0) (code "."))
    (decimals negated o s i (drop (i + 1) s) (digits (drop (i + 1) s)))
    (got (signed negated (number 0 (take i s) * scale 0)) (o + i))))

-- in exact thousandths, however many digits
unfoldable pub literal : List ℕ → Got ℤ
literal s =
    cond (eqb (get_or s 0 0) (code "-"))
    (unsigned true 1 (drop 1 s) (digits (drop 1 s)))
    (unsigned false 0 s (digits s))

-- ---- registers: R is 0 to 15, no leading zero; s begins with i digits

unfoldable pub register_with : List ℕ → ℕ → Got ℕ
register_with s i =
    cond (eqb i 0) bad
    (cond (needless s i) bad
    (cond (ltb (number 0 (take i s)) registers) (got (number 0 (take i s)) i) bad))

abbrev pub register : List ℕ → Got ℕ
register s = register_with s (digits s)

-- ---- forms

-- how a form begins: its bracket, its word, a space
pub data Head : Type 0 where
  is_reg : Head
  is1 : Op1 → Head
  is2 : Op2 → Head
  is_none : Head

unfoldable pub head : List ℕ → Head
head s =
    cond (begins (bytes "(reg ") s) is_reg
    (cond (begins (bytes "(neg ") s) (is1 neg)
    (cond (begins (bytes "(abs ") s) (is1 abs)
    (cond (begins (bytes "(not ") s) (is1 not')
    (cond (begins (bytes "(add ") s) (is2 add)
    (cond (begins (bytes "(sub ") s) (is2 sub)
    (cond (begins (bytes "(mul ") s) (is2 mul)
    (cond (begins (bytes "(div ") s) (is2 div)
    (cond (begins (bytes "(rem ") s) (is2 rem)
    (cond (begins (bytes "(le ") s) (is2 le)
    (cond (begins (bytes "(lt ") s) (is2 lt)
    (cond (begins (bytes "(ne ") s) (is2 ne)
    (cond (begins (bytes "(and ") s) (is2 and)
    (cond (begins (bytes "(or ") s) (is2 or)
    is_none)))))))))))))

-- where the first argument starts: behind the space that ends a word of two or three letters
unfoldable pub start : List ℕ → ℕ
start s = cond (eqb (get_or s 3 0) (code " ")) 4 5

-- what is made of a literal (its exact thousandths), a register, and an operation's arguments
pub record Algebra (A : Type 0) : Type 0 where
  pub on_lit : ℤ → A
  pub on_reg : ℕ → A
  pub on1 : Op1 → A → A
  pub on2 : Op2 → A → A → A

module _ {A : Type 0} (alg : Algebra A) where
  -- the second argument and the closing bracket; the first argument ended before i
  abbrev pub second : (List ℕ → Got A) → List ℕ → Op2 → ℕ → A → Got A
  second arg s o i a = byte s i (code " ") (and_then (arg (drop (i + 1) s)) (λ b m. closed s (i + 1 + m) (alg.on2 o a b)))

  -- the arguments from k on, and the closing bracket
  abbrev pub on_head : (List ℕ → Got A) → List ℕ → ℕ → Head → Got A
  on_head arg s k is_reg = and_then (register (drop k s)) (λ r n. closed s (k + n) (alg.on_reg r))
  on_head arg s k (is1 o) = and_then (arg (drop k s)) (λ a n. closed s (k + n) (alg.on1 o a))
  on_head arg s k (is2 o) = and_then (arg (drop k s)) (λ a n. second arg s o (k + n) a)
  on_head arg s k is_none = bad

  abbrev pub form_with : (List ℕ → Got A) → List ℕ → Got A
  form_with arg s = on_head arg s (start s) (head s)

  -- an argument is a form if it opens a bracket, else a literal
  abbrev pub arg_with : (List ℕ → Got A) → List ℕ → Got A
  arg_with form s = cond (eqb (get_or s 0 0) (code "(")) (form s) (map_got alg.on_lit (literal s))

  -- with d brackets left
  unfoldable pub arg : ℕ → List ℕ → Got A
  arg zero s = arg_with (λ t. bad) s
  arg (suc d) s = arg_with (form_with (λ t. arg d t)) s

  -- with d brackets left inside its own
  unfoldable pub form : ℕ → List ℕ → Got A
  form d s = form_with (arg d) s

abbrev pub tree : Algebra Form
tree = record { on_lit = lit; on_reg = reg; on1 = form1; on2 = form2 }

-- ---- lines, with d brackets left inside the line's own

-- R, a space, and what is read of the rest; the register starts at i
abbrev pub on_register : {A : Type 0} → List ℕ → ℕ → (ℕ → ℕ → Got A) → Got A
on_register s i rest = and_then (register (drop i s)) (λ r n. byte s (i + n) (code " ") (rest r (i + n + 1)))

-- LO, a space, HI and the closing bracket, from i on
unfoldable pub bounds : {A : Type 0} → (ℤ → ℤ → A) → List ℕ → ℕ → Got A
bounds make s i =
    and_then (literal (drop i s))
    (λ lo n. byte s (i + n) (code " ")
    (and_then (literal (drop (i + n + 1) s)) (λ hi m. closed s (i + n + 1 + m) (make lo hi))))

-- E and the closing bracket, from i on
unfoldable pub value : {A B : Type 0} → Algebra A → (A → B) → ℕ → List ℕ → ℕ → Got B
value alg make d s i = and_then (arg alg d (drop i s)) (λ e n. closed s (i + n) (make e))

-- "(put R E)" or "(hold R LO HI)"
unfoldable pub act_of : ℕ → List ℕ → Got Act
act_of d s =
    cond (begins (bytes "(put ") s) (on_register s 5 (λ r i. value tree (put r) d s i))
    (cond (begins (bytes "(hold ") s) (on_register s 6 (λ r i. bounds (hold r) s i))
    bad)

-- "(in R LO HI)", or one of those
unfoldable pub line_of : ℕ → List ℕ → Got Line
line_of d s =
    cond (begins (bytes "(in ") s) (on_register s 4 (λ r i. bounds (input r) s i))
    (map_got act (act_of d s))

-- nothing stands behind the form: one form a line
unfoldable pub whole_line : List ℕ → Got Line → Res Line
whole_line s (got l n) = cond (eqb n (length s)) (ok l) (stop ungrammatical)
whole_line s bad = stop ungrammatical

-- 7, then LO past HI, which is 6
unfoldable pub judged : Res Line → Res Line
judged (ok l) = cond (far_line l) (stop far_literal) (cond (crossed_line l) (stop ungrammatical) (ok l))
judged (stop k) = stop k

-- 8 brackets deep, the line's own counted
unfoldable pub read_line : List ℕ → Res Line
read_line s = judged (whole_line s (line_of 7 s))
