-- One line on the registers' sets. Assumes nothing.
use mathlib.Core.Path.{◌≡◌, refl, sym, ap, subst, ◌∙◌}
use mathlib.Core.Bool.{Bool, true, false, not, cond}
use mathlib.Core.List.{List}
use Prim.Native.Nat.{ℕ, ◌<◌}
use native.Mathlib.Omega.{arith}
use lib.IntN.{ℤ}
use lib.ListN.{set}
use Rattle.std.specs.Prelude.{Result, Ok, Err}
use Rattle.meaning.specs.Refusals.{hold_broken}
use Rattle.meaning.specs.Outcome.{Res, ok, stop, bind}
use Rattle.meaning.specs.Number.{InRange, Op1, Op2}
use Rattle.meaning.specs.Interval.{span}
use Rattle.meaning.specs.NumberIntervals.{Set, set1, set2, flag1, flag2}
use Rattle.meaning.specs.Sheet.{registers, beyond, Form, lit, reg, form1, form2, put, hold, input, act, FineForm, FineAct, FineLine}
use Rattle.meaning.specs.Reading.{Got, got, bad, arg, tree, read_line}
use Rattle.meaning.specs.Check.{Bands, at, inside, settle, give, set_of, interval_limit, set_by, line_by, act_by}
use Rattle.laws.proofs.Integers.{between_within}
use Rattle.laws.proofs.Fine.{read_line_fine}
use Rattle.laws.proofs.Fusion.{Related, rel_arg}
use Rattle.literals.specs.Answer.{kept}
use Rattle.forms.specs.Answer.{put_value}
use Rattle.lines.specs.Answer.{put_of, line_from}
use Rattle.lines.specs.declared.Line.{Line}
use Rattle.lines.proofs.Lines.{put_reads}
use Rattle.refusals.specs.declared.Cause.{Cause}
use Rattle.refusals.specs.Endings.{code_of}
use Rattle.refusals.proofs.Rows.{number_not_zero}
use Rattle.set_values.specs.declared.registers.Registers.{Registers}
use Rattle.set_values.specs.Value.{sets_of, bands_of, answer1, answer2, values}
use Rattle.set_lines.specs.Worked.{hold_number, line_check, line_left}

-- ---- the set of a form

pub kept_same : (z : ℤ) → InRange z → kept z ≡ z
unfolding kept
kept_same z h = let e : beyond z ≡ false = ap not (between_within h) in rw e

module _ (S : List Set) where
  abbrev Same : Form → Res Set → Type 0
  Same f v = FineForm f → v ≡ set_of interval_limit S f

  same_literal : (z : ℤ) → Same (lit z) ((values S).on_lit z)
  unfolding set_by FineForm
  same_literal z w = ap (λ (x : ℤ). ok (span x x)) (kept_same z w)

  same_register : (r : ℕ) → r < registers → Same (reg r) ((values S).on_reg r)
  unfolding set_by
  same_register r k w = refl

  same_one : (o : Op1) (f : Form) (v : Res Set) → Same f v → Same (form1 o f) (answer1 o v)
  unfolding set_by FineForm answer1
  same_one o f v p w = ap (λ (x : Res Set). bind x (λ s. settle interval_limit (set1 o s) (flag1 o false))) (p w)

  same_two : (o : Op2) (f g : Form) (v w : Res Set) → Same f v → Same g w → Same (form2 o f g) (answer2 o v w)
  unfolding set_by FineForm answer2
  same_two o f g v w p q i = λ j. bind (p i.0 j) (λ s. bind (q i.1 j) (λ t. settle interval_limit (set2 o s t) (flag2 o false s t)))

  form_value : (d : ℕ) (t : List ℕ) {f : Form} {n : ℕ} → arg tree d t ≡ got f n → FineForm f → put_value (arg (values S) d t) ≡ set_of interval_limit S f
  form_value d t {f} {n} a w =
      go (arg (values S) d t)
      (subst (λ (g : Got Form). Related Same g (arg (values S) d t)) a (rel_arg Same tree (values S) same_literal same_register same_one (λ o f f' v v' p q. same_two o f f' v v' p q) d t))
    where
      go : (g : Got (Res Set)) → Related Same (got f n) g → put_value g ≡ set_of interval_limit S f
      go (got v m) p = p.0 w
      go bad p = absurd p

-- ---- the lines; s is the line's bytes

pub read_as : (s : List ℕ) {x : Result Line Cause} {l v : Line} → line_from x ≡ read_line s → x ≡ Ok l → l ≡ v → line_from (Ok v) ≡ read_line s
read_as s e p q = rw (p ∙ ap (λ (l : Line). Ok l) q) at e

module _ (s : List ℕ) {r : ℕ} {lo hi : ℤ} where
  pub in_there : ok (input r lo hi) ≡ read_line s → r < registers
  unfolding FineLine
  in_there e = (read_line_fine s {l = input r lo hi} (sym e)).there

  pub hold_there : ok (act (hold r lo hi)) ≡ read_line s → r < registers
  unfolding FineLine FineAct
  hold_there e = (read_line_fine s {l = act (hold r lo hi)} (sym e)).there

  pub in_is : ok (input r lo hi) ≡ read_line s → (S : List Set) {new : List Set} {v : Set} → new ≡ set S r v → v ≡ span lo hi → ok (record { sets = new }) ≡ line_check (record { sets = S }) s
  unfolding line_check bind line_by
  in_is e S f g = rw (← e) (ap (λ (l : List Set). ok (record { sets = l })) (f ∙ ap (set S r) g))

  pub hold_is : ok (act (hold r lo hi)) ≡ read_line s → (R : Registers) (x : Result (Unit {0}) Cause) → code_of x ≡ hold_number (inside lo (at (sets_of R) r) hi) → line_left x R ≡ line_check (bands_of R) s
  unfolding line_check bind line_by act_by
  hold_is e R x h = rw (← e) (go x (inside lo (at (sets_of R) r) hi) h)
    where
      go : (x : Result (Unit {0}) Cause) (t : Bool) → code_of x ≡ hold_number t → line_left x R ≡ cond t (ok (bands_of R)) (stop hold_broken)
      go (Ok u) true h = refl
      go (Ok u) false h = absurd (omega arith)
      go (Err c) true h = absurd (number_not_zero c h)
      go (Err c) false h = ap (λ (n : ℕ). stop n) h

pub refused_is : (s : List ℕ) {k : ℕ} → stop k ≡ read_line s → (B : Bands) → stop k ≡ line_check B s
unfolding line_check bind
refused_is s e B = rw (← e)

module _ (s : List ℕ) (r : ℕ) (t : List ℕ) (e : put_of r (arg tree 7 t) ≡ read_line s) where
  abbrev read_put : (f : Form) × (n : ℕ) × (arg tree 7 t ≡ got f n) × (read_line s ≡ ok (act (put r f)))
  read_put = put_reads s r t e

  put_fine : (r < registers) × FineForm read_put.0
  unfolding FineLine FineAct
  put_fine = read_line_fine s read_put.3

  pub put_there : r < registers
  put_there = put_fine.0

  -- v is the form's result
  module _ (S : List Set) {v : Res Set} (ev : v ≡ put_value (arg (values S) 7 t)) where
    put_is : line_check (record { sets = S }) s ≡ bind v (λ q. ok (give (record { sets = S }) r q))
    unfolding line_check bind line_by act_by
    put_is =
        rw read_put.3 (ap (λ (x : Res Set). bind x (λ q. ok (give (record { sets = S }) r q))) (sym (ev ∙ form_value S 7 t read_put.2 put_fine.1)))

    pub put_worked : {q : Set} → v ≡ ok q → {new : List Set} → new ≡ set S r q → ok (record { sets = new }) ≡ line_check (record { sets = S }) s
    unfolding bind
    put_worked {q} o {new} f = ap (λ (l : List Set). ok (record { sets = l })) f ∙ sym (put_is ∙ ap (λ (x : Res Set). bind x (λ q. ok (give (record { sets = S }) r q))) o)

    pub put_stopped : {k : ℕ} → v ≡ stop k → stop k ≡ line_check (record { sets = S }) s
    unfolding bind
    put_stopped {k} o = sym (put_is ∙ ap (λ (x : Res Set). bind x (λ q. ok (give (record { sets = S }) r q))) o)
