-- One line on the state. Assumes nothing.
use mathlib.Core.Path.{◌≡◌, sym, ap, ◌∙◌}
use mathlib.Core.Bool.{true, false}
use mathlib.Core.List.{List}
use Prim.Native.Nat.{ℕ, ◌<◌}
use lib.IntN.{ℤ, pos}
use lib.ListN.{get_or, set}
use Rattle.std.specs.Borrow.{Bor}
use Rattle.std.specs.Prelude.{Result, Ok, Err}
use Rattle.meaning.specs.Outcome.{Res, ok, stop, bind}
use Rattle.meaning.specs.Number.{within}
use Rattle.meaning.specs.Sheet.{registers, Form, put, hold, Line as Read, input, act, FineAct, FineLine}
use Rattle.meaning.specs.Reading.{got, arg, tree, read_line}
use Rattle.meaning.specs.Run.{run_act, run_line}
use Rattle.laws.proofs.Fine.{read_line_fine}
use Rattle.refusals.specs.declared.Cause.{Cause}
use Rattle.refusals.specs.declared.Cause.TheVariants.{OutsideIn, HoldBroken}
use Rattle.refusals.specs.Numbers.{number_of}
use Rattle.interval.specs.declared.Interval.{Interval}
use Rattle.lines.specs.Answer.{line_from}
use Rattle.lines.specs.declared.Line.{Line}
use Rattle.lines.specs.declared.Line.TheVariants.{In, Put, Hold}
use Rattle.lines.proofs.Lines.{put_reads}
use Rattle.forms.specs.Answer.{put_value}
use Rattle.point_forms.specs.Answer.{points}
use Rattle.point_forms.proofs.Points.{put_value_lem}
use Rattle.run_lines.specs.Answer.{line_run, state_left, Stepped}

module _ (lent state : List ℤ) (s : List ℕ) where
  abbrev Does : Result (Unit {0}) Cause → List ℤ → Type 0
  Does k after = Stepped k after state (line_run lent state s)

  goes : {after : List ℤ} → line_run lent state s ≡ ok after → Does (Ok tt) after
  goes e = record { step = sym e; left = sym (ap (state_left state) e) }

  halts : {cause : Cause} → line_run lent state s ≡ stop (number_of cause) → Does (Err cause) state
  halts e = record { step = sym e; left = sym (ap (state_left state) e) }

  reads_as : {x : Read} → read_line s ≡ ok x → line_run lent state s ≡ run_line lent state x
  unfolding line_run bind
  reads_as e = rw e

  -- a line that is refused
  pub refused_halts : {cause : Cause} → stop (number_of cause) ≡ read_line s → Does (Err cause) state
  unfolding line_run bind
  refused_halts e = halts (rw (← e))

-- what the line does, by its kind
module _ (lent state : List ℤ) (s : List ℕ) {l : Line} (el : line_from (Ok l) ≡ read_line s) where
  module _ {r : ℕ} {range : Interval} (e : l ≡ In r range) where
    in_line : read_line s ≡ ok (input r range.lo range.hi)
    in_line = sym el ∙ ap (λ x. line_from (Ok x)) e

    pub in_there : r < registers
    unfolding FineLine
    in_there = (read_line_fine s in_line).there

    pub in_goes : within range.lo (get_or lent r (pos 0)) range.hi ≡ true → Does lent state s (Ok tt) (set state r (get_or lent r (pos 0)))
    unfolding run_line
    in_goes w = goes lent state s (reads_as lent state s in_line ∙ rw w)

    pub in_halts : within range.lo (get_or lent r (pos 0)) range.hi ≡ false → Does lent state s (Err OutsideIn) state
    unfolding run_line
    in_halts w = halts lent state s (reads_as lent state s in_line ∙ rw w)

  module _ {r : ℕ} {range : Interval} (e : l ≡ Hold r range) where
    hold_line : read_line s ≡ ok (act (hold r range.lo range.hi))
    hold_line = sym el ∙ ap (λ x. line_from (Ok x)) e

    pub hold_there : r < registers
    unfolding FineLine FineAct
    hold_there = (read_line_fine s hold_line).there

    pub hold_goes : within range.lo (get_or state r (pos 0)) range.hi ≡ true → Does lent state s (Ok tt) state
    unfolding run_line run_act
    hold_goes w = goes lent state s (reads_as lent state s hold_line ∙ rw w)

    pub hold_halts : within range.lo (get_or state r (pos 0)) range.hi ≡ false → Does lent state s (Err HoldBroken) state
    unfolding run_line run_act
    hold_halts w = halts lent state s (reads_as lent state s hold_line ∙ rw w)

  module _ {r : ℕ} {form : Bor (List ℕ)} (e : l ≡ Put r form) where
    put_line : (f : Form) × (n : ℕ) × (arg tree 7 form.now ≡ got f n) × (read_line s ≡ ok (act (put r f)))
    put_line = put_reads s r form.now (ap (λ x. line_from (Ok x)) (sym e) ∙ el)

    pub put_there : r < registers
    unfolding FineLine FineAct
    put_there = (read_line_fine s put_line.3).0

    -- by the value of its form
    put_is : {v : Res ℤ} → v ≡ put_value (arg (points state) 7 form.now) → line_run lent state s ≡ bind v (λ z. ok (set state r z))
    unfolding run_line run_act FineLine FineAct
    put_is w =
        let p = put_line in
        reads_as lent state s p.3 ∙ ap (λ (a : Res ℤ). bind a (λ z. ok (set state r z))) (sym (w ∙ put_value_lem state form.now p.2 (read_line_fine s p.3).1))

    pub put_goes : {z : ℤ} → ok z ≡ put_value (arg (points state) 7 form.now) → Does lent state s (Ok tt) (set state r z)
    unfolding bind
    put_goes w = goes lent state s (put_is w)

    pub put_halts : {cause : Cause} → stop (number_of cause) ≡ put_value (arg (points state) 7 form.now) → Does lent state s (Err cause) state
    unfolding bind
    put_halts w = halts lent state s (put_is w)
