-- `forms::read_arg` and `forms::read_form` meet their contracts: each return is one case of the definition, and the brackets left fall at each call of a form.
use mathlib.Core.Path.{ap, ◌∙◌}
use Prim.Native.Nat.{◌+◌}
use native.Mathlib.Omega.{arith}
use Rattle.meaning.specs.Reading.{Algebra}
use Rattle.literals.proofs.Within.{rest_is}
use Rattle.forms.specs.Answer.{op1_of, op2_of}
use Rattle.forms.proofs.Within.{register_room, register_small, first_room, second_room}
use Rattle.forms.proofs.Forms.{closed_map, opened, arg_none, arg_form, arg_literal, arg_no_literal, form_none, form_register, form_no_register, form_one, form_no_one, form_no_first, form_no_space, form_two, form_no_second}
use Rattle.forms.proofs.+reading.Goals as goal

pub read_arg-returns-in_err-z-clause-value : goal.read_arg-returns-in_err-z-clause-value
read_arg-returns-in_err-z-clause-value g t c =
    rw c.from_residual.ensures (arg_no_literal (g.A.Algebra.algebra c.args.algebra.now) c.args.text.now c.args.depth c.at.ensures c.if-at-eq40.false (c.in_err-z.ensures))

pub read_arg-returns-then-depth-eq0-clause-value : goal.read_arg-returns-then-depth-eq0-clause-value
read_arg-returns-then-depth-eq0-clause-value g t c =
    arg_none (g.A.Algebra.algebra c.args.algebra.now) c.args.text.now c.args.depth c.at.ensures c.if-at-eq40.true c.if-depth-eq0.true

pub read_arg-returns-else-depth-eq0-clause-value : goal.read_arg-returns-else-depth-eq0-clause-value
read_arg-returns-else-depth-eq0-clause-value g t c =
    c.read_form.ensures.value ∙ arg_form (g.A.Algebra.algebra c.args.algebra.now) c.args.text.now c.args.depth c.at.ensures c.if-at-eq40.true c.if-depth-eq0.false

pub read_arg-returns-in_ok-z-clause-value : goal.read_arg-returns-in_ok-z-clause-value
read_arg-returns-in_ok-z-clause-value g t c =
    arg_literal (g.A.Algebra.algebra c.args.algebra.now) c.args.text.now c.args.depth c.at.ensures c.if-at-eq40.false c.in_ok-z.ensures c.literal.ensures.value

pub read_form-returns-in_err-read_head-clause-value : goal.read_form-returns-in_err-read_head-clause-value
read_form-returns-in_err-read_head-clause-value g t c =
    rw c.from_residual.ensures (form_none (g.A.Algebra.algebra c.args.algebra.now) c.args.text.now c.args.depth (c.in_err-read_head.ensures))

pub read_form-returns-in_err-r-in-Reg-clause-value : goal.read_form-returns-in_err-r-in-Reg-clause-value
read_form-returns-in_err-r-in-Reg-clause-value g t c =
    rw c.from_residual-in_err-r-in-Reg.ensures (form_no_register (g.A.Algebra.algebra c.args.algebra.now) c.args.text.now c.args.depth c.start-k.ensures c.tail.ensures (opened c.args.text.now c.in-Reg.is c.in_ok-read_head.ensures) (c.in_err-r-in-Reg.ensures))

pub read_form-overflow_add-k : goal.read_form-overflow_add-k
read_form-overflow_add-k g t c =
    omega (arith, register_room c.args.text.now c.well_formed.0.1 c.start-k.ensures c.tail.ensures c.in_ok-r-in-Reg.ensures)

pub read_form-register-requires : goal.read_form-register-requires
read_form-register-requires g t c =
    register_small c.tail.result.now c.in_ok-r-in-Reg.ensures

pub read_form-closed-requires : goal.read_form-closed-requires
read_form-closed-requires g t c =
    omega (arith, register_room c.args.text.now c.well_formed.0.1 c.start-k.ensures c.tail.ensures c.in_ok-r-in-Reg.ensures)

pub read_form-returns-in_err-a-in-One-clause-value : goal.read_form-returns-in_err-a-in-One-clause-value
read_form-returns-in_err-a-in-One-clause-value g t c =
    rw c.from_residual-in_err-a-in-One.ensures (form_no_one (g.A.Algebra.algebra c.args.algebra.now) c.args.text.now c.args.depth c.start-k.ensures c.tail-in-One.ensures (opened c.args.text.now c.in-One.is c.in_ok-read_head.ensures) (c.in_err-a-in-One.ensures.value))

pub read_form-overflow_add-k-in-One : goal.read_form-overflow_add-k-in-One
read_form-overflow_add-k-in-One g t c =
    omega (arith, first_room c.args.text.now c.well_formed.0.1 c.start-k.ensures (g.A.Algebra.algebra c.args.algebra.now) c.args.depth c.tail-in-One.ensures c.in_ok-a-in-One.ensures.value)

pub read_form-closed-requires-in-One : goal.read_form-closed-requires-in-One
read_form-closed-requires-in-One g t c =
    omega (arith, first_room c.args.text.now c.well_formed.0.1 c.start-k.ensures (g.A.Algebra.algebra c.args.algebra.now) c.args.depth c.tail-in-One.ensures c.in_ok-a-in-One.ensures.value)

pub read_form-returns-in_err-a-in-Two-clause-value : goal.read_form-returns-in_err-a-in-Two-clause-value
read_form-returns-in_err-a-in-Two-clause-value g t c =
    rw c.from_residual-in_err-a-in-Two.ensures (form_no_first (g.A.Algebra.algebra c.args.algebra.now) c.args.text.now c.args.depth c.start-k.ensures c.tail-in-Two.ensures (opened c.args.text.now c.in-Two.is c.in_ok-read_head.ensures) (c.in_err-a-in-Two.ensures.value))

pub read_form-overflow_add-k-in-Two : goal.read_form-overflow_add-k-in-Two
read_form-overflow_add-k-in-Two g t c =
    omega (arith, first_room c.args.text.now c.well_formed.0.1 c.start-k.ensures (g.A.Algebra.algebra c.args.algebra.now) c.args.depth c.tail-in-Two.ensures c.in_ok-a-in-Two.ensures.value)

pub read_form-returns-then-at-ne32-clause-value : goal.read_form-returns-then-at-ne32-clause-value
read_form-returns-then-at-ne32-clause-value g t c =
    form_no_space (g.A.Algebra.algebra c.args.algebra.now) c.args.text.now c.args.depth c.start-k.ensures c.tail-in-Two.ensures (opened c.args.text.now c.in-Two.is c.in_ok-read_head.ensures) c.in_ok-a-in-Two.ensures.value c.at.ensures c.if-at-ne32.true

pub read_form-returns-in_err-b-in-Two-clause-value : goal.read_form-returns-in_err-b-in-Two-clause-value
read_form-returns-in_err-b-in-Two-clause-value g t c =
    rw c.from_residual-in_err-b-in-Two.ensures (form_no_second (g.A.Algebra.algebra c.args.algebra.now) c.args.text.now c.args.depth c.start-k.ensures c.tail-in-Two.ensures (opened c.args.text.now c.in-Two.is c.in_ok-read_head.ensures) c.in_ok-a-in-Two.ensures.value c.at.ensures c.if-at-ne32.false c.in_ok-a-in-Two.ensures.same (rest_is c.args.text.now ((c.start-k.result + c.in_ok-a-in-Two.a.len) + 1)) (c.in_err-b-in-Two.ensures.value))

pub read_form-overflow_add-j-in-Two-2 : goal.read_form-overflow_add-j-in-Two-2
read_form-overflow_add-j-in-Two-2 g t c =
    omega (arith, second_room c.args.text.now c.well_formed.0.1 (c.start-k.result + c.in_ok-a-in-Two.a.len) (omega (arith, c.at.ensures, c.if-at-ne32.false)) _ c.args.depth (rest_is c.args.text.now ((c.start-k.result + c.in_ok-a-in-Two.a.len) + 1)) c.in_ok-b-in-Two.ensures.value)

pub read_form-closed-requires-in-Two : goal.read_form-closed-requires-in-Two
read_form-closed-requires-in-Two g t c =
    omega (arith, second_room c.args.text.now c.well_formed.0.1 (c.start-k.result + c.in_ok-a-in-Two.a.len) (omega (arith, c.at.ensures, c.if-at-ne32.false)) _ c.args.depth (rest_is c.args.text.now ((c.start-k.result + c.in_ok-a-in-Two.a.len) + 1)) c.in_ok-b-in-Two.ensures.value)

pub read_form-returns-in_ok-r-in-Reg-clause-value : goal.read_form-returns-in_ok-r-in-Reg-clause-value
read_form-returns-in_ok-r-in-Reg-clause-value g t c =
    rw c.closed.ensures (closed_map g.A.Algebra.meaning c.args.text.now _ _ c.register.ensures.value ∙ form_register (g.A.Algebra.algebra c.args.algebra.now) c.args.text.now c.args.depth c.start-k.ensures c.tail.ensures (opened c.args.text.now c.in-Reg.is c.in_ok-read_head.ensures) c.in_ok-r-in-Reg.ensures)

pub read_form-returns-in_ok-a-in-One-clause-value : goal.read_form-returns-in_ok-a-in-One-clause-value
read_form-returns-in_ok-a-in-One-clause-value g t c =
    rw c.closed-in-One.ensures (closed_map g.A.Algebra.meaning c.args.text.now _ _ (c.one_lent.ensures.value ∙ ap (λ (alg : Algebra g.A.Algebra.Meaning). alg.on1 (op1_of c.in-One.op) (g.A.Algebra.meaning c.in_ok-a-in-One.a.value)) c.in_ok-a-in-One.ensures.same) ∙ form_one (g.A.Algebra.algebra c.args.algebra.now) c.args.text.now c.args.depth c.start-k.ensures c.tail-in-One.ensures (opened c.args.text.now c.in-One.is c.in_ok-read_head.ensures) c.in_ok-a-in-One.ensures.value)

pub read_form-returns-in_ok-b-in-Two-clause-value : goal.read_form-returns-in_ok-b-in-Two-clause-value
read_form-returns-in_ok-b-in-Two-clause-value g t c =
    rw c.closed-in-Two.ensures (closed_map g.A.Algebra.meaning c.args.text.now _ _ (c.two_lent.ensures.value ∙ ap (λ (alg : Algebra g.A.Algebra.Meaning). alg.on2 (op2_of c.in-Two.op) (g.A.Algebra.meaning c.in_ok-a-in-Two.a.value) (g.A.Algebra.meaning c.in_ok-b-in-Two.b.value)) (c.in_ok-b-in-Two.ensures.same ∙ c.in_ok-a-in-Two.ensures.same)) ∙ form_two (g.A.Algebra.algebra c.args.algebra.now) c.args.text.now c.args.depth c.start-k.ensures c.tail-in-Two.ensures (opened c.args.text.now c.in-Two.is c.in_ok-read_head.ensures) c.in_ok-a-in-Two.ensures.value c.at.ensures c.if-at-ne32.false c.in_ok-a-in-Two.ensures.same (rest_is c.args.text.now ((c.start-k.result + c.in_ok-a-in-Two.a.len) + 1)) (c.in_ok-b-in-Two.ensures.value))
