-- The value of a form while it is read is the value of the tree. Assumes nothing.
use mathlib.Core.Path.{◌≡◌, refl, sym, ap, ◌∙◌}
use mathlib.Core.List.{List}
use Prim.Native.Nat.{ℕ}
use lib.IntN.{ℤ, pos}
use lib.ListN.{get_or}
use Rattle.meaning.specs.Outcome.{Res, ok}
use Rattle.meaning.specs.Sheet.{Form, lit, reg, form1, form2, FineForm}
use Rattle.meaning.specs.Reading.{got, map_got, arg, tree}
use Rattle.meaning.specs.Run.{value_of}
use Rattle.laws.proofs.Integers.{between_within}
use Rattle.laws.proofs.Fusion.{fuse_arg}
use Rattle.literals.specs.Answer.{kept}
use Rattle.forms.specs.Answer.{put_value}
use Rattle.point_forms.specs.Answer.{with1, with2, points}

-- the fold of a tree that the evaluator is
unfoldable pub folded : List ℤ → Form → Res ℤ
folded state (lit z) = ok (kept z)
folded state (reg r) = ok (get_or state r (pos 0))
folded state (form1 o e) = with1 o (folded state e)
folded state (form2 o e f) = with2 o (folded state e) (folded state f)

-- it is the value where every literal is from MIN to MAX
folded_is : (state : List ℤ) (e : Form) → FineForm e → folded state e ≡ value_of state e
unfolding folded value_of FineForm kept with1 with2
folded_is state (lit z) h = rw (between_within h)
folded_is state (reg r) h = refl
folded_is state (form1 o e) h = ap (with1 o) (folded_is state e h)
folded_is state (form2 o e f) h = (λ i. with2 o (folded_is state e h.0 i) (folded_is state f h.1 i))

-- the value of a put's form
pub put_value_lem : (state : List ℤ) (t : List ℕ) {e : Form} {n : ℕ} → arg tree 7 t ≡ got e n → FineForm e → put_value (arg (points state) 7 t) ≡ value_of state e
unfolding folded
put_value_lem state t {e} {n} g h =
    ap put_value (sym (fuse_arg (folded state) tree (points state) (λ z. refl) (λ r. refl) (λ o a. refl) (λ o a b. refl) 7 t) ∙ ap (map_got (folded state)) g)
    ∙ folded_is state e h
