-- The answer of each operation stands at the front of the work slice. Assumes nothing.
use mathlib.Core.Path.{◌≡◌, refl, sym, ap, subst, ◌∙◌}
use mathlib.Core.Bool.{Bool, false}
use mathlib.Core.List.{List}
use Rattle.std.specs.Prelude.{Option, Some}
use Rattle.std.specs.Option.{IfSome}
use Rattle.set_values.specs.declared.Kind.{Kind}
use lib.IntN.{ℤ, pos}
use lib.ListN.{replicate}
use Rattle.meaning.specs.Number.{Op1, Op2}
use Rattle.meaning.specs.NumberIntervals.{Set, of_bools, set1, set2, flag1, flag2, intervals}
use Rattle.replies.specs.declared.Written.{Written}
use Rattle.cores.specs.declared.Op.{Op}
use Rattle.cores.specs.declared.Op.TheVariants.{Neg, Abs, Add, Sub, Mul, Div, Rem}
use Rattle.cores.specs.declared.Relation.{Relation}
use Rattle.cores.specs.Operation.{set_of, flag_of, relation_of, Alone}
use Rattle.cores.proofs.Operations.{alone_is, relation_is}
use Rattle.set_values.specs.declared.Kind.TheVariants.{Joined, Related}
use Rattle.set_values.specs.Value.{Left, kind_of}

-- the same answer said another way
pub left_as : {s t : Set} {f g : Bool} {new : List ℤ} {c : Written} → s ≡ t → f ≡ g → Left s f new c → Left t g new c
left_as p q h = rw (← p, ← q) h

-- an operation on one set: the right set is 0
pub alone_left : (o : Op) (a b : Set) {new : List ℤ} {c : Written} → Left (set_of o a b) (flag_of o false a b) new c → {p : Op1} → Alone o p → b ≡ intervals (replicate 2 (pos 0)) → Left (set1 p a) (flag1 p false) new c
alone_left o a b h d z = let is = alone_is d false a b in left_as (ap (set_of o a) z ∙ is.0) is.1 h

at_some : (P : Op2 → Type 0) {k : Option Op2} {p : Op2} → k ≡ Some p → IfSome k P → P p
at_some P e x = subst (λ k. IfSome k P) e x

-- an operation on two sets, by its kind
module _ (a b : Set) where
  abbrev Same : Set → Bool → Op2 → Type 0
  Same s f p = (s ≡ set2 p a b) × (f ≡ flag2 p false a b)

  joined_is : (o : Op) → IfSome (kind_of (Joined o)) (Same (set_of o a b) (flag_of o false a b))
  joined_is Neg = tt
  joined_is Abs = tt
  joined_is Add = (refl, refl)
  joined_is Sub = (refl, refl)
  joined_is Mul = (refl, refl)
  joined_is Div = (refl, refl)
  joined_is Rem = (refl, refl)

  module _ {k : Kind} {p : Op2} (e : kind_of k ≡ Some p) {new : List ℤ} {c : Written} where
    pub joined_left : {o : Op} → k ≡ Joined o → Left (set_of o a b) (flag_of o false a b) new c → Left (set2 p a b) (flag2 p false a b) new c
    joined_left {o} q h =
        let is = at_some (Same (set_of o a b) (flag_of o false a b)) (sym (ap kind_of q) ∙ e) (joined_is o) in
        left_as is.0 is.1 h

    pub related_left : {o : Relation} → k ≡ Related o → {s : Set} → s ≡ of_bools (relation_of o a b) → Left s false new c → Left (set2 p a b) (flag2 p false a b) new c
    related_left {o} q f h =
        let by = relation_is o false a b in
        let is = at_some (Same (of_bools (relation_of o a b)) false) (sym (ap kind_of q) ∙ e) (by.0, by.1) in
        left_as (f ∙ is.0) is.1 h
