-- What the loops and the core ask of an operation, by its name: few and proper results of a pair, a factor of at most 16, and the answer as the join of all pairs' results. Assumes nothing.
use mathlib.Core.Path.{◌≡◌, refl, ap, ◌∙◌}
use mathlib.Core.Bool.{Bool, false}
use mathlib.Core.List.{List, [], ◌∷◌, ◌++◌, append-nil}
use Prim.Native.Nat.{◌*◌, ◌≤◌}
use native.Mathlib.Omega.{arith}
use lib.ListN.{length, replicate}
use lib.IntN.{ℤ, pos}
use Rattle.meaning.specs.Number.{Op1}
use Rattle.meaning.specs.Interval.{Interval, Proper, each, neg_pair, abs_pair}
use Rattle.meaning.specs.NumberIntervals.{Set, rebuild, each_pair, of_bools, set1, set2, flag1, flag2, flat, intervals, normal}
use Rattle.meaning.specs.SetCalls.{factor1, factor2}
use Rattle.laws.proofs.Members.{AllProper}
use Rattle.laws.proofs.Flat.{length_flat}
use Rattle.laws.proofs.CheckSets.{zero_normal}
use Rattle.laws.proofs.Demand2.{demand2}
use Rattle.laws.proofs.Signs.{neg_proper, abs_proper}
use Rattle.laws.proofs.Sums.{add_proper, sub_proper}
use Rattle.laws.proofs.Products.{mul_proper}
use Rattle.laws.proofs.Quotients.{div_proper}
use Rattle.laws.proofs.Remainders.{rem_proper}
use Rattle.cores.specs.declared.Op.{Op}
use Rattle.cores.specs.declared.Op.TheVariants.{Neg, Abs, Add, Sub, Mul, Div, Rem}
use Rattle.cores.specs.declared.Relation.{Relation}
use Rattle.cores.specs.declared.Relation.TheVariants.{Le, Lt, Ne, And, Or}
use Rattle.sets.specs.Sets.{SetEnds}
use Rattle.cores.specs.Operation.{rule_of, factor_of, set_of, flag_of, op2_of, relation_of, Alone, neg_alone, abs_alone}

pub few : (o : Op) (s e t f : ℤ) → Proper s e → Proper t f → length (rule_of o s e t f) ≤ factor_of o
unfolding factor1 factor2
few Neg s e t f p q = demand2.neg_few s e p
few Abs s e t f p q = demand2.abs_few s e p
few Add s e t f p q = demand2.add_few s e t f p q
few Sub s e t f p q = demand2.sub_few s e t f p q
few Mul s e t f p q = demand2.mul_few s e t f p q
few Div s e t f p q = demand2.div_few s e t f p q
few Rem s e t f p q = demand2.rem_few s e t f p q

pub proper : (o : Op) (s e t f : ℤ) → Proper s e → Proper t f → AllProper (rule_of o s e t f)
proper Neg s e t f p q = neg_proper p
proper Abs s e t f p q = abs_proper p
proper Add s e t f p q = add_proper s e t f
proper Sub s e t f p q = sub_proper s e t f
proper Mul s e t f p q = mul_proper p q
proper Div s e t f p q = div_proper p q
proper Rem s e t f p q = rem_proper p q

pub factor_le : (o : Op) → factor_of o ≤ 16
unfolding factor1 factor2
factor_le Neg = omega arith
factor_le Abs = omega arith
factor_le Add = omega arith
factor_le Sub = omega arith
factor_le Mul = omega arith
factor_le Div = omega arith
factor_le Rem = omega arith

pub set_is : (o : Op) (a b : Set) → rebuild (each_pair (rule_of o) a b) ≡ set_of o a b
unfolding set2
set_is Neg a b = refl
set_is Abs a b = refl
set_is Add a b = refl
set_is Sub a b = refl
set_is Mul a b = refl
set_is Div a b = refl
set_is Rem a b = refl

-- a pair's results take no more numbers than are kept free for them
pub pair_few : (o : Op) {s e t f : ℤ} → Proper s e → Proper t f → length (flat (rule_of o s e t f)) ≤ 2 * factor_of o
pair_few o {s} {e} {t} {f} p q = omega (arith, length_flat (rule_of o s e t f), few o s e t f p q)

-- ---- an operation whose answer is 0, 1000 or both: no flag, and no need of work

pub relation_is : (o : Relation) (flag : Bool) (a b : Set) → (of_bools (relation_of o a b) ≡ set2 (op2_of o) a b) × (false ≡ flag2 (op2_of o) flag a b) × (factor2 (op2_of o) ≡ 0)
unfolding set2 flag2 factor2
relation_is Le flag a b = (refl, refl, refl)
relation_is Lt flag a b = (refl, refl, refl)
relation_is Ne flag a b = (refl, refl, refl)
relation_is And flag a b = (refl, refl, refl)
relation_is Or flag a b = (refl, refl, refl)

-- ---- an operation on one set: each interval is asked once

each_once : (g : ℤ → ℤ → List Interval) (a : Set) → each_pair (λ s e t f. g s e) a (intervals (replicate 2 (pos 0))) ≡ each g a
unfolding each intervals
each_once g [] = refl
each_once g (i ∷ a) = ap (λ (l : List Interval). l ++ each (λ s e. g s e ++ []) a) (append-nil (g i.lo i.hi)) ∙ ap (λ (l : List Interval). g i.lo i.hi ++ l) (each_once g a)

pub zero_ends : SetEnds (replicate 2 (pos 0))
unfolding normal intervals
zero_ends = record { test = refl; is = zero_normal }

pub alone_is : {o : Op} {p : Op1} → Alone o p → (flag : Bool) (a b : Set) → (set_of o a (intervals (replicate 2 (pos 0))) ≡ set1 p a) × (flag_of o flag a b ≡ flag1 p flag) × (factor_of o ≡ factor1 p)
unfolding set1
alone_is neg_alone flag a b = (ap rebuild (each_once neg_pair a), refl, refl)
alone_is abs_alone flag a b = (ap rebuild (each_once abs_pair a), refl, refl)
