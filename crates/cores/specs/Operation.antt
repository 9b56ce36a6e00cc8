-- An operation by its name, in the words of `meaning`: the rule of a pair, the factor of the need, the answer and the flag. An operation on one set does not read the right interval. Assumes nothing.
use Rattle.std.specs.Prelude.{Bool, ℕ}
use Rattle.meaning.specs.Number.{Op1, neg, abs, Op2, add, sub, mul, div, rem, le, lt, ne, and, or}
use Rattle.meaning.specs.Bools.{BoolInterval, and_bools, or_bools}
use Rattle.meaning.specs.Interval.{PairOp, neg_pair, abs_pair, add_pair, sub_pair, mul_pair, div_pair, rem_pair}
use Rattle.meaning.specs.NumberIntervals.{Set, rebuild, each_pair, as_bools, le_bools, lt_bools, ne_bools, set2, flag1, flag2}
use Rattle.meaning.specs.SetCalls.{factor1, factor2}
use Rattle.cores.specs.declared.Op.{Op}
use Rattle.cores.specs.declared.Op.TheVariants.{Neg, Abs, Add, Sub, Mul, Div, Rem}
use Rattle.cores.specs.declared.Relation.{Relation}
use Rattle.cores.specs.declared.Relation.TheVariants.{Le, Lt, Ne, And, Or}

abbrev pub rule_of : Op → PairOp
rule_of Neg = λ s e t f. neg_pair s e
rule_of Abs = λ s e t f. abs_pair s e
rule_of Add = add_pair
rule_of Sub = sub_pair
rule_of Mul = mul_pair
rule_of Div = div_pair
rule_of Rem = rem_pair

abbrev pub factor_of : Op → ℕ
factor_of Neg = factor1 neg
factor_of Abs = factor1 abs
factor_of Add = factor2 add
factor_of Sub = factor2 sub
factor_of Mul = factor2 mul
factor_of Div = factor2 div
factor_of Rem = factor2 rem

abbrev pub set_of : Op → Set → Set → Set
set_of Neg a b = rebuild (each_pair (rule_of Neg) a b)
set_of Abs a b = rebuild (each_pair (rule_of Abs) a b)
set_of Add a b = set2 add a b
set_of Sub a b = set2 sub a b
set_of Mul a b = set2 mul a b
set_of Div a b = set2 div a b
set_of Rem a b = set2 rem a b

abbrev pub flag_of : Op → Bool → Set → Set → Bool
flag_of Neg flag a b = flag1 neg flag
flag_of Abs flag a b = flag1 abs flag
flag_of Add flag a b = flag2 add flag a b
flag_of Sub flag a b = flag2 sub flag a b
flag_of Mul flag a b = flag2 mul flag a b
flag_of Div flag a b = flag2 div flag a b
flag_of Rem flag a b = flag2 rem flag a b

-- ---- the operations on two sets whose answer is 0, 1000 or both

abbrev pub op2_of : Relation → Op2
op2_of Le = le
op2_of Lt = lt
op2_of Ne = ne
op2_of And = and
op2_of Or = or

abbrev pub relation_of : Relation → Set → Set → BoolInterval
relation_of Le a b = le_bools a b
relation_of Lt a b = lt_bools a b
relation_of Ne a b = ne_bools a b
relation_of And a b = and_bools (as_bools a) (as_bools b)
relation_of Or a b = or_bools (as_bools a) (as_bools b)

-- ---- the operations on one set: the right set is the one interval [0, 0]

pub data Alone : Op → Op1 → Type 0 where
  neg_alone : Alone Neg neg
  abs_alone : Alone Abs abs
