-- 01's "Marked values (raw)", in one table. The theorem is `marked` of proofs/Marked.antt. Assumes nothing.
use Rattle.std.specs.Prelude.{pos, ◌≡◌, Bool, true, false, [], ◌++◌, ◌-◌, ◌^◌}
use Rattle.meaning.specs.Number.{minus, MIN, MAX, Op1, neg, abs, Op2, add, mul, div, rem, lt}
use Rattle.meaning.specs.Interval.{span, only}
use Rattle.meaning.specs.NumberIntervals.{Set, set1, set2, flag1, flag2}

-- the set and the flag that an operation gives for unflagged sets
pub record Answers1 (o : Op1) (a : Set) (answer : Set) (flag : Bool) : Type 0 where
  pub set_is : set1 o a ≡ answer
  pub flag_is : flag1 o false ≡ flag

pub record Answers2 (o : Op2) (a b : Set) (answer : Set) (flag : Bool) : Type 0 where
  pub set_is : set2 o a b ≡ answer
  pub flag_is : flag2 o false a b ≡ flag

pub record Marked : Type 0 where
  -- neg [MIN,−1]: {MIN},[1,MAX]
  pub neg_half : Answers1 neg (span MIN (minus 1)) (only MIN ++ span (pos 1) MAX) false
  -- [MAX−2,MAX]+{1}: {MIN},[MAX−1,MAX]
  pub add_edge : Answers2 add (span (pos (2 ^ 63 - 3)) MAX) (only (pos 1)) (only MIN ++ span (pos (2 ^ 63 - 2)) MAX) false
  -- [MIN,−1]+[0,MAX]: [MIN,MAX−1]
  pub add_near : Answers2 add (span MIN (minus 1)) (span (pos 0) MAX) (span MIN (pos (2 ^ 63 - 2))) false
  -- [MIN,0]+[0,MAX]: [MIN,MAX]
  pub add_all : Answers2 add (span MIN (pos 0)) (span (pos 0) MAX) (span MIN MAX) false
  -- [6917529027641081855,6917529027641082856]×{4}: [−9223372036854775,−9223372036854771] and {9223372036854775} (02, (vii))
  pub mul_neighbours : Answers2 mul (span (pos 6917529027641081855) (pos 6917529027641082856)) (only (pos 4)) (span (minus 9223372036854775) (minus 9223372036854771) ++ only (pos 9223372036854775)) false
  -- [−10^16,10^16]/{1000}: [MIN,MAX]
  pub div_far : Answers2 div (span (minus (10 ^ 16)) (pos (10 ^ 16))) (only (pos 1000)) (span MIN MAX) false
  -- {0}/[−1,1]: {0}, flag
  pub div_zero : Answers2 div (only (pos 0)) (span (minus 1) (pos 1)) (only (pos 0)) true
  -- {7} rem {0}: empty, flag
  pub rem_zero : Answers2 rem (only (pos 7)) (only (pos 0)) [] true
  -- {MIN} rem {−1}: {0}
  pub rem_least : Answers2 rem (only MIN) (only (minus 1)) (only (pos 0)) false
  -- [7,9] rem {4}: [0,1],{3}
  pub rem_block : Answers2 rem (span (pos 7) (pos 9)) (only (pos 4)) (span (pos 0) (pos 1) ++ only (pos 3)) false
  -- abs [−5,3]: [0,5]
  pub abs_around : Answers1 abs (span (minus 5) (pos 3)) (span (pos 0) (pos 5)) false
  -- {3} lt {3}: {0}
  pub lt_same : Answers2 lt (only (pos 3)) (only (pos 3)) (only (pos 0)) false
