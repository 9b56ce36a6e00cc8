-- Values that pin the readings of docs/DECISIONS.md: numbers, pairs and sets. Each line is a case where another reading would give another answer. Proved by computation in
-- proofs/Readings.antt. Assumes nothing.
use Rattle.std.specs.Prelude.{pos, ◌≡◌, true, false, [], ◌++◌, ◌-◌, ◌^◌}
use Rattle.std.specs.Prelude.{None, Some}
use Rattle.meaning.specs.Number.{minus, MIN, MAX, least_product, greatest_product, neg, abs, not', add, sub, mul, div, rem, le, lt, ne, and, or, point1, point2, next, prev}
use Rattle.meaning.specs.Interval.{span, only}
use Rattle.meaning.specs.NumberIntervals.{set1, set2, flag1, flag2, union}

pub record Readings : Type 0 where
  -- −1 × 1 is 0: division by 1000 goes toward 0
  pub mul_to_zero : point2 mul (minus 1) (pos 1) ≡ Some (pos 0)
  -- 2^60 / −1: 1000·2^60 wraps to MIN, and MIN / −1 to MIN
  pub div_wraps : point2 div (pos (2 ^ 60)) (minus 1) ≡ Some MIN
  -- 7 / −2 is −3500
  pub div_unscaled : point2 div (pos 7) (minus 2) ≡ Some (minus 3500)
  -- −7 rem 4 is −3
  pub rem_sign : point2 rem (minus 7) (pos 4) ≡ Some (minus 3)
  -- MIN rem −1 is 0
  pub rem_minus_one : point2 rem MIN (minus 1) ≡ Some (pos 0)
  -- a divisor 0 has no result
  pub div_none : point2 div (pos 7) (pos 0) ≡ None
  -- the absolute value of MIN is MIN
  pub abs_least : point1 abs MIN ≡ MIN
  -- so is its negation
  pub neg_least : point1 neg MIN ≡ MIN
  -- −(5) is −5, and 5 − 3 is 2
  pub neg_five : point1 neg (pos 5) ≡ minus 5
  pub sub_order : point2 sub (pos 5) (pos 3) ≡ Some (pos 2)
  -- MAX + 1 is MIN
  pub add_wraps : point2 add MAX (pos 1) ≡ Some MIN
  -- 3 < 3 is false, 3 <= 3 and 3 != 4 are true; a comparison takes its left argument first
  pub lt_same_number : point2 lt (pos 3) (pos 3) ≡ Some (pos 0)
  pub le_same_number : point2 le (pos 3) (pos 3) ≡ Some (pos 1000)
  pub le_later : point2 le (pos 4) (pos 3) ≡ Some (pos 0)
  pub lt_earlier : point2 lt (pos 3) (pos 4) ≡ Some (pos 1000)
  pub ne_numbers : point2 ne (pos 3) (pos 4) ≡ Some (pos 1000)
  pub ne_same_number : point2 ne (pos 3) (pos 3) ≡ Some (pos 0)
  -- any number but 0 is true
  pub and_zero : point2 and (pos 5) (pos 0) ≡ Some (pos 0)
  pub and_true : point2 and (pos 5) (minus 1) ≡ Some (pos 1000)
  pub or_zero : point2 or (pos 0) (pos 5) ≡ Some (pos 1000)
  pub or_false : point2 or (pos 0) (pos 0) ≡ Some (pos 0)
  pub not_of_zero : point1 not' (pos 0) ≡ pos 1000
  pub not_of_one : point1 not' (pos 1) ≡ pos 0
  -- MAX has no next number, MIN has one
  pub next_greatest : next MAX ≡ None
  pub next_least : next MIN ≡ Some (minus (2 ^ 63 - 1))
  pub prev_least : prev MIN ≡ None
  -- ∅ and {0} is {0}, ∅ or {5} is {1000}, not ∅ is ∅
  pub empty_and_zero : set2 and [] (only (pos 0)) ≡ only (pos 0)
  pub empty_and_five : set2 and [] (only (pos 5)) ≡ []
  pub empty_or_five : set2 or [] (only (pos 5)) ≡ only (pos 1000)
  pub empty_not : set1 not' [] ≡ []
  -- ∅ or {0} is ∅; with 0 the right of {5} decides `and`, and not `or`
  pub empty_or_zero : set2 or [] (only (pos 0)) ≡ []
  pub five_and_zero : set2 and (only (pos 5)) (only (pos 0)) ≡ only (pos 0)
  pub five_or_zero : set2 or (only (pos 5)) (only (pos 0)) ≡ only (pos 1000)
  -- not {5} is {0}, not {0} is {1000}
  pub not_five : set1 not' (only (pos 5)) ≡ only (pos 0)
  pub not_zero : set1 not' (only (pos 0)) ≡ only (pos 1000)
  pub not_positive : set1 not' (span (pos 1) (pos 2)) ≡ only (pos 0)
  -- sets that share nothing are not equal, the empty ones too
  pub empty_ne : set2 ne [] [] ≡ only (pos 1000)
  pub empty_ne_five : set2 ne [] (only (pos 5)) ≡ only (pos 1000)
  pub ne_apart : set2 ne (only (pos 1)) (only (pos 2)) ≡ only (pos 1000)
  pub ne_same : set2 ne (only (pos 3)) (only (pos 3)) ≡ only (pos 0)
  pub ne_either : set2 ne (span (pos 0) (pos 1)) (only (pos 0)) ≡ only (pos 0) ++ only (pos 1000)
  -- le and lt where only one answer is possible, and with an empty set none
  pub le_below : set2 le (only (pos 1)) (only (pos 2)) ≡ only (pos 1000)
  pub le_same : set2 le (only (pos 1)) (only (pos 1)) ≡ only (pos 1000)
  pub le_above : set2 le (only (pos 2)) (only (pos 1)) ≡ only (pos 0)
  pub empty_le : set2 le [] (only (pos 5)) ≡ []
  pub lt_below : set2 lt (only (pos 0)) (only (pos 1)) ≡ only (pos 1000)
  pub empty_lt : set2 lt [] (only (pos 5)) ≡ []
  -- {0} before {1000}
  pub both_ordered : set2 le (span (pos 0) (pos 1)) (only (pos 0)) ≡ only (pos 0) ++ only (pos 1000)
  pub lt_equal : set2 lt (only (pos 0)) (only (pos 0)) ≡ only (pos 0)
  pub lt_either : set2 lt (span (pos 0) (pos 1)) (only (pos 1)) ≡ only (pos 0) ++ only (pos 1000)
  -- {MAX} + [0,1] is {MIN} and {MAX}
  pub add_splits : set2 add (only MAX) (span (pos 0) (pos 1)) ≡ only MIN ++ only MAX
  -- {2^62} × [1,2], in windows 0 and 1, is the whole range of products
  pub windows_0_1 : set2 mul (only (pos (2 ^ 62))) (span (pos 1) (pos 2)) ≡ span least_product greatest_product
  -- {MAX} × [3,4], in windows 1 and 2
  pub windows_1_2 : set2 mul (only MAX) (span (pos 3) (pos 4)) ≡ span least_product (pos 0) ++ only greatest_product
  -- {−2^62} × [2,3], in windows −1 and 0, is not swapped
  pub windows_below_0 : set2 mul (only (minus (2 ^ 62))) (span (pos 2) (pos 3)) ≡ only least_product ++ span (pos 4611686018427387) greatest_product
  -- {MIN} × [3,4], in windows −2 and −1
  pub windows_below : set2 mul (only MIN) (span (pos 3) (pos 4)) ≡ only least_product ++ span (pos 0) greatest_product
  -- a distance of just 2^64 − 1 is far
  pub mul_far : set2 mul (span MIN MAX) (only (pos 1)) ≡ span least_product greatest_product
  -- a wrapped end that is MIN is divided
  pub least_scaled : set2 mul (only MIN) (only (pos 1)) ≡ only (minus 9223372036854775)
  -- the pieces of a split are divided one by one
  pub div_pieces : set2 div (span (minus 9223372036854776) (minus 9223372036854775)) (only (pos 1000)) ≡ only (minus 9223372036854775) ++ only (pos 9223372036854775)
  pub div_windows_1_2 : set2 div (span (pos 27670116110564327) (pos 27670116110564328)) (only (pos 1)) ≡ span MIN (minus 9223372036854775232) ++ span (pos 9223372036854775384) MAX
  -- a distance of 2^64 − 1 or more is everything
  pub div_far : set2 div (span (pos 0) (pos 18446744073709552)) (only (pos 1)) ≡ span MIN MAX
  -- MIN in the dividend and −1 in the divisor
  pub div_least : set2 div (only (pos (2 ^ 60))) (only (minus 1)) ≡ only MIN
  -- and more than MIN: D without MIN by R, and D by R without −1, which is empty
  pub div_least_more : set2 div (span (minus 9223372036854776) (minus 9223372036854775)) (only (minus 1)) ≡ span MIN (minus 9223372036854775616) ++ span (pos 9223372036854775000) MAX
  -- a plain case: the hull of four corner quotients
  pub div_plain_lem : set2 div (span (pos 10) (pos 20)) (span (pos 2) (pos 4)) ≡ span (pos 2500) (pos 10000)
  -- a divisor {0} leaves no part
  pub div_by_zero : set2 div (only (pos 7)) (only (pos 0)) ≡ []
  -- (e): {MIN} rem [5,7]
  pub rem_negative : set2 rem (only MIN) (span (pos 5) (pos 7)) ≡ span (minus 6) (pos 0)
  -- (d): L holds MIN and more
  pub rem_against : set2 rem (span MIN (minus (2 ^ 63 - 1))) (only MIN) ≡ span MIN (pos 0)
  -- {MIN} against {MIN}, and L without MIN
  pub rem_least_least : set2 rem (only MIN) (only MIN) ≡ only (pos 0)
  pub rem_against_least : set2 rem (span (pos 5) (pos 7)) (only MIN) ≡ span (pos 5) (pos 7)
  -- (f), case by case: d ≤ b − a; c = d with a multiple from a on, at a or above it; c = d without; c ≠ d; L negative
  pub rem_wide : set2 rem (span (pos 1) (pos 10)) (only (pos 4)) ≡ span (pos 0) (pos 3)
  pub rem_multiple_first : set2 rem (span (pos 8) (pos 9)) (only (pos 4)) ≡ span (pos 0) (pos 1)
  pub rem_multiple_inside : set2 rem (span (pos 5) (pos 6)) (only (pos 3)) ≡ only (pos 0) ++ only (pos 2)
  pub rem_no_multiple : set2 rem (span (pos 5) (pos 6)) (only (pos 4)) ≡ span (pos 1) (pos 2)
  pub rem_two_divisors : set2 rem (span (pos 5) (pos 6)) (span (pos 4) (pos 5)) ≡ span (pos 0) (pos 4)
  pub rem_negated : set2 rem (span (minus 9) (minus 7)) (only (pos 4)) ≡ only (minus 3) ++ span (minus 1) (pos 0)
  -- (a), (b), (c), (d), (f), and (e) in it, one in the other: [MIN,5] rem [MIN,0]
  pub rem_nested : set2 rem (span MIN (pos 5)) (span MIN (pos 0)) ≡ span MIN (pos (2 ^ 63 - 2))
  pub abs_both_sides : set1 abs (span (minus 1) (pos 1)) ≡ span (pos 0) (pos 1)
  pub abs_only_least : set1 abs (only MIN) ≡ only MIN
  -- [1,2] and [3,4] touch
  pub touching_joined : union (span (pos 1) (pos 2)) (span (pos 3) (pos 4)) ≡ span (pos 1) (pos 4)
  -- [1,2] and [4,5] do not
  pub missing_one : union (span (pos 1) (pos 2)) (span (pos 4) (pos 5)) ≡ span (pos 1) (pos 2) ++ span (pos 4) (pos 5)
  -- an empty left set finds no zero
  pub empty_left_flag : flag2 div false [] (only (pos 0)) ≡ false
  pub zero_flag : flag2 rem false (only (pos 7)) (span (minus 1) (pos 1)) ≡ true
  -- the left set's flag is kept, also where the divisor holds no 0; comparisons and and, or, not clear it
  pub flag_kept_add : flag2 add true [] [] ≡ true
  pub flag_kept_div : flag2 div true (only (pos 7)) (only (pos 1)) ≡ true
  pub flag_kept_abs : flag1 abs true ≡ true
  pub flag_cleared_le : flag2 le true [] [] ≡ false
  pub flag_cleared_not : flag1 not' true ≡ false
