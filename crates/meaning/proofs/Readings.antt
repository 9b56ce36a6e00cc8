-- The values of specs/Readings.antt, by computation. Assumes nothing.
use mathlib.Core.Path.{refl}
use Rattle.meaning.specs.Number.{within, window, wrap, negative, absolute, sum, difference, product, quotient, remainder, next, prev, point1, point2}
use Rattle.meaning.specs.Interval.{each, without, neg_pair, abs_rest, abs_pair, pieces, split, spread, add_pair, least_corner, greatest_corner, meet_pair, uncut_pair, mul_pair, div_piece, div_part, div_pair, against, rem_magnitudes, rule_f, rem_step, rem_with, rem_pair}
use Rattle.meaning.specs.NumberIntervals.{contains, insert, rebuild, union, as_bools, of_bools, some_of, le_bools, lt_bools, ne_bools, set1, set2, flag1, flag2}
use Rattle.meaning.specs.Readings.{Readings}

pub readings : Readings
unfolding within window wrap negative absolute sum difference product quotient remainder next prev point1 point2 each without neg_pair abs_rest abs_pair pieces split spread add_pair least_corner greatest_corner meet_pair uncut_pair mul_pair div_piece div_part div_pair against rem_magnitudes rule_f rem_step rem_with rem_pair contains insert rebuild union as_bools of_bools some_of le_bools lt_bools ne_bools set1 set2 flag1 flag2
readings = record {
  mul_to_zero = refl;
  div_wraps = refl;
  div_unscaled = refl;
  rem_sign = refl;
  rem_minus_one = refl;
  div_none = refl;
  abs_least = refl;
  neg_least = refl;
  neg_five = refl;
  sub_order = refl;
  add_wraps = refl;
  lt_same_number = refl;
  le_same_number = refl;
  le_later = refl;
  lt_earlier = refl;
  ne_numbers = refl;
  ne_same_number = refl;
  and_zero = refl;
  and_true = refl;
  or_zero = refl;
  or_false = refl;
  not_of_zero = refl;
  not_of_one = refl;
  next_greatest = refl;
  next_least = refl;
  prev_least = refl;
  empty_and_zero = refl;
  empty_and_five = refl;
  empty_or_five = refl;
  empty_not = refl;
  empty_or_zero = refl;
  five_and_zero = refl;
  five_or_zero = refl;
  not_five = refl;
  not_zero = refl;
  not_positive = refl;
  empty_ne = refl;
  empty_ne_five = refl;
  ne_apart = refl;
  ne_same = refl;
  ne_either = refl;
  le_below = refl;
  le_same = refl;
  le_above = refl;
  empty_le = refl;
  lt_below = refl;
  empty_lt = refl;
  both_ordered = refl;
  lt_equal = refl;
  lt_either = refl;
  add_splits = refl;
  windows_0_1 = refl;
  windows_1_2 = refl;
  windows_below_0 = refl;
  windows_below = refl;
  mul_far = refl;
  least_scaled = refl;
  div_pieces = refl;
  div_windows_1_2 = refl;
  div_far = refl;
  div_least = refl;
  div_least_more = refl;
  div_plain_lem = refl;
  div_by_zero = refl;
  rem_negative = refl;
  rem_against = refl;
  rem_least_least = refl;
  rem_against_least = refl;
  rem_wide = refl;
  rem_multiple_first = refl;
  rem_multiple_inside = refl;
  rem_no_multiple = refl;
  rem_two_divisors = refl;
  rem_negated = refl;
  rem_nested = refl;
  abs_both_sides = refl;
  abs_only_least = refl;
  touching_joined = refl;
  missing_one = refl;
  empty_left_flag = refl;
  zero_flag = refl;
  flag_kept_add = refl;
  flag_kept_div = refl;
  flag_kept_abs = refl;
  flag_cleared_le = refl;
  flag_cleared_not = refl;
}
