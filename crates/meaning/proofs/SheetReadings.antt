-- The values of specs/SheetReadings.antt, by computation. Assumes nothing.
use mathlib.Core.Path.{refl}
use Rattle.meaning.specs.Lists.{over}
use Rattle.meaning.specs.Number.{distance, within, window, wrap, negative, sum, quotient, point1, point2}
use Rattle.meaning.specs.Interval.{each, without, neg_pair, pieces, split, add_pair, sub_pair, spread, least_corner, greatest_corner, meet_pair, div_piece, div_part, div_pair}
use Rattle.meaning.specs.NumberIntervals.{contains, insert, rebuild, union, intersect, as_bools, of_bools, some_of, lt_bools, ne_bools, set1, set2, flag1, flag2, flat, intervals, normal}
use Rattle.meaning.specs.SetCalls.{factor1, factor2, refusal, refusal2, call_returns, call_out, call_work}
use Rattle.meaning.specs.Outcome.{bind, work}
use Rattle.meaning.specs.Sheet.{far_form, far_act, far_line, crossed_act, crossed_line}
use Rattle.meaning.specs.Reading.{closed, begins, digits, number, scale, decimals, unsigned, literal, register_with, head, start, arg, form, bounds, value, act_of, line_of, whole_line, judged, read_line}
use Rattle.meaning.specs.Text.{split_lines, line_at, cut, admit, read_one, read_lines, read}
use Rattle.meaning.specs.Run.{value_of, run_act, run_line, start_numbers, run, run_text, run_call, run_lent}
use Rattle.meaning.specs.Close.{missing, none_fewer, close_one, close_gaps, close}
use Rattle.meaning.specs.Check.{inside, settle, slot, layout, set_by, act_by, line_by, check_by, text_by, call_by}
use Rattle.meaning.specs.OtherThanNine.{settle_with_nine}
use Rattle.meaning.specs.SheetReadings.{SheetReadings}

pub sheet_readings : SheetReadings
unfolding over within window wrap negative sum quotient point1 point2 each without neg_pair pieces split add_pair sub_pair spread least_corner greatest_corner div_piece div_part div_pair contains insert rebuild union meet_pair intersect as_bools of_bools some_of lt_bools ne_bools set1 set2 flag1 flag2 flat intervals normal factor1 factor2 refusal refusal2 call_returns call_out call_work bind work far_form far_act far_line crossed_act crossed_line closed begins digits number scale decimals unsigned literal register_with head start arg form bounds value act_of line_of whole_line judged read_line split_lines line_at cut admit read_one read_lines read value_of run_act run_line start_numbers run run_text run_call run_lent inside settle set_by act_by line_by check_by text_by call_by slot layout distance missing none_fewer close_one close_gaps close settle_with_nine
sheet_readings = record {
  many_before_odd = refl;
  odd = refl;
  sixteen_fine = refl;
  seventeen = refl;
  unsorted = refl;
  touching_refused = refl;
  empty_fine = refl;
  left_first = refl;
  full_need = refl;
  div_need = refl;
  mul_need = refl;
  abs_need = refl;
  neg_returns = refl;
  neg_out = refl;
  neg_work = refl;
  union_returns = refl;
  intersect_returns = refl;
  union_closes_nothing = refl;
  union_all_written = refl;
  add_closes_nothing = refl;
  short_work = refl;
  short_work_left = refl;
  short_out = refl;
  short_out_left = refl;
  short_out_work = refl;
  empty_text = refl;
  empty_line = refl;
  no_last_feed = refl;
  long_line = refl;
  line_of_120 = refl;
  long_by_return = refl;
  lines_257 = refl;
  lines_256 = refl;
  line_by_line = refl;
  grammar_first = refl;
  grammar_first_behind = refl;
  far_before_crossed = refl;
  crossed_before_8 = refl;
  in_late = refl;
  in_twice = refl;
  late_before_grammar = refl;
  needless_zero = refl;
  minus_needless_zero = refl;
  plus = refl;
  no_whole_part = refl;
  bare_point = refl;
  four_decimals = refl;
  register_16 = refl;
  register_01 = refl;
  register_of_forty = refl;
  literal_of_forty = refl;
  bracketed_literal = refl;
  trailing_space = refl;
  leading_space = refl;
  tab = refl;
  double_space = refl;
  carriage_return = refl;
  least_literal = refl;
  greatest_literal = refl;
  past_greatest = refl;
  minus_zero = refl;
  eight_brackets = refl;
  nine_brackets = refl;
  eight_with_literal = refl;
  eight_on_the_right = refl;
  nine_on_the_right = refl;
  words_of_one = refl;
  words_of_two = refl;
  operators = refl;
  line_zero = refl;
  line_one = refl;
  line_two = refl;
  line_three = refl;
  cut_one = refl;
  run_stops_lem = refl;
  run_left = refl;
  run_in = refl;
  run_hold = refl;
  run_held = refl;
  run_empty = refl;
  run_fifteen = refl;
  check_enough = refl;
  run_short = refl;
  check_short = refl;
  no_short_cut = refl;
  check_zero = refl;
  check_hold = refl;
  check_below = refl;
  check_above = refl;
  check_in = refl;
  check_dirty = refl;
  put_old_state = refl;
  untouched_slot = refl;
  slot_ends = refl;
  slots_in_turn = refl;
  at_the_limit = refl;
  over_the_limit = refl;
  sixteen_settled = refl;
  seventeen_settled = refl;
  seventeen_by_zero = refl;
  sixteen_by_zero = refl;
  was_sixteen = refl;
  was_seventeen = refl;
  was_zero_first = refl;
  crowded_division = refl;
  closed_form = refl;
  closed_divisor = refl;
  open_divisor = refl;
  closed_hold = refl;
  left_zero = refl;
  right_zero = refl;
  inner_zero = refl;
  refused_lent = refl;
  refused_sets = refl;
  refused_work = refl;
  finding_sets = refl;
  pass_work = refl;
  finding_work = refl;
  stop_count = refl;
  pass_count = refl;
}
