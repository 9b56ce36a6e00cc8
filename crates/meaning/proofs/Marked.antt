-- 01's marked values: each side computes to the same. Assumes nothing.
use mathlib.Core.Path.{refl}
use Rattle.meaning.specs.Number.{within, window, wrap}
use Rattle.meaning.specs.Interval.{each, without, neg_pair, abs_rest, abs_pair, pieces, split, spread, add_pair, least_corner, greatest_corner, meet_pair, uncut_pair, mul_pair, div_piece, div_part, div_pair, against, rem_magnitudes, rule_f, rem_step, rem_with, rem_pair}
use Rattle.meaning.specs.NumberIntervals.{contains, insert, rebuild, as_bools, of_bools, some_of, lt_bools, set1, set2, flag1, flag2}
use Rattle.meaning.specs.Marked.{Marked}

pub marked : Marked
unfolding within window wrap each without neg_pair abs_rest abs_pair pieces split spread add_pair least_corner greatest_corner meet_pair uncut_pair mul_pair div_piece div_part div_pair against rem_magnitudes rule_f rem_step rem_with rem_pair contains insert rebuild as_bools of_bools some_of lt_bools set1 set2 flag1 flag2
marked = record {
  neg_half = record { set_is = refl; flag_is = refl };
  add_edge = record { set_is = refl; flag_is = refl };
  add_near = record { set_is = refl; flag_is = refl };
  add_all = record { set_is = refl; flag_is = refl };
  mul_neighbours = record { set_is = refl; flag_is = refl };
  div_far = record { set_is = refl; flag_is = refl };
  div_zero = record { set_is = refl; flag_is = refl };
  rem_zero = record { set_is = refl; flag_is = refl };
  rem_least = record { set_is = refl; flag_is = refl };
  rem_block = record { set_is = refl; flag_is = refl };
  abs_around = record { set_is = refl; flag_is = refl };
  lt_same = record { set_is = refl; flag_is = refl };
}
