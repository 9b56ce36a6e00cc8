-- The listings of specs/Samples.antt, by computation. Assumes nothing.
use mathlib.Core.Path.{refl}
use Rattle.meaning.specs.Outcome.{bind, work}
use Rattle.meaning.specs.Number.{distance, within, window, wrap}
use Rattle.meaning.specs.Interval.{each, without, pieces, split, spread, add_pair, least_corner, greatest_corner, meet_pair, uncut_pair, mul_pair, div_piece, div_part, div_pair}
use Rattle.meaning.specs.NumberIntervals.{contains, insert, rebuild, of_bools, some_of, lt_bools, set1, set2, flag1, flag2}
use Rattle.meaning.specs.Sheet.{far_form, far_act, far_line, crossed_act, crossed_line}
use Rattle.meaning.specs.Reading.{closed, begins, digits, number, scale, decimals, unsigned, literal, register_with, head, start, arg, bounds, value, act_of, line_of, whole_line, judged, read_line}
use Rattle.meaning.specs.Text.{split_lines, admit, read_one, read_lines, read}
use Rattle.meaning.specs.Close.{missing, none_fewer, close_one, close_gaps, close}
use Rattle.meaning.specs.Check.{inside, settle, check_by, line_by, act_by, set_by}
use Rattle.meaning.specs.Listing.{digits_before, decimal, decimal_z, trouble_line, wrote_to, listed, interval_texts, register_line, register_lines, pass_line, outcome_text, read_text, listing}
use Rattle.meaning.specs.Samples.{Samples}

pub samples : Samples
unfolding listing read_text outcome_text pass_line register_lines register_line interval_texts listed wrote_to trouble_line decimal_z decimal digits_before check_by line_by act_by set_by settle inside read read_lines read_one admit split_lines read_line judged whole_line line_of act_of value bounds arg start head register_with literal unsigned decimals scale number digits begins closed far_form far_act far_line crossed_act crossed_line bind work contains insert rebuild of_bools some_of lt_bools set1 set2 flag1 flag2 each without pieces split spread add_pair least_corner greatest_corner meet_pair uncut_pair mul_pair div_piece div_part div_pair within window wrap distance missing none_fewer close_one close_gaps close
samples = record { pump = refl; zero = refl; spaced = refl; broken = refl; nothing = refl; held = refl; dirty = refl; ordered = refl; crowded = refl }
