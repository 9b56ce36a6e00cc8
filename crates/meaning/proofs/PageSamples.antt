-- The values of specs/PageSamples.antt, by computation. Assumes nothing.
use mathlib.Core.Path.{refl}
use Rattle.meaning.specs.Lists.{over}
use Rattle.meaning.specs.Outcome.{bind, work}
use Rattle.meaning.specs.Number.{within, window, wrap}
use Rattle.meaning.specs.Interval.{each, without, pieces, split, spread, add_pair, least_corner, greatest_corner, meet_pair, uncut_pair, mul_pair, div_piece, div_part, div_pair}
use Rattle.meaning.specs.NumberIntervals.{contains, insert, rebuild, of_bools, some_of, lt_bools, set1, set2, flag1, flag2}
use Rattle.meaning.specs.Sheet.{far_form, far_act, far_line, crossed_act, crossed_line}
use Rattle.meaning.specs.Reading.{closed, begins, digits, number, scale, decimals, unsigned, literal, register_with, head, start, arg, bounds, value, act_of, line_of, whole_line, judged, read_line}
use Rattle.meaning.specs.Text.{split_lines, admit, read_one, read_lines, read}
use Rattle.meaning.specs.Close.{close_gaps, close}
use Rattle.meaning.specs.Check.{inside, settle, check_by, line_by, act_by, set_by}
use Rattle.meaning.specs.Listing.{digits_before, decimal, decimal_z, wrote_to, listed}
use Rattle.meaning.specs.Composing.{text_returns, text_leaves, if_passed}
use Rattle.meaning.specs.Page.{set_rows, register_rows, page_rows, left_set, right_set, row_line, rows_text, page_text, page}
use Rattle.meaning.specs.PageReadBack.{word, after_blanks, read_row, read_page}
use Rattle.meaning.specs.PageSamples.{PageSamples}

pub page_samples : PageSamples
unfolding read_page read_row word after_blanks page page_text page_rows register_rows set_rows rows_text row_line left_set right_set text_returns text_leaves if_passed over listed wrote_to decimal_z decimal digits_before check_by line_by act_by set_by settle inside read read_lines read_one admit split_lines read_line judged whole_line line_of act_of value bounds arg start head register_with literal unsigned decimals scale number digits begins closed far_form far_act far_line crossed_act crossed_line bind work contains insert rebuild of_bools some_of lt_bools set1 set2 flag1 flag2 each without pieces split spread add_pair least_corner greatest_corner meet_pair uncut_pair mul_pair div_piece div_part div_pair within window wrap close_gaps close
page_samples = record {
  pump = refl;
  ordered = refl;
  read_back = refl;
  all_numbers_read = refl;
  all_numbers = refl;
  held = refl;
  nothing = refl;
  zero = refl;
  broken = refl;
  spaced = refl;
  roomy = (refl, refl);
  exact = (refl, refl);
  short = (refl, refl);
  stops = (refl, refl);
}
