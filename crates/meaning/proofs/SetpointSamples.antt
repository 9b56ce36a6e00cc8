-- The values of specs/SetpointSamples.antt, by computation. Assumes nothing.
use mathlib.Core.Path.{refl}
use Rattle.meaning.specs.Lists.{over}
use Rattle.meaning.specs.Interval.{each, meet_pair}
use Rattle.meaning.specs.NumberIntervals.{normal, intervals, flat}
use Rattle.meaning.specs.SetCalls.{refusal, call_returns, call_out}
use Rattle.meaning.specs.Number.{distance}
use Rattle.meaning.specs.Setpoints.{clamp, nearer, nearest_from, nearest, near, setpoint_refusal, nearest_returns}
use Rattle.meaning.specs.SetpointSamples.{SetpointSamples}

pub setpoint_samples : SetpointSamples
unfolding distance clamp nearer nearest_from nearest near setpoint_refusal nearest_returns call_returns call_out refusal each meet_pair normal intervals flat over
setpoint_samples = record {
  tie = refl;
  later_tie = refl;
  itself = refl;
  end_below = refl;
  start_above = refl;
  past_all = refl;
  before_all = refl;
  far = refl;
  far_below = refl;
  far_above = refl;
  none = refl;
  both = refl;
  cut = refl;
  just = refl;
  all = refl;
  not_all = refl;
  all_above = refl;
  low_edge = refl;
  many = refl;
  odd = refl;
  touching = refl;
  empty = refl;
  given_member = refl;
  withheld_empty = refl;
  withheld_odd = refl;
  within_some = refl;
  within_out_lem = refl;
  within_none = refl;
  none_out = refl;
  within_short = refl;
  short_out = refl;
  odd_before_short = refl;
  empty_refused = refl;
  empty_out = refl;
}
