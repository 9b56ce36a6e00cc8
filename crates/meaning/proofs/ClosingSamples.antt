-- The values of specs/ClosingSamples.antt, by computation. Assumes nothing.
use mathlib.Core.Path.{refl}
use Rattle.meaning.specs.Number.{distance}
use Rattle.meaning.specs.Close.{missing, none_fewer, close_one, close_gaps, close}
use Rattle.meaning.specs.ClosingSamples.{ClosingSamples}

pub closing_samples : ClosingSamples
unfolding distance missing none_fewer close_one close_gaps close
closing_samples = record {
  one_missing = refl;
  most_missing = refl;
  lowest = refl;
  lower = refl;
  twice = refl;
  fewest = refl;
  by_the_gap = refl;
  ends_apart = refl;
  past_half = refl;
  widest = refl;
  last_kept = refl;
  within_limit = refl;
  at_limit = refl;
  nothing = refl;
}
