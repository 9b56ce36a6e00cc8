-- Values that pin how the closing of gaps (02, (v)) is read: the lowest of equals, gaps of one missing number and of 2^64 − 2, no gap across MIN and MAX, a limit that is met. The theorem is `closing_samples` of proofs/ClosingSamples.antt. Assumes nothing.
use Rattle.std.specs.Prelude.{pos, ◌≡◌, [], ◌++◌, ◌-◌, ◌^◌}
use Rattle.meaning.specs.Number.{MIN, MAX, minus}
use Rattle.meaning.specs.Interval.{span, only}
use Rattle.meaning.specs.Close.{missing, close_one, close}

pub record ClosingSamples : Type 0 where
  -- the numbers between, without the ends
  pub one_missing : missing (pos 0) (pos 2) ≡ 1
  pub most_missing : missing MIN MAX ≡ 2 ^ 64 - 2
  -- the lowest of equals
  pub lowest : close 3 (only (pos 0) ++ only (pos 2) ++ only (pos 4) ++ only (pos 9)) ≡ span (pos 0) (pos 2) ++ only (pos 4) ++ only (pos 9)
  pub lower : close_one (only (pos 0) ++ only (pos 5) ++ only (pos 7) ++ only (pos 9)) ≡ only (pos 0) ++ span (pos 5) (pos 7) ++ only (pos 9)
  -- a gap that is closed does not alter the others: each is counted as it was
  pub twice : close 2 (only (pos 0) ++ only (pos 2) ++ only (pos 4) ++ only (pos 7)) ≡ span (pos 0) (pos 4) ++ only (pos 7)
  -- the fewest missing numbers, not the narrowest intervals, nor the starts that lie closest
  pub fewest : close 2 (span (pos 0) (pos 90) ++ span (pos 92) (pos 200) ++ only (pos 203)) ≡ span (pos 0) (pos 200) ++ only (pos 203)
  pub by_the_gap : close 2 (span (pos 0) (pos 90) ++ only (pos 92) ++ only (pos 95)) ≡ span (pos 0) (pos 92) ++ only (pos 95)
  -- no gap goes across MIN and MAX: from MIN to 0 one more number is missing than from 0 to MAX
  pub ends_apart : close 2 (only MIN ++ only (pos 0) ++ only MAX) ≡ only MIN ++ span (pos 0) MAX
  -- a gap of 2^63 missing numbers is wider than one of 2^63 − 3
  pub past_half : close 2 (only MIN ++ only (pos 1) ++ only MAX) ≡ only MIN ++ span (pos 1) MAX
  pub widest : close 1 (only MIN ++ only MAX) ≡ span MIN MAX
  -- the first interval and the last one are kept
  pub last_kept : close 2 (only (pos 0) ++ only (pos 9) ++ only (pos 11)) ≡ only (pos 0) ++ span (pos 9) (pos 11)
  -- within the limit nothing is closed
  pub within_limit : close 4 (only (minus 3) ++ only (pos 1)) ≡ only (minus 3) ++ only (pos 1)
  pub at_limit : close 2 (only (minus 3) ++ only (pos 1)) ≡ only (minus 3) ++ only (pos 1)
  pub nothing : close 1 [] ≡ []
