-- Values that pin how setpoints are read: a tie, distances that do not wrap, an answer without a member, the order of refusals, and what a refusal leaves. The theorem is `setpoint_samples` of proofs/SetpointSamples.antt. Assumes nothing.
use Rattle.std.specs.Prelude.{pos, negsuc, replicate, ◌≡◌, false, [], ◌∷◌, ◌++◌, ◌-◌, ◌^◌}
use Rattle.meaning.specs.Refusals.{not_normal, too_many, no_room, empty_set}
use Rattle.meaning.specs.Number.{MIN, MAX, distance}
use Rattle.meaning.specs.Interval.{span, only}
use Rattle.meaning.specs.SetCalls.{written, refused}
use Rattle.meaning.specs.Setpoints.{nearest, near, setpoint_refusal, nearest_returns, within_returns, within_out}

pub record SetpointSamples : Type 0 where
  -- the lower one on a tie
  pub tie : nearest (only (pos 1) ++ only (pos 5)) (pos 3) ≡ pos 1
  -- in which the first has no part
  pub later_tie : nearest (only (pos 1) ++ (only (pos 5) ++ only (pos 7))) (pos 6) ≡ pos 5
  -- a member is its own closest
  pub itself : nearest (only (pos 1) ++ span (pos 5) (pos 9)) (pos 7) ≡ pos 7
  -- the end of an interval below, the start of one above
  pub end_below : nearest (span (pos 1) (pos 4) ++ only (pos 9)) (pos 6) ≡ pos 4
  pub start_above : nearest (only (pos 1) ++ span (pos 5) (pos 9)) (pos 4) ≡ pos 5
  -- past the last, and before the first
  pub past_all : nearest (only (pos 1) ++ span (pos 5) (pos 9)) (pos 30) ≡ pos 9
  pub before_all : nearest (span (pos 5) (pos 9) ++ only (pos 20)) (pos 2) ≡ pos 5
  -- no difference wraps: MIN and MAX are far from each other
  pub far : distance MIN MAX ≡ 2 ^ 64 - 1
  pub far_below : nearest (only MIN ++ only (pos 0)) MAX ≡ pos 0
  pub far_above : nearest (only (pos 0) ++ only MAX) MIN ≡ pos 0
  -- the distance is included, and may reach no member or all of them
  pub none : near (only (pos 1) ++ only (pos 5)) (pos 3) 1 ≡ []
  pub both : near (only (pos 1) ++ only (pos 5)) (pos 3) 2 ≡ only (pos 1) ++ only (pos 5)
  pub cut : near (span MIN MAX) (pos 0) 2 ≡ span (negsuc 1) (pos 2)
  pub just : near (span (pos 1) (pos 9)) (pos 4) 0 ≡ only (pos 4)
  pub all : near (span MIN MAX) MAX (2 ^ 64 - 1) ≡ span MIN MAX
  pub not_all : near (span MIN MAX) MAX (2 ^ 64 - 2) ≡ span (negsuc (2 ^ 63 - 2)) MAX
  -- nor does a window wrap below MIN
  pub all_above : near (span MIN MAX) MIN (2 ^ 64 - 1) ≡ span MIN MAX
  pub low_edge : near (span MIN MAX) MIN 5 ≡ span MIN (negsuc (2 ^ 63 - 6))
  -- 2, 1, 10
  pub many : setpoint_refusal (replicate 33 (pos 0)) ≡ too_many
  pub odd : setpoint_refusal (pos 1 ∷ []) ≡ not_normal
  pub touching : setpoint_refusal (pos 1 ∷ pos 2 ∷ pos 3 ∷ pos 3 ∷ []) ≡ not_normal
  pub empty : setpoint_refusal [] ≡ empty_set
  -- what the calls return and leave: a member, the member 0 of a refusal, an answer, an empty one, 4, and 1 before it
  pub given_member : nearest_returns (pos 5 ∷ pos 9 ∷ []) (pos 20) ≡ record { number = 0; member = pos 9 }
  pub withheld_empty : nearest_returns [] (pos 20) ≡ record { number = empty_set; member = pos 0 }
  pub withheld_odd : nearest_returns (pos 1 ∷ []) (pos 20) ≡ record { number = not_normal; member = pos 0 }
  pub within_some : within_returns (pos 5 ∷ pos 9 ∷ []) (pos 8) 2 (pos 7 ∷ pos 7 ∷ pos 7 ∷ []) ≡ written 2 false
  pub within_out_lem : within_out (pos 5 ∷ pos 9 ∷ []) (pos 8) 2 (pos 7 ∷ pos 7 ∷ pos 7 ∷ []) ≡ pos 6 ∷ pos 9 ∷ pos 7 ∷ []
  pub within_none : within_returns (pos 5 ∷ pos 9 ∷ []) (pos 20) 2 [] ≡ written 0 false
  pub none_out : within_out (pos 5 ∷ pos 9 ∷ []) (pos 20) 2 (pos 7 ∷ []) ≡ pos 7 ∷ []
  pub within_short : within_returns (pos 5 ∷ pos 9 ∷ []) (pos 8) 2 (pos 7 ∷ []) ≡ refused no_room
  pub short_out : within_out (pos 5 ∷ pos 9 ∷ []) (pos 8) 2 (pos 7 ∷ []) ≡ pos 7 ∷ []
  pub odd_before_short : within_returns (pos 1 ∷ pos 2 ∷ pos 3 ∷ pos 3 ∷ []) (pos 2) 5 [] ≡ refused not_normal
  pub empty_refused : within_returns [] (pos 8) 2 [] ≡ refused empty_set
  pub empty_out : within_out [] (pos 8) 2 (pos 7 ∷ []) ≡ pos 7 ∷ []
