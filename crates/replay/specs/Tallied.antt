-- What a tally becomes with one case more. Assumes nothing.
use Rattle.std.specs.Prelude.{Bool, true, false, cond, ℕ, ◌+◌, ◌-◌, ◌^◌, min, eqb, Some}
use Rattle.replay.specs.declared.Tally.{Tally}

-- one more, but for the greatest number
abbrev pub more : ℕ → ℕ
more n = min (n + 1) (2 ^ 64 - 1)

-- the number of the first case that differs stays once there is one
abbrev pub tallied : Bool → Tally → Tally
tallied true t = record { cases = more t.cases; differ = t.differ; first = t.first }
tallied false t = record { cases = more t.cases; differ = more t.differ; first = cond (eqb t.differ 0) (Some (more t.cases)) t.first }
