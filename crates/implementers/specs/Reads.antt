-- Does a form read a register? Assumes nothing.
use Rattle.std.specs.Prelude.{Bool, true, false, ◌||◌}
use Rattle.meaning.specs.Reading.{Algebra}

abbrev pub reads : Algebra Bool
reads = record { on_lit = λ z. false; on_reg = λ r. true; on1 = λ o a. a; on2 = λ o a b. a || b }
