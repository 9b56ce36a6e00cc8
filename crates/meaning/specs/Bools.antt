-- BoolInterval (01, "BoolInterval"): may be false, may be true. The operators are those of the original's file. Assumes nothing.
use Rattle.std.specs.Prelude.{Bool, ◌&&◌, ◌||◌}

pub record BoolInterval : Type 0 where
  pub bfalse : Bool
  pub btrue : Bool

abbrev pub not_bools : BoolInterval → BoolInterval
not_bools a = record { bfalse = a.btrue; btrue = a.bfalse }

abbrev pub and_bools : BoolInterval → BoolInterval → BoolInterval
and_bools a b = record { bfalse = a.bfalse || b.bfalse; btrue = a.btrue && b.btrue }

abbrev pub or_bools : BoolInterval → BoolInterval → BoolInterval
or_bools a b = record { bfalse = a.bfalse && b.bfalse; btrue = a.btrue || b.btrue }
