-- The code's BoolInterval as that of document 01. Assumes nothing.
use Rattle.meaning.specs.Bools as point
use Rattle.bools.specs.declared.BoolInterval.{BoolInterval}

abbrev pub bools_of : BoolInterval → point.BoolInterval
bools_of b = record { bfalse = b.bfalse; btrue = b.btrue }
