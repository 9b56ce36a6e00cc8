-- The numbers of document 01's table of refusals and of its findings, and those that document 02 has added so far. The other definitions cite these names. Assumes nothing.
use Rattle.std.specs.Prelude.{ℕ}

-- a set: odd length or not normal
abbrev pub not_normal : ℕ
not_normal = 1

-- a set: over 16 intervals
abbrev pub too_many : ℕ
too_many = 2

-- a lent slice is shorter than its call needs
abbrev pub too_short : ℕ
too_short = 3

-- an answer is longer than out
abbrev pub no_room : ℕ
no_room = 4

-- a text: over 256 lines, a line over 120 bytes, the last LF missing
abbrev pub misshapen : ℕ
misshapen = 5

-- a line: outside the grammar
abbrev pub ungrammatical : ℕ
ungrammatical = 6

-- a line: a literal beyond MIN..MAX
abbrev pub far_literal : ℕ
far_literal = 7

-- a line: `in` after another kind, or a second one for a register
abbrev pub misplaced : ℕ
misplaced = 8

-- a form's set has over 16 intervals: the check gives it no longer (02, (v))
abbrev pub crowded : ℕ
crowded = 9

-- nearest, within: the set is empty (02, (ii))
abbrev pub empty_set : ℕ
empty_set = 10

-- check and run: a divisor may be 0, or is 0
abbrev pub zero_divisor : ℕ
zero_divisor = 20

-- check and run: a hold's register has a value outside
abbrev pub hold_broken : ℕ
hold_broken = 21

-- the run: a lent number is outside its `in`
abbrev pub outside_in : ℕ
outside_in = 22
