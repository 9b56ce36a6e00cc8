-- As many bytes as no listing is longer than: "pass 256" and LF, and for each of sixteen registers a name counted as three bytes, sixteen intervals, each of two numbers of up to twenty bytes behind one space and two points, and LF. Assumes nothing.
use Rattle.std.specs.Prelude.{ℕ}

abbrev pub longest : ℕ
longest = 11081
