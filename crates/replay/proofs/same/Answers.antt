-- `replay::same` meets its contract: `==` of two slices decides whether they hold the same numbers. Assumes nothing.
use Rattle.std.proofs.lemmas.Bool.Decides.{Decides-int_eq}
use Rattle.std.proofs.lemmas.Slice.Eq.{slice_eq-Decides}
use Rattle.replay.proofs.same.Goals as goal

pub returns : goal.returns
returns c = slice_eq-Decides Decides-int_eq c.args.a.now c.args.b.now c.eq.result c.eq.ensures
