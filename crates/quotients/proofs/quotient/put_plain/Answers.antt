-- No end of a divisor is 0. Assumes nothing.
use Rattle.std.proofs.Common.{◌∙◌, sym, w64, SFits, to_z-of_z, rules}
use Rattle.quotients.proofs.DivRules.{hull_room, start_nonzero, end_nonzero}
use Rattle.quotients.proofs.quotient.put_plain.Goals as goal

pub put_hull-requires : goal.put_hull-requires
put_hull-requires c =
    let l = c.args.left in
    let d = c.args.right in
    let T : SFits w64 d.numbers.lo = search rules in
    let F : SFits w64 d.numbers.hi = search rules in record {
      start_not_zero = λ z. start_nonzero d.numbers.ordered d.no_zero (sym (to_z-of_z T) ∙ z);
      end_not_zero = λ z. end_nonzero d.numbers.ordered d.no_zero (sym (to_z-of_z F) ∙ z);
      room = hull_room l.lo l.hi d.numbers.lo d.numbers.hi c.args.out.now c.requires;
    }
