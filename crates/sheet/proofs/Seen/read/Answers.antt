-- `sheet::Seen::read` meets its contract: one case for each kind of line.
use Rattle.std.proofs.Common.{◌≡◌, true, false, ◌||◌, get_or}
use Rattle.sheet.proofs.Judging.{in_misplaced, in_taken, act_read}
use Rattle.sheet.proofs.Seen.read.Goals as goal
use Rattle.sheet.proofs.Seen.read.Goals.{then-self-via-then-self, then-self-via-else-self+then-self-register}

pub returns-then-self : goal.returns-then-self
returns-then-self c before h =
    let s = c.args.self.now in
    let m : (s.other || get_or s.taken c.in-In.register false) ≡ true =
    elim c.then-self.branch [ then-self-via-then-self w ↦ rw w.if-self.true | then-self-via-else-self+then-self-register w ↦ rw (w.if-self.false, w.if-self-register.true) ] in
    in_misplaced c.args.text.now c.in_ok-register.ensures.line s before h c.in-In.is m

pub returns-else-self-register : goal.returns-else-self-register
returns-else-self-register c before h = in_taken c.args.text.now c.in_ok-register.ensures.line c.args.self.now before h c.in-In.is c.if-self.false c.if-self-register.false

pub returns-in-Put : goal.returns-in-Put
returns-in-Put c before h = act_read c.args.text.now c.in_ok-register.ensures.line c.args.self.now before h c.in-Put.is
