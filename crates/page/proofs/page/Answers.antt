-- A line is 73 bytes, so the count tells whether the page fits; only then it is written. Assumes nothing.
use Rattle.std.proofs.Common.{◌≡◌, ap, rules, ℕ, List, Ok}
use Rattle.std.specs.Borrow.{MutBor}
use Rattle.meaning.specs.Composing.{text}
use Rattle.writer.specs.declared.Writer.{Writer}
use Rattle.writer.specs.Written.{Starts, Appends}
use Rattle.texts.specs.Answers.{Writes}
use native.Mathlib.Omega.{arith}
use lib.ListN.{length}
use Rattle.listed.specs.Showing.{whole}
use Rattle.texts.proofs.Answering.{writes_short, writes_first, writes_as}
use Rattle.page.proofs.Rows.{lines_of, page_size}
use Rattle.page.proofs.Passing.{page_passed, page_failed}
use Rattle.page.proofs.page.Goals as goal

pub returns-in-Err : goal.returns-in-Err
returns-in-Err c = page_failed c.args.sheet.now c.args.out.now c.in-Err.trouble (rw c.in-Err.is at c.of-whole.ensures)

pub returns-then-out-lines : goal.returns-then-out-lines
returns-then-out-lines c =
    let s = c.in-Ok.shown in
    writes_as (page_passed (rw c.in-Ok.is at c.of-whole.ensures)) (writes_short (whole lines_of s) c.args.out.now (omega (arith, page_size s, c.count_lines-lines.ensures.0)))

pub write-requires : goal.write-requires
write-requires c =
    let n = c.new-page.ensures in
    omega (arith, page_size c.in-Ok.shown, c.count_lines-lines.ensures.0, n.empty, ap length n.now)

-- the bytes of the output are those of the writer's room
written : {w v : Writer ℕ} {lent : MutBor (List ℕ)} {x new : List ℕ} → Starts w lent → Appends x v w → new ≡ v.room.now → Writes (text x) lent.now (Ok v.len) new
written s a e = rw e (writes_first s a)

pub returns : goal.returns
returns c = writes_as (page_passed (rw c.in-Ok.is at c.of-whole.ensures)) (written c.new-page.ensures c.write.ensures (search rules))
