-- The page of a text by what the check answers: the lines of a sheet that passes, or what the check says. Assumes nothing.
use mathlib.Core.Path.{◌≡◌, refl, sym, ap, ◌∙◌}
use mathlib.Core.List.{List}
use Prim.Native.Nat.{ℕ}
use Rattle.std.specs.Prelude.{Err}
use Rattle.meaning.specs.NumberIntervals.{Set}
use Rattle.meaning.specs.Sheet.{Line}
use Rattle.meaning.specs.Check.{interval_limit, check_text}
use Rattle.meaning.specs.Composing.{Composed, text, by_check, by_read, if_passed}
use Rattle.meaning.specs.Page.{Row, set_rows, register_rows, page_rows, rows_text, page_text, page}
use Rattle.laws.proofs.Composing.{refused_is, stopped_is}
use Rattle.refusals.specs.declared.Trouble.{Trouble}
use Rattle.refusals.specs.declared.Trouble.TheVariants.{Refused, Stopped}
use Rattle.refusals.specs.Numbers.{number_of}
use Rattle.sheet_check.specs.Checked.{Checked}
use Rattle.texts.specs.Answers.{Writes}
use Rattle.texts.proofs.Answering.{writes_stop, writes_refusal, writes_as}
use Rattle.listed.specs.declared.Shown.{Shown}
use Rattle.listed.specs.Showing.{whole, Shows}
use Rattle.listed.proofs.Showing.{whole_is}
use Rattle.page.proofs.Rows.{lines_of, whole_text}

-- the page of a sheet with these lines and sets
abbrev pub part : List Line → List Set → Composed
part ls S = text (page_text ls S)

pub page_passed : {t : List ℕ} {s : Shown} → Shows t s → text (whole lines_of s) ≡ page t
unfolding page page_text page_rows if_passed register_rows
page_passed {t} {s} k =
    let e = whole_is k set_rows (register_rows k.lines k.bands.sets) (λ r. refl) (λ r n. refl) in
    ap text (sym (whole_text s)) ∙ ap (λ (w : List Row). text (rows_text w)) e
    ∙ sym (ap (by_read part) k.reads ∙ ap (by_check part k.lines) k.passes)

-- anything else is answered as the check does
pub page_failed : (t out : List ℕ) (e : Trouble) → Checked (Err e) (check_text interval_limit t) → Writes (page t) out (Err e) out
unfolding page
page_failed t out (Stopped cause line) h = writes_as (sym (stopped_is part t h.0 (number_of cause) line h.1 h.2)) (writes_stop cause line out)
page_failed t out (Refused cause line) h = writes_as (sym (refused_is part t (number_of cause) line h)) (writes_refusal cause line out)
