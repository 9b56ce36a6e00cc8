-- The listing of a text by what the check answers: the lines of a sheet that passes, or one line. Assumes nothing.
use mathlib.Core.Path.{◌≡◌, refl, sym, ap, ◌∙◌}
use mathlib.Core.List.{List, ◌++◌}
use Prim.Native.Nat.{ℕ}
use Rattle.meaning.specs.Bytes.{bytes}
use Rattle.meaning.specs.Text.{Read, sheet, no_sheet, read}
use Rattle.meaning.specs.Run.{refused, judge}
use Rattle.meaning.specs.Check.{interval_limit, check, check_text, text_by}
use Rattle.meaning.specs.Listing.{trouble_line, register_line, register_lines, pass_line, outcome_text, read_text, listing}
use Rattle.laws.proofs.Work.{judge_worked, not_worked}
use Rattle.refusals.specs.declared.Cause.{Cause}
use Rattle.refusals.specs.declared.Trouble.TheVariants.{Refused, Stopped}
use Rattle.refusals.specs.Numbers.{number_of}
use Rattle.std.specs.Prelude.{Err}
use Rattle.sheet_check.specs.Checked.{Checked}
use Rattle.listed.specs.declared.Shown.{Shown}
use Rattle.listed.specs.Showing.{whole, Shows}
use Rattle.listed.proofs.Showing.{whole_is}

pub pass_text : {t : List ℕ} {s : Shown} → Shows t s → pass_line s.count ++ whole register_line s ≡ listing t
unfolding listing read_text outcome_text register_lines
pass_text {t} {s} k =
    let e = whole_is k register_line (register_lines k.lines k.bands.sets) (λ r. refl) (λ r n. refl) in
    (λ i. pass_line (sym k.counts i) ++ e i) ∙ sym (ap read_text k.reads ∙ ap (outcome_text k.lines) k.passes)

module _ (t : List ℕ) (cause : Cause) (line : ℕ) where
  pub stopped_text : Checked (Err (Stopped cause line)) (check_text interval_limit t) → trouble_line (bytes "stop ") (number_of cause) line ≡ listing t
  unfolding listing read_text outcome_text text_by
  stopped_text h =
      let w = judge_worked (check interval_limit) (read t) h.2 in
      sym (ap read_text w.reads ∙ ap (outcome_text w.lines) w.gives)

  pub refused_text : Checked (Err (Refused cause line)) (check_text interval_limit t) → trouble_line (bytes "refused ") (number_of cause) line ≡ listing t
  unfolding listing read_text text_by
  refused_text h = go (read t) h
    where
      go : (x : Read) → judge (check interval_limit) x ≡ refused (number_of cause) line → trouble_line (bytes "refused ") (number_of cause) line ≡ read_text x
      go (sheet ls) p = not_worked (sym p)
      go (no_sheet i j) p = let a : number_of cause ≡ i = cc in let b : line ≡ j = cc in λ x. trouble_line (bytes "refused ") (a x) (b x)
