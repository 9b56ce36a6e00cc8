-- Something written part by part in a loop: what is done, and what is left. Assumes nothing.
use mathlib.Core.Path.{◌≡◌, refl, sym, ap, ◌∙◌}
use mathlib.Core.List.{List, [], ◌++◌, append_assoc, append-nil}
use native.Mathlib.Omega.{arith}
use lib.ListN.{length, length-append}
use Rattle.writer.specs.declared.Writer.{Writer}
use Rattle.writer.specs.Written.{Fits, Appends}
use Rattle.writer.proofs.Chain.{appends_as, appends_none, appends_next, fits_next}

-- of `whole` all but `rest` is written
pub record Partly {A : Type 0} (whole rest : List A) (new old : Writer A) : Type 0 where
  pub done : List A
  pub wrote : Appends done new old
  pub splits : done ++ rest ≡ whole

module _ {A : Type 0} where
  pub partly_start : (whole : List A) (w : Writer A) → Fits whole w → Partly whole whole w w
  partly_start whole w h = record { done = []; wrote = appends_none w (omega arith); splits = refl }

  pub partly_as : {whole x y : List A} {new old : Writer A} → x ≡ y → Partly whole x new old → Partly whole y new old
  partly_as e p = record { done = p.done; wrote = p.wrote; splits = ap (λ l. p.done ++ l) (sym e) ∙ p.splits }

  pub partly_done : {whole : List A} {new old : Writer A} → Partly whole [] new old → Appends whole new old
  partly_done p = appends_as (sym (append-nil p.done) ∙ p.splits) p.wrote

  module _ {whole : List A} (y rest : List A) {m o : Writer A} (p : Partly whole (y ++ rest) m o) where
    -- there is room for the next part
    pub partly_fits : Fits whole o → Fits y m
    partly_fits h = fits_next p.wrote y (omega (arith, ap length p.splits, length-append p.done (y ++ rest), length-append y rest, length-append p.done y))

    -- and then it stands there too
    pub partly_next : {n : Writer A} → Appends y n m → Partly whole rest n o
    partly_next w = record { done = p.done ++ y; wrote = appends_next p.wrote w; splits = append_assoc p.done y rest ∙ p.splits }
