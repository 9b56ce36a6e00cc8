-- The start of a run (02, (vi)): an `in` line takes the number that its register holds already, and stands before all other lines, so that a run which it stops, with 22, has every register as lent.
-- Assumes nothing.
use lib.IntN.{ℤ, pos}
use lib.ListN.{get_or, set, take}
use mathlib.Core.Path.{◌≡◌, refl, sym, ap, ◌∙◌}
use mathlib.Core.List.{List, [], ◌∷◌}
use Prim.Native.Nat.{ℕ, zero, suc}
use Rattle.meaning.specs.Lists.{All}
use Rattle.meaning.specs.Refusals.{outside_in}
use Rattle.meaning.specs.Outcome.{Res, ok, stop, Outcome, done, stopped, onward, work}
use Rattle.meaning.specs.Number.{within}
use Rattle.meaning.specs.Sheet.{registers, Line, input, act}
use Rattle.meaning.specs.Text.{sheet, read}
use Rattle.meaning.specs.ReadLaws.{NotIn, OneIn}
use Rattle.meaning.specs.Run.{run_act, run_line, start_numbers, run}
use Rattle.meaning.specs.Verdicts.{check_finds}
use Rattle.laws.proofs.Work.{ok_same, guard_ok}
use Rattle.laws.proofs.Fine.{one_in}
use Rattle.laws.proofs.Troubles.{Numbered, run_act_numbered, not_among}

-- the number at a place, stored there again
set_same : (n r : ℕ) (l : List ℤ) → set (take n l) r (get_or l r (pos 0)) ≡ take n l
set_same zero r l = refl
set_same (suc n) r [] = refl
set_same (suc n) zero (x ∷ l) = refl
set_same (suc n) (suc r) (x ∷ l) = ap (λ (k : List ℤ). x ∷ k) (set_same n r l)

module _ (lent : List ℤ) where
  -- an `in` line leaves the state as it was
  in_keeps : (s : List ℤ) (r : ℕ) (lo hi : ℤ) (s' : List ℤ) → s ≡ start_numbers lent → run_line lent s (input r lo hi) ≡ ok s' → s' ≡ start_numbers lent
  unfolding run_line start_numbers
  in_keeps s r lo hi s' h e =
      let z = get_or lent r (pos 0) in
      sym (ok_same (guard_ok (within lo z hi) outside_in (ok (set s r z)) e).1) ∙ ap (λ (k : List ℤ). set k r z) h ∙ set_same registers r lent

  -- a stop with 22 has the state of the start
  abbrev AsLent : Outcome (List ℤ) → Type 0
  AsLent (done s) = Unit {0}
  AsLent (stopped k n s) = k ≡ outside_in → s ≡ start_numbers lent

  -- after a put or a hold there is no `in`, and neither stops with 22
  acts_lent : (n : ℕ) (s : List ℤ) (ls : List Line) → All NotIn ls → AsLent (work (run_line lent) n s ls)
  unfolding work run_line
  acts_lent n s [] h = tt
  acts_lent n s (input r lo hi ∷ ls) h = absurd h.0
  acts_lent n s (act a ∷ ls) h = go (run_act s a) (run_act_numbered s a) (λ b. acts_lent (suc n) b ls h.1)
    where
      go : (x : Res (List ℤ)) → Numbered check_finds x → ((b : List ℤ) → AsLent (work (run_line lent) (suc n) b ls)) → AsLent (onward n s x (λ b. work (run_line lent) (suc n) b ls))
      go (ok b) o ih = ih b
      go (stop k) o ih = λ e. absurd (not_among check_finds refl o e)

  lines_lent : (n : ℕ) (s : List ℤ) (ls : List Line) → OneIn ls → s ≡ start_numbers lent → AsLent (work (run_line lent) n s ls)
  unfolding work
  lines_lent n s [] o h = tt
  lines_lent n s (act a ∷ ls) o h = acts_lent n s (act a ∷ ls) (tt, o.0)
  lines_lent n s (input r lo hi ∷ ls) o h = go (run_line lent s (input r lo hi)) refl (λ b q. lines_lent (suc n) b ls o.1 (in_keeps s r lo hi b h q))
    where
      go : (x : Res (List ℤ)) → run_line lent s (input r lo hi) ≡ x → ((b : List ℤ) → run_line lent s (input r lo hi) ≡ ok b → AsLent (work (run_line lent) (suc n) b ls))
          → AsLent (onward n s x (λ b. work (run_line lent) (suc n) b ls))
      go (ok b) e ih = ih b e
      go (stop k) e ih = λ _. h

  -- of a sheet
  pub outside_as_lent : (t : List ℕ) (ls : List Line) (n : ℕ) (s : List ℤ) → read t ≡ sheet ls → run lent ls ≡ stopped outside_in n s → s ≡ start_numbers lent
  unfolding run
  outside_as_lent t ls n s r e = rw e at (lines_lent 1 (start_numbers lent) ls (one_in t r) refl) refl
