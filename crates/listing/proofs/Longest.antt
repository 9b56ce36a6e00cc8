-- No listing is longer than `longest`: each number has at most twenty bytes, each set at most sixteen intervals, and there are at most 256 lines. Assumes nothing.
use lib.Dec.{ltb}
use lib.ListN.{length, length-append}
use mathlib.Core.Path.{◌≡◌, refl, ap, ◌∙◌}
use mathlib.Core.Bool.{cond}
use mathlib.Core.List.{List, [], ◌∷◌, ◌++◌}
use Prim.Native.Nat.{ℕ, zero, suc, ◌+◌, ◌*◌, ◌/◌, ◌%◌, ◌≤◌, ◌<◌}
use native.Mathlib.Omega.{arith}
use Rattle.meaning.specs.Bytes.{bytes}
use Rattle.meaning.specs.Outcome.{Outcome, done, stopped}
use Rattle.meaning.specs.NumberIntervals.{Set, Normal}
use Rattle.meaning.specs.Sheet.{registers, Line}
use Rattle.meaning.specs.Text.{Read, sheet, no_sheet, read}
use Rattle.meaning.specs.Run.{worked, judge}
use Rattle.meaning.specs.Check.{Bands, at, interval_limit, check, text_by}
use Rattle.meaning.specs.CheckSets.{SoundBands}
use Rattle.meaning.specs.Listing.{digits_before, decimal, decimal_z, trouble_line, interval_texts, register_line, register_lines, listed, pass_line, outcome_text, read_text, listing}
use Rattle.laws.proofs.Integers.{cond_case}
use Rattle.laws.proofs.Decimals.{decimal_most, decimal_z_most}
use Rattle.laws.proofs.Members.{AllProper, between, normal_proper}
use Rattle.laws.proofs.Integers.{≤ℤ_trans}
use Rattle.laws.proofs.Cut.{reads, read_length}
use Rattle.laws.proofs.CheckSets.{passed_sound}
use Rattle.writer.specs.declared.Writer.{Writer}
use Rattle.writer.specs.Written.{Fits}
use Rattle.listing.specs.Longest.{longest}

-- of an interval, and of a register's line
abbrev interval_most : ℕ
interval_most = 43

abbrev line_most : ℕ
line_most = 692

-- ---- one line of a refusal or a finding

digits_any : (k n : ℕ) (tail : List ℕ) → length (digits_before k n tail) ≤ k + length tail
unfolding digits_before
digits_any zero n tail = omega arith
digits_any (suc k) n tail =
    cond_case (λ (l : List ℕ). length l ≤ suc k + length tail) (ltb n 10) ((48 + n) ∷ tail) (digits_before k (n / 10) ((48 + n % 10) ∷ tail))
    (λ t. omega arith) (λ t. omega (arith, digits_any k (n / 10) ((48 + n % 10) ∷ tail)))

decimal_any : (n : ℕ) → length (decimal n) ≤ 20
unfolding decimal
decimal_any n = omega (arith, digits_any 20 n [])

pub trouble_most : (word : List ℕ) (k l : ℕ) → length word ≤ 8 → length (trouble_line word k l) ≤ longest
unfolding trouble_line
trouble_most word k l h =
    let rest : List ℕ = bytes " " ++ decimal l ++ bytes "\n" in
    let size : length (trouble_line word k l) ≡ length (word ++ decimal k) + length rest = length-append (word ++ decimal k) rest in
    omega (
      arith,
      h,
      size,
      length-append word (decimal k),
      length-append (decimal l) (bytes "\n"),
      decimal_any k,
      decimal_any l,
    )

pub trouble_fits : (word : List ℕ) (k l : ℕ) (w : Writer ℕ) → length word ≤ 8 → w.len + longest ≤ length w.room.now → Fits (trouble_line word k l) w
trouble_fits word k l w h r = omega (arith, trouble_most word k l h)

-- ---- the lines of a pass

intervals_most : (s : Set) → AllProper s → length (interval_texts s) ≤ interval_most * length s
unfolding interval_texts
intervals_most [] p = omega arith
intervals_most (i ∷ s) p =
    let q = p.0 in
    omega (
      arith,
      length-append (decimal_z i.lo) (bytes ".." ++ decimal_z i.hi ++ interval_texts s),
      length-append (decimal_z i.hi) (interval_texts s),
      decimal_z_most i.lo (between q.low (≤ℤ_trans q.ordered q.high)),
      decimal_z_most i.hi (between (≤ℤ_trans q.low q.ordered) q.high),
      intervals_most s p.1,
    )

line_most_lem : (r : ℕ) (s : Set) → r < registers → Normal s → length s ≤ interval_limit → length (register_line r s) ≤ line_most
unfolding register_line
line_most_lem r s h n k =
    omega (
      arith,
      length-append (decimal r) (interval_texts s ++ bytes "\n"),
      length-append (interval_texts s) (bytes "\n"),
      decimal_most 2 r (omega arith) (omega arith),
      intervals_most s (normal_proper s n),
    )

lines_most : (ls : List Line) {B : Bands} → SoundBands interval_limit B → (n r : ℕ) → r + n ≤ registers → length (register_lines ls B.sets r n) ≤ line_most * n
unfolding register_lines
lines_most ls h zero r k = omega arith
lines_most ls {B} h (suc n) r k =
    let x = cond (listed ls r) (register_line r (at B.sets r)) [] in
    let e = cond_case (λ (l : List ℕ). length l ≤ line_most) (listed ls r) (register_line r (at B.sets r)) []
    (λ t. line_most_lem r (at B.sets r) (omega arith) (h.each r).normal (h.each r).few) (λ t. omega arith) in
    omega (arith, e, length-append x (register_lines ls B.sets (suc r) n), lines_most ls h n (suc r) (omega arith))

pass_most : (n : ℕ) → n ≤ 256 → length (pass_line n) ≤ 9
unfolding pass_line
pass_most n h = omega (arith, length-append (decimal n) (bytes "\n"), decimal_most 3 n (omega arith) (omega arith))

pub listing_most : (t : List ℕ) → length (listing t) ≤ longest
unfolding listing read_text outcome_text text_by
listing_most t = go (read t) refl
  where
    go : (x : Read) → read t ≡ x → length (read_text x) ≤ longest
    go (no_sheet k l) e = trouble_most (bytes "refused ") k l (omega arith)
    go (sheet ls) e = inner (check interval_limit ls) refl
      where
        few : length ls ≤ 256
        few = let h = (reads t e).shape.few in omega (arith, read_length t e)

        inner : (o : Outcome Bands) → check interval_limit ls ≡ o → length (outcome_text ls o) ≤ longest
        inner (stopped k l B) p = trouble_most (bytes "stop ") k l (omega arith)
        inner (done B) p =
            let h = passed_sound interval_limit t (omega arith) (ap (judge (check interval_limit)) e ∙ ap (worked (length ls)) p) in
            omega (arith, length-append (pass_line (length ls)) (register_lines ls B.sets 0 registers), pass_most (length ls) few, lines_most ls h registers 0 (omega arith))
