-- A text of more than 256 lines of 121 bytes is refused with 5, so 30,977 bytes of a text decide what it reads as, its listing and its page. Assumes nothing.
use lib.Dec.{eqb, leb}
use lib.ListN.{length, take, length-take}
use lib.Seq.{take_all}
use mathlib.Core.Path.{◌≡◌, refl, sym, ap, ◌∙◌}
use mathlib.Core.Bool.{Bool, true, false, cond}
use mathlib.Core.List.{List, [], ◌∷◌}
use Prim.Native.Nat.{ℕ, suc, ◌+◌, ◌*◌, ◌≤◌, ◌<◌}
use native.Mathlib.Omega.{arith}
use borrow.Author.Tests.{leb-true, leb-false}
use Rattle.meaning.specs.Refusals.{misshapen}
use Rattle.meaning.specs.Bytes.{LF}
use Rattle.meaning.specs.Text.{front, split_lines, lines, narrow, shaped, nothing_seen, no_sheet, read_lines, read}
use Rattle.meaning.specs.Composing.{text, by_read, if_passed}
use Rattle.meaning.specs.Listing.{read_text, listing}
use Rattle.meaning.specs.Page.{page_text, page}
use Rattle.laws.proofs.Integers.{by_test, and_both, if_no}
use Rattle.laws.proofs.Cut.{shape_of}

-- how many bytes the lines have, with their LFs
abbrev bytes_of : List (List ℕ) → ℕ
bytes_of [] = 0
bytes_of (l ∷ ls) = suc (length l) + bytes_of ls

split_length : (t : List ℕ) → length t ≡ bytes_of (lines t) + length (split_lines t).rest
unfolding split_lines
split_length [] = refl
split_length (b ∷ t) = go (eqb b LF) (lines t) (split_lines t).rest (split_length t)
  where
    go : (q : Bool) (ls : List (List ℕ)) (r : List ℕ) → length t ≡ bytes_of ls + length r
        → (let s = cond q (record { lines = [] ∷ ls; rest = r }) (front b ls r) in suc (length t) ≡ bytes_of s.lines + length s.rest)
    go true ls r e = omega arith
    go false [] r e = omega arith
    go false (l ∷ ls) r e = omega arith

narrow_bytes : (ls : List (List ℕ)) → narrow ls ≡ true → bytes_of ls ≤ 121 * length ls
narrow_bytes [] h = omega arith
narrow_bytes (l ∷ ls) h =
    let k = and_both (leb (length l) 120) (narrow ls) h in
    omega (arith, leb-true (length l) 120 k.0, narrow_bytes ls k.1)

shaped_most : (t : List ℕ) → shaped (split_lines t) ≡ true → length t ≤ 30976
shaped_most t h =
    let s = shape_of t h in
    omega (arith, split_length t, narrow_bytes (lines t) s.slim, s.few, ap length s.ended)

long_refused : (t : List ℕ) → 30976 < length t → read t ≡ no_sheet misshapen 0
unfolding read
long_refused t h =
    by_test (shaped (split_lines t))
    (λ q. absurd (let x : ⊥ = omega (arith, shaped_most t q) in x))
    (λ q. sym (if_no (read_lines 1 nothing_seen (lines t)) (no_sheet misshapen 0) q))

pub read_prefix : (t : List ℕ) → read (take 30977 t) ≡ read t
read_prefix t =
    by_test (leb (length t) 30977)
    (λ q. ap read (take_all 30977 t (leb-true (length t) 30977 q)))
    (λ q. let h = leb-false (length t) 30977 q in
    long_refused (take 30977 t) (omega (arith, length-take 30977 t)) ∙ sym (long_refused t (omega arith)))

pub listing_prefix : (t : List ℕ) → listing (take 30977 t) ≡ listing t
unfolding listing
listing_prefix t = ap read_text (read_prefix t)

pub page_prefix : (t : List ℕ) → page (take 30977 t) ≡ page t
unfolding page if_passed
page_prefix t = ap (by_read (λ ls S. text (page_text ls S))) (read_prefix t)
