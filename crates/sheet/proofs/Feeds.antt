-- The lines of a text by where its first LF stands. Assumes nothing.
use Rattle.std.proofs.Common.{◌≡◌, refl, sym, ap, subst, ◌∙◌, Bool, true, false, cond, List, [], ◌∷◌, ◌++◌, ℕ, zero, suc, ◌+◌, ◌-◌, ◌<◌, ◌≤◌, eqb, length, get_or, take, drop, Option, None, Some, arith, add-one, sub-one, add-zero, leb, ltb, ◌&&◌}
use Rattle.std.specs.List.{position, position_or_len, list_all, enumerate_from}
use Rattle.meaning.specs.Bytes.{LF}
use Rattle.meaning.specs.Text.{Split, front, split_lines, lines, empty, narrow, cut, line_at}
use lib.Seq.{drop-drop, get_or-drop, length-take-le}
use lib.ListN.{drop_of_length-le, length-drop, length-append}
use Rattle.laws.proofs.Cut.{cut_past, line_at_lem}
use Rattle.laws.proofs.Integers.{by_test}
use borrow.Author.Tests.{ne_eqb, le-leb, lt-leb, ltb-true, ltb-false}

abbrev pub first_lf : List ℕ → ℕ
first_lf t = position_or_len (λ byte. eqb byte LF) t

module _ (b : ℕ) (t : List ℕ) where
  pub split_here : eqb b LF ≡ true → split_lines (b ∷ t) ≡ record { lines = [] ∷ lines t; rest = (split_lines t).rest }
  unfolding split_lines
  split_here e = rw (e, split_lines)

  pub split_more : eqb b LF ≡ false → split_lines (b ∷ t) ≡ front b (lines t) (split_lines t).rest
  unfolding split_lines
  split_more e = rw (e, split_lines)

-- the first line, which ends at e, and what is behind it
pub record FirstLine (t : List ℕ) (e : ℕ) : Type 0 where
  pub inside : e < length t
  pub split : split_lines t ≡ record { lines = take e t ∷ lines (drop (e + 1) t); rest = (split_lines (drop (e + 1) t)).rest }

first_at : (t : List ℕ) → first_lf t < length t → FirstLine t (first_lf t)
first_at [] h = absurd (omega arith)
first_at (b ∷ t) h =
    by_test (eqb b LF)
    (λ e. rw e (record { inside = omega arith; split = split_here b t e }))
    (λ e.
    let m : 1 + first_lf t < length (b ∷ t) = rw e at h in
    let r = first_at t (omega arith) in
    let k : 1 + first_lf t ≡ suc (first_lf t) = omega arith in
    let d : drop (suc (first_lf t) + 1) (b ∷ t) ≡ drop (first_lf t + 1) t = rw (add-one (first_lf t), add-one (suc (first_lf t))) in
    rw (e, k) (record {
      inside = omega arith;
      split = split_more b t e ∙ ap (λ (x : Split). front b x.lines x.rest) r.split
          ∙ ap (λ (u : List ℕ). record { lines = (b ∷ take (first_lf t) t) ∷ lines u; rest = (split_lines u).rest }) (sym d);
    }))

pub no_line_at : (t : List ℕ) → length t ≤ first_lf t → split_lines t ≡ record { lines = []; rest = t }
unfolding split_lines
no_line_at [] h = refl
no_line_at (b ∷ t) h =
    by_test (eqb b LF)
    (λ e. absurd (let m : length (b ∷ t) ≤ 0 = rw e at h in omega arith))
    (λ e. let m : length (b ∷ t) ≤ 1 + first_lf t = rw e at h in split_more b t e ∙ ap (λ (x : Split). front b x.lines x.rest) (no_line_at t (omega arith)))

-- what `position` says of the lines
module _ (t : List ℕ) {r : Option ℕ} (e : r ≡ position (λ byte. eqb byte LF) t) where
  pub none_first : r ≡ None → split_lines t ≡ record { lines = []; rest = t }
  none_first n = no_line_at t (grind arith)

  pub some_first : {i : ℕ} → r ≡ Some i → FirstLine t i
  some_first {i} n =
      let m : first_lf t < length t = grind arith in
      let k : first_lf t ≡ i = grind arith in
      rw k at (first_at t m)

not_nil : {A : Type 0} {x : A} {xs : List A} → ◌≡◌ {A = List A} (x ∷ xs) [] → ⊥
not_nil e = cc

unlined : (t : List ℕ) → lines t ≡ [] → (split_lines t).rest ≡ t
unfolding split_lines
unlined [] e = refl
unlined (b ∷ t) e =
    by_test (eqb b LF)
    (λ k. absurd (not_nil (sym (ap (λ (x : Split). x.lines) (split_here b t k)) ∙ e)))
    (λ k. ap (λ (x : Split). x.rest) (split_more b t k) ∙ go (lines t) (unlined t) (sym (ap (λ (x : Split). x.lines) (split_more b t k)) ∙ e))
  where
    go : (ls : List (List ℕ)) → (ls ≡ [] → (split_lines t).rest ≡ t) → (front b ls (split_lines t).rest).lines ≡ [] → (front b ls (split_lines t).rest).rest ≡ b ∷ t
    go [] ih n = ap {B = List ℕ} (λ u. b ∷ u) (ih refl)
    go (l ∷ ls) ih n = absurd (not_nil n)

ended_at : (t : List ℕ) (n : ℕ) → length t ≡ suc n → empty (split_lines t).rest ≡ eqb (get_or t n 0) LF
unfolding split_lines
ended_at [] n h = absurd (omega arith)
ended_at (b ∷ []) n h = let z : n ≡ 0 = omega arith in rw z (by_test (eqb b LF) (λ e. rw e) (λ e. rw e))
ended_at (b ∷ c ∷ t) n h =
    let z : n ≡ suc (length t) = omega arith in
    rw z (by_test (eqb b LF)
    (λ e. ap (λ (x : Split). empty x.rest) (split_here b (c ∷ t) e) ∙ ended_at (c ∷ t) (length t) refl)
    (λ e. ap (λ (x : Split). empty x.rest) (split_more b (c ∷ t) e) ∙ go (lines (c ∷ t)) refl ∙ ended_at (c ∷ t) (length t) refl))
  where
    go : (ls : List (List ℕ)) → lines (c ∷ t) ≡ ls → empty (front b ls (split_lines (c ∷ t)).rest).rest ≡ empty (split_lines (c ∷ t)).rest
    go [] e = ap empty (sym (unlined (c ∷ t) e))
    go (l ∷ ls) e = refl

-- an LF ends the text where its last byte is one, or there is none
pub ended_is : (t : List ℕ) → empty (split_lines t).rest ≡ cond (eqb (length t) 0) true (eqb (get_or t (length t - 1) 0) LF)
unfolding split_lines
ended_is [] = refl
ended_is (b ∷ t) = rw (sub-one, ne_eqb (suc (length t)) 0 (λ e. absurd (omega arith))) (ended_at (b ∷ t) (length t) refl)

and_swap : (a b c : Bool) → a && (b && c) ≡ b && (a && c)
and_swap true b c = refl
and_swap false true c = refl
and_swap false false c = refl

-- each line with its number, counted from k on
pub fits_from : (k : ℕ) (ls : List (List ℕ)) → k ≤ 256 → list_all (λ (p : ℕ × List ℕ). ltb p.0 256 && leb (length p.1) 120) (enumerate_from k ls) ≡ leb (k + length ls) 256 && narrow ls
fits_from k [] h = rw (add-zero k, le-leb k 256 h)
fits_from k (l ∷ ls) h =
    let m : k + suc (length ls) ≡ k + 1 + length ls = omega arith in
    by_test (ltb k 256)
    (λ e. let n : k < 256 = ltb-true k 256 e in rw (e, m, fits_from (k + 1) ls (omega arith)) (and_swap (leb (length l) 120) (leb (k + 1 + length ls) 256) (narrow ls)))
    (λ e. let n : 256 ≤ k = ltb-false k 256 e in rw (e, lt-leb (k + suc (length ls)) 256 (omega arith)))

-- ---- the line finder

-- what is behind the first k lines starts where the cut ends
pub lines_behind : (s : List ℕ) (k : ℕ) → lines (drop (length (cut s k)) s) ≡ drop k (lines s)
unfolding split_lines cut
lines_behind [] k = sym (drop_of_length-le [] {i = k} (omega arith))
lines_behind (b ∷ s) zero = refl
lines_behind (b ∷ s) (suc k) = go (eqb b LF) (lines_behind s)
  where
    front_drop : (ls : List (List ℕ)) (r : List ℕ) → drop (suc k) (front b ls r).lines ≡ drop (suc k) ls
    front_drop [] r = refl
    front_drop (l ∷ ls) r = refl

    go : (q : Bool) → ((m : ℕ) → lines (drop (length (cut s m)) s) ≡ drop m (lines s))
        → lines (drop (length (cut s (cond q k (suc k)))) s) ≡ drop (suc k) (cond q (record { lines = [] ∷ lines s; rest = (split_lines s).rest }) (front b (lines s) (split_lines s).rest)).lines
    go true ih = ih k
    go false ih = ih (suc k) ∙ sym (front_drop (lines s) (split_lines s).rest)

pub start_first : (s : List ℕ) → 0 ≡ length (cut s 0)
unfolding cut
start_first [] = refl
start_first (b ∷ s) = refl

-- line i + 1 starts at `at`
module _ (s : List ℕ) (i at : ℕ) (a : at ≡ length (cut s i)) where
  lines_left : lines (drop at s) ≡ drop i (lines s)
  lines_left = ap (λ (n : ℕ). lines (drop n s)) a ∙ lines_behind s i

  -- and ends e bytes behind it
  module _ {e : ℕ} (f : FirstLine (drop at s) e) where
    these_left : drop i (lines s) ≡ take e (drop at s) ∷ lines (drop (e + 1) (drop at s))
    these_left = sym lines_left ∙ ap (λ (x : Split). x.lines) f.split

    pub line_there : take e (drop at s) ≡ get_or (lines s) i []
    line_there = ap (λ (l : List (List ℕ)). get_or l 0 []) (sym these_left) ∙ get_or-drop i (lines s) 0 [] ∙ ap (λ (x : ℕ). get_or (lines s) x []) (add-zero i)

    pub line_inside : i < length (lines s)
    line_inside = omega (arith, ap length these_left, length-drop i (lines s))

    pub line_long : length (line_at s (suc i)) ≡ e
    unfolding line_at
    line_long = let l = f.inside in ap length (sym line_there) ∙ length-take-le e (drop at s) (omega arith)

    pub start_next : at + e + 1 ≡ length (cut s (i + 1))
    start_next =
        let l = ap length ((line_at_lem s).within i line_inside) ∙ length-append (cut s i) (line_at s (suc i) ++ LF ∷ []) in
        let m = length-append (line_at s (suc i)) (LF ∷ []) in
        sym (ap (λ (k : ℕ). length (cut s k)) (add-one i) ∙ l ∙ omega (arith, m, line_long, a))

  -- and there are no more lines
  module _ (n : lines (drop at s) ≡ []) where
    pub line_none : [] ≡ get_or (lines s) i []
    line_none =
        ap (λ (l : List (List ℕ)). get_or l 0 []) (sym n ∙ lines_left)
        ∙ get_or-drop i (lines s) 0 [] ∙ ap (λ (x : ℕ). get_or (lines s) x []) (add-zero i)

    pub lines_past : length (lines s) ≤ i
    lines_past = omega (arith, ap length (sym n ∙ lines_left), length-drop i (lines s))

    pub start_end : (k : ℕ) → i < k → length s ≡ length (cut s k)
    start_end k l = ap length (sym (cut_past s k (omega (arith, lines_past, (line_at_lem s).count))))

pub cut_le : (t : List ℕ) (n : ℕ) → length (cut t n) ≤ length t
unfolding cut
cut_le [] n = omega arith
cut_le (b ∷ t) zero = omega arith
cut_le (b ∷ t) (suc n) = let r = cut_le t (cond (eqb b LF) n (suc n)) in omega arith

-- what is behind the first i lines
module _ (t : List ℕ) (i : ℕ) {rest : List ℕ} (a : rest ≡ drop (length (cut t i)) t) where
  pub behind_next : {e : ℕ} → FirstLine rest e → drop (e + 1) rest ≡ drop (length (cut t (i + 1))) t
  behind_next {e} f =
      let n : length (cut t i) + (e + 1) ≡ length (cut t (i + 1)) = omega (arith, start_next t i (length (cut t i)) refl (subst (λ (x : List ℕ). FirstLine x e) a f)) in
      ap (drop (e + 1)) a ∙ drop-drop (e + 1) (length (cut t i)) t ∙ ap (λ (k : ℕ). drop k t) n

  pub behind_end : lines rest ≡ [] → (k : ℕ) → i < k → length t ≡ length (cut t k)
  behind_end n = start_end t i (length (cut t i)) refl (sym (ap lines a) ∙ n)
