-- The lines of a text: what the line finder gives, and that a sheet cut after line n has the first n lines and reads as the first n lines of what the sheet reads as. Assumes nothing.
use lib.Dec.{eqb, leb}
use lib.ListN.{length, get_or, take, length-take, get_or-eq_default}
use mathlib.Core.Path.{◌≡◌, refl, sym, ap, ◌∙◌, subst}
use mathlib.Core.Bool.{Bool, true, false, cond, ◌&&◌}
use mathlib.Core.List.{List, [], ◌∷◌, ◌++◌}
use Prim.Native.Nat.{ℕ, zero, suc, ◌≤◌, ◌<◌}
use native.Mathlib.Nat.{le_of_suc-le-suc}
use native.Mathlib.Omega.{arith}
use borrow.Author.Tests.{eqb-true, eqb-false, leb-true, le-leb}
use Rattle.meaning.specs.Lists.{All}
use Rattle.meaning.specs.Bytes.{LF}
use Rattle.meaning.specs.Refusals.{misshapen}
use Rattle.meaning.specs.Outcome.{Res, ok, stop}
use Rattle.meaning.specs.Sheet.{Line}
use Rattle.meaning.specs.Reading.{read_line}
use Rattle.meaning.specs.Text.{Split, front, split_lines, lines, line_at, cut, narrow, empty, shaped, Seen, nothing_seen, admit, Read, sheet, no_sheet, prepend, Taken, then_read, read_one, read_lines, read}
use Rattle.meaning.specs.ReadLaws.{feeds, LineAt}
use Rattle.laws.proofs.Integers.{never, and_both, and_yes}
use Rattle.laws.proofs.Work.{ok_same, bind_ok}

not_sheet {ℓ} : {X : Type ℓ} {k n : ℕ} {ls : List Line} → no_sheet k n ≡ sheet ls → X
not_sheet e = let z : ◌≡◌ {A = ℕ} 0 1 = cc in absurd (let x : ⊥ = omega arith in x)

-- ---- the first n lines

-- a byte before the lines of a text
front_take : (b n : ℕ) (ls : List (List ℕ)) (r r' : List ℕ) → (front b (take (suc n) ls) r).lines ≡ take (suc n) (front b ls r').lines
front_take b n [] r r' = refl
front_take b n (l ∷ ls) r r' = refl

pub lines_cut : (t : List ℕ) (n : ℕ) → lines (cut t n) ≡ take n (lines t)
unfolding split_lines cut
lines_cut [] zero = refl
lines_cut [] (suc n) = refl
lines_cut (b ∷ t) zero = refl
lines_cut (b ∷ t) (suc n) = go (eqb b LF) (λ m. lines_cut t m)
  where
    go : (q : Bool) → ((m : ℕ) → lines (cut t m) ≡ take m (lines t))
        → (let s = split_lines (cut t (cond q n (suc n))) in cond q (record { lines = [] ∷ s.lines; rest = s.rest }) (front b s.lines s.rest)).lines
        ≡ take (suc n) (cond q (record { lines = [] ∷ lines t; rest = (split_lines t).rest }) (front b (lines t) (split_lines t).rest)).lines
    go true ih = ap {B = List (List ℕ)} (λ l. [] ∷ l) (ih n)
    go false ih = ap (λ l. (front b l (split_lines (cut t (suc n))).rest).lines) (ih (suc n)) ∙ front_take b n (lines t) _ _

-- a text whose last byte is an LF
not_cons {ℓ} : {X : Type ℓ} {b : ℕ} {r : List ℕ} → b ∷ r ≡ [] → X
not_cons e = let z : ◌≡◌ {A = ℕ} 0 1 = cc in absurd (let x : ⊥ = omega arith in x)

front_rest : (b : ℕ) (ls : List (List ℕ)) (r : List ℕ) → (front b ls r).rest ≡ [] → r ≡ []
front_rest b [] r e = not_cons e
front_rest b (l ∷ ls) r e = e

front_ended : (b n : ℕ) (ls : List (List ℕ)) (r : List ℕ) → (front b ls r).rest ≡ [] → (front b (take (suc n) ls) []).rest ≡ []
front_ended b n [] r e = not_cons e
front_ended b n (l ∷ ls) r e = refl

rest_cut : (t : List ℕ) (n : ℕ) → (split_lines t).rest ≡ [] → (split_lines (cut t n)).rest ≡ []
unfolding split_lines cut
rest_cut [] zero e = refl
rest_cut [] (suc n) e = refl
rest_cut (b ∷ t) zero e = refl
rest_cut (b ∷ t) (suc n) e = go (eqb b LF) e (λ m h. rest_cut t m h)
  where
    go : (q : Bool) → (cond q (record { lines = [] ∷ lines t; rest = (split_lines t).rest }) (front b (lines t) (split_lines t).rest)).rest ≡ []
        → ((m : ℕ) → (split_lines t).rest ≡ [] → (split_lines (cut t m)).rest ≡ [])
        → (let s = split_lines (cut t (cond q n (suc n))) in cond q (record { lines = [] ∷ s.lines; rest = s.rest }) (front b s.lines s.rest)).rest ≡ []
    go true e ih = ih n e
    go false e ih =
        ap (λ l. (front b l (split_lines (cut t (suc n))).rest).rest) (lines_cut t (suc n))
        ∙ ap (λ r. (front b (take (suc n) (lines t)) r).rest) (ih (suc n) (front_rest b (lines t) (split_lines t).rest e))
        ∙ front_ended b n (lines t) (split_lines t).rest e

-- the whole text is the text cut after its last line
pub cut_all : (t : List ℕ) → (split_lines t).rest ≡ [] → cut t (length (lines t)) ≡ t
unfolding split_lines cut
cut_all [] e = refl
cut_all (b ∷ t) e = go (eqb b LF) refl e (cut_all t)
  where
    go : (q : Bool) → eqb b LF ≡ q → (cond q (record { lines = [] ∷ lines t; rest = (split_lines t).rest }) (front b (lines t) (split_lines t).rest)).rest ≡ []
        → ((split_lines t).rest ≡ [] → cut t (length (lines t)) ≡ t)
        → cut (b ∷ t) (length (cond q (record { lines = [] ∷ lines t; rest = (split_lines t).rest }) (front b (lines t) (split_lines t).rest)).lines) ≡ b ∷ t
    go true h e ih = rw h (ap {B = List ℕ} (λ u. b ∷ u) (ih e))
    go false h e ih = more (lines t) (split_lines t).rest e (ih (front_rest b (lines t) (split_lines t).rest e))
      where
        more : (ls : List (List ℕ)) (r : List ℕ) → (front b ls r).rest ≡ [] → cut t (length ls) ≡ t → cut (b ∷ t) (length (front b ls r).lines) ≡ b ∷ t
        more [] r e c = not_cons e
        more (l ∷ ls) r e c = rw h (ap {B = List ℕ} (λ u. b ∷ u) c)

-- ---- the line finder

cut_none : (t : List ℕ) → cut t 0 ≡ []
unfolding cut
cut_none [] = refl
cut_none (b ∷ t) = refl

-- one line more
cut_next : (t : List ℕ) (n : ℕ) → n < length (lines t) → cut t (suc n) ≡ cut t n ++ (get_or (lines t) n [] ++ LF ∷ [])
unfolding split_lines cut
cut_next [] n h = absurd (let x : ⊥ = omega arith in x)
cut_next (b ∷ t) n h = go n (eqb b LF) refl h (λ m k. cut_next t m k)
  where
    Next : ℕ → List (List ℕ) → List ℕ → Type 0
    Next n ls u = cut u (suc n) ≡ cut u n ++ (get_or ls n [] ++ LF ∷ [])

    feed : (n : ℕ) → eqb b LF ≡ true → n < suc (length (lines t)) → ((m : ℕ) → m < length (lines t) → Next m (lines t) t) → Next n ([] ∷ lines t) (b ∷ t)
    feed zero q h ih = rw (q, cut_none t) (ap {B = List ℕ} (λ x. x ∷ []) (eqb-true b LF q))
    feed (suc m) q h ih = rw q (ap {B = List ℕ} (λ u. b ∷ u) (ih m (le_of_suc-le-suc h)))

    other : (n : ℕ) (ls : List (List ℕ)) (r : List ℕ) → eqb b LF ≡ false → n < length (front b ls r).lines → ((m : ℕ) → m < length ls → Next m ls t) → Next n (front b ls r).lines (b ∷ t)
    other n [] r q h ih = absurd (let x : ⊥ = omega arith in x)
    other zero (l ∷ ls) r q h ih = rw q (ap {B = List ℕ} (λ u. b ∷ u) (ih 0 h ∙ ap (λ u. u ++ (l ++ LF ∷ [])) (cut_none t)))
    other (suc m) (l ∷ ls) r q h ih = rw q (ap {B = List ℕ} (λ u. b ∷ u) (ih (suc m) h))

    go : (n : ℕ) (q : Bool) → eqb b LF ≡ q → n < length (cond q (record { lines = [] ∷ lines t; rest = (split_lines t).rest }) (front b (lines t) (split_lines t).rest)).lines
        → ((m : ℕ) → m < length (lines t) → Next m (lines t) t)
        → Next n (cond q (record { lines = [] ∷ lines t; rest = (split_lines t).rest }) (front b (lines t) (split_lines t).rest)).lines (b ∷ t)
    go n true q h ih = feed n q h ih
    go n false q h ih = other n (lines t) (split_lines t).rest q h ih

-- no line has an LF in it
abbrev Plain : List ℕ → Type 0
Plain l = All (λ b. b ≡ LF → ⊥) l

lines_plain : (t : List ℕ) → All Plain (lines t)
unfolding split_lines
lines_plain [] = tt
lines_plain (b ∷ t) = go (eqb b LF) refl (lines_plain t)
  where
    other : (ls : List (List ℕ)) (r : List ℕ) → (b ≡ LF → ⊥) → All Plain ls → All Plain (front b ls r).lines
    other [] r n p = tt
    other (l ∷ ls) r n p = ((n, p.0), p.1)

    go : (q : Bool) → eqb b LF ≡ q → All Plain (lines t) → All Plain (cond q (record { lines = [] ∷ lines t; rest = (split_lines t).rest }) (front b (lines t) (split_lines t).rest)).lines
    go true q p = (tt, p)
    go false q p = other (lines t) (split_lines t).rest (eqb-false b LF q) p

plain_at : (ls : List (List ℕ)) (n : ℕ) → All Plain ls → Plain (get_or ls n [])
plain_at [] n p = tt
plain_at (l ∷ ls) zero p = p.0
plain_at (l ∷ ls) (suc n) p = plain_at ls n p.1

-- as many lines as LFs
lines_feeds : (t : List ℕ) → length (lines t) ≡ feeds t
unfolding split_lines
lines_feeds [] = refl
lines_feeds (b ∷ t) = go (eqb b LF) (lines_feeds t)
  where
    front_long : (ls : List (List ℕ)) (r : List ℕ) → length (front b ls r).lines ≡ length ls
    front_long [] r = refl
    front_long (l ∷ ls) r = refl

    go : (q : Bool) → length (lines t) ≡ feeds t
        → length (cond q (record { lines = [] ∷ lines t; rest = (split_lines t).rest }) (front b (lines t) (split_lines t).rest)).lines ≡ cond q (suc (feeds t)) (feeds t)
    go true e = ap suc e
    go false e = front_long (lines t) (split_lines t).rest ∙ e

-- a text with fewer LFs is cut nowhere
pub cut_past : (t : List ℕ) (n : ℕ) → feeds t < n → cut t n ≡ t
unfolding cut
cut_past [] n h = refl
cut_past (b ∷ t) zero h = absurd (let x : ⊥ = omega arith in x)
cut_past (b ∷ t) (suc n) h = ap {B = List ℕ} (λ u. b ∷ u) (go (eqb b LF) h (cut_past t))
  where
    go : (q : Bool) → cond q (suc (feeds t)) (feeds t) < suc n → ((m : ℕ) → feeds t < m → cut t m ≡ t) → cut t (cond q n (suc n)) ≡ t
    go true h ih = ih n (le_of_suc-le-suc h)
    go false h ih = ih (suc n) h

cut_start : (t : List ℕ) → cut t 0 ≡ []
unfolding cut
cut_start [] = refl
cut_start (b ∷ t) = refl

cut_begins : (t : List ℕ) (n : ℕ) → take (length (cut t n)) t ≡ cut t n
unfolding cut
cut_begins [] n = refl
cut_begins (b ∷ t) zero = refl
cut_begins (b ∷ t) (suc n) = ap {B = List ℕ} (λ u. b ∷ u) (cut_begins t (cond (eqb b LF) n (suc n)))

pub line_at_lem : (t : List ℕ) → LineAt t
unfolding line_at
line_at_lem t = record { count = lines_feeds t; none = refl; start = cut_start t; begins = cut_begins t; within = cut_next t; past = past; plain = plain }
  where
    past : (n : ℕ) → length (lines t) < n → line_at t n ≡ []
    past zero h = refl
    past (suc n) h = get_or-eq_default (lines t) [] (omega arith)

    plain : (n : ℕ) → Plain (line_at t n)
    plain zero = tt
    plain (suc n) = plain_at (lines t) n (lines_plain t)

-- ---- a text that 5 does not refuse

empty_nil : (r : List ℕ) → empty r ≡ true → r ≡ []
empty_nil [] e = refl
empty_nil (b ∷ r) e = never (sym e)

narrow_take : (n : ℕ) (ls : List (List ℕ)) → narrow ls ≡ true → narrow (take n ls) ≡ true
narrow_take zero ls e = refl
narrow_take (suc n) [] e = refl
narrow_take (suc n) (l ∷ ls) e = let h = and_both (leb (length l) 120) (narrow ls) e in and_yes h.0 (narrow_take n ls h.1)

pub record Shape (t : List ℕ) : Type 0 where
  pub few : length (lines t) ≤ 256
  pub slim : narrow (lines t) ≡ true
  pub ended : (split_lines t).rest ≡ []

pub shape_of : (t : List ℕ) → shaped (split_lines t) ≡ true → Shape t
shape_of t e =
    let h = and_both (leb (length (lines t)) 256) (narrow (lines t) && empty (split_lines t).rest) e in
    let k = and_both (narrow (lines t)) (empty (split_lines t).rest) h.1 in
    record { few = leb-true _ _ h.0; slim = k.0; ended = empty_nil (split_lines t).rest k.1 }

is_shaped : (s : Split) → length s.lines ≤ 256 → narrow s.lines ≡ true → s.rest ≡ [] → shaped s ≡ true
is_shaped s h k e = and_yes (le-leb _ _ h) (and_yes k (ap empty e))

shaped_cut : (t : List ℕ) (n : ℕ) → Shape t → shaped (split_lines (cut t n)) ≡ true
shaped_cut t n h =
    is_shaped (split_lines (cut t n)) (few (lines (cut t n)) (lines_cut t n)) (ap narrow (lines_cut t n) ∙ narrow_take n (lines t) h.slim) (rest_cut t n h.ended)
  where
    few : (l : List (List ℕ)) → l ≡ take n (lines t) → length l ≤ 256
    few l e = omega (arith, ap length e, length-take n (lines t))

-- ---- what reads as a sheet

-- a line that was read, and the lines after it
pub then_sheet : (n : ℕ) (r : Res Taken) (rest : Seen → Read) {ls : List Line} → then_read n r rest ≡ sheet ls
    → (t : Taken) × (ls' : List Line) × (r ≡ ok t) × (rest t.seen ≡ sheet ls') × (ls ≡ t.line ∷ ls')
then_sheet n (ok t) rest {ls} e = go (rest t.seen) refl e
  where
    go : (x : Read) → rest t.seen ≡ x → prepend t.line x ≡ sheet ls → (t' : Taken) × (ls' : List Line) × (ok t ≡ ok t') × (rest t'.seen ≡ sheet ls') × (ls ≡ t'.line ∷ ls')
    go (sheet ls') h k = (t, ls', refl, h, cc)
    go (no_sheet a b) h k = not_sheet k
then_sheet n (stop k) rest e = not_sheet e

-- a line that was read is inside the grammar, and admitted
pub one_read : (s : Seen) (b : List ℕ) (t : Taken) → read_one s b ≡ ok t → (read_line b ≡ ok t.line) × (admit s t.line ≡ ok t.seen)
unfolding read_one
one_read s b t e =
    let h = bind_ok (read_line b) _ e in
    let k = bind_ok (admit s h.0) _ h.2 in
    subst (λ (t : Taken). (read_line b ≡ ok t.line) × (admit s t.line ≡ ok t.seen)) (ok_same k.2) (h.1, k.1)

read_lines_take : (m n : ℕ) (s : Seen) (bs : List (List ℕ)) {ls : List Line} → read_lines n s bs ≡ sheet ls → read_lines n s (take m bs) ≡ sheet (take m ls)
unfolding read_lines
read_lines_take zero n s bs e = refl
read_lines_take (suc m) n s [] {ls} e = let h : ls ≡ [] = cc in rw h refl
read_lines_take (suc m) n s (b ∷ bs) {ls} e =
    let h = then_sheet n (read_one s b) (λ s'. read_lines (suc n) s' bs) e in
    let k = read_lines_take m (suc n) h.0.seen bs h.3 in
    rw h.2 (rw k (ap (λ x. sheet (take (suc m) x)) (sym h.4)))

read_lines_length : (n : ℕ) (s : Seen) (bs : List (List ℕ)) {ls : List Line} → read_lines n s bs ≡ sheet ls → length ls ≡ length bs
unfolding read_lines
read_lines_length n s [] {ls} e = let h : ls ≡ [] = cc in rw h refl
read_lines_length n s (b ∷ bs) {ls} e =
    let h = then_sheet n (read_one s b) (λ s'. read_lines (suc n) s' bs) e in
    rw h.4 (ap suc (read_lines_length (suc n) h.0.seen bs h.3))

read_lines_at : (n m : ℕ) (s : Seen) (bs : List (List ℕ)) (d : Line) {ls : List Line} → read_lines m s bs ≡ sheet ls → n < length bs → read_line (get_or bs n []) ≡ ok (get_or ls n d)
unfolding read_lines
read_lines_at n m s [] d e h = absurd (let x : ⊥ = omega arith in x)
read_lines_at zero m s (b ∷ bs) d e h =
    let k = then_sheet m (read_one s b) (λ s'. read_lines (suc m) s' bs) e in
    (one_read s b k.0 k.2).0 ∙ ap (λ (x : List Line). ok (get_or x 0 d)) (sym k.4)
read_lines_at (suc n) m s (b ∷ bs) d e h =
    let k = then_sheet m (read_one s b) (λ s'. read_lines (suc m) s' bs) e in
    read_lines_at n (suc m) k.0.seen bs d k.3 (le_of_suc-le-suc h) ∙ ap (λ (x : List Line). ok (get_or x (suc n) d)) (sym k.4)

-- a text that reads as a sheet is in shape, and its lines are read one after the other
pub record Reads (t : List ℕ) (ls : List Line) : Type 0 where
  pub shape : Shape t
  pub by_lines : read_lines 1 nothing_seen (lines t) ≡ sheet ls

pub reads : (t : List ℕ) {ls : List Line} → read t ≡ sheet ls → Reads t ls
unfolding read
reads t {ls} e = go (shaped (split_lines t)) refl e
  where
    go : (q : Bool) → shaped (split_lines t) ≡ q → cond q (read_lines 1 nothing_seen (lines t)) (no_sheet misshapen 0) ≡ sheet ls → Reads t ls
    go true h k = record { shape = shape_of t h; by_lines = k }
    go false h k = not_sheet k

pub read_cut : (t : List ℕ) (n : ℕ) {ls : List Line} → read t ≡ sheet ls → read (cut t n) ≡ sheet (take n ls)
unfolding read
read_cut t n e =
    let h = reads t e in
    ap (λ q. cond q (read_lines 1 nothing_seen (lines (cut t n))) (no_sheet misshapen 0)) (shaped_cut t n h.shape)
    ∙ ap (read_lines 1 nothing_seen) (lines_cut t n)
    ∙ read_lines_take n 1 nothing_seen (lines t) h.by_lines

pub read_length : (t : List ℕ) {ls : List Line} → read t ≡ sheet ls → length ls ≡ length (lines t)
read_length t e = read_lines_length 1 nothing_seen (lines t) (reads t e).by_lines

pub read_whole : (t : List ℕ) {ls : List Line} → read t ≡ sheet ls → cut t (length ls) ≡ t
read_whole t e = ap (cut t) (read_length t e) ∙ cut_all t (reads t e).shape.ended

-- the line finder's line n + 1 reads as the line n + 1 of the sheet
pub read_line_at : (t : List ℕ) (n : ℕ) (d : Line) {ls : List Line} → read t ≡ sheet ls → n < length ls → read_line (line_at t (suc n)) ≡ ok (get_or ls n d)
unfolding line_at
read_line_at t n d e h = read_lines_at n 1 nothing_seen (lines t) d (reads t e).by_lines (omega (arith, read_length t e))
