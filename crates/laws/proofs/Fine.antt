-- What is read is fine: its registers are there, its literals are from MIN to MAX, no LO is past its HI; and each register has at most one `in`, none of them after another kind.
-- The reader's own tests say it. Assumes nothing.
use lib.Dec.{eqb}
use lib.IntN.{ℤ}
use lib.ListN.{length, get_or, drop}
use lib.Signed.{lt_z}
use mathlib.Core.Path.{◌≡◌, refl, sym, ap, ◌∙◌, subst}
use mathlib.Core.Bool.{Bool, true, false, cond, ◌||◌}
use mathlib.Core.List.{List, [], ◌∷◌}
use Prim.Native.Nat.{ℕ, suc, ◌+◌, ◌<◌}
use Prim.Native.Char.{code}
use borrow.Author.Tests.{not-false, eq-eqb}
use Rattle.meaning.specs.Refusals.{ungrammatical, far_literal, misplaced}
use Rattle.meaning.specs.Lists.{All}
use Rattle.meaning.specs.Bytes.{bytes}
use Rattle.meaning.specs.Outcome.{ok, stop}
use Rattle.meaning.specs.Number.{MIN, MAX, within, InRange}
use Rattle.meaning.specs.Sheet.{registers, Form, Act, put, hold, Line, input, act, beyond, far_form, far_act, far_line, crossed_act, crossed_line, FineForm, FineRange, FineAct, FineLine}
use Rattle.meaning.specs.Reading.{Got, got, bad, map_got, and_then, byte, closed, begins, literal, register, arg, tree, on_register, bounds, value, act_of, line_of, whole_line, judged, read_line}
use Rattle.meaning.specs.Text.{Seen, nothing_seen, among, admit, sheet, read_one, read_lines, read, lines}
use Rattle.meaning.specs.ReadLaws.{NotIn, NotInOf, OneIn, ReadLaws}
use Rattle.laws.proofs.Integers.{zarith, clash, or_none, or_left, or_right, from_within}
use Rattle.laws.proofs.Work.{not_stop, ok_same, unless_ok}
use Rattle.laws.proofs.Fusion.{far_algebra, Related, register_below, rel_arg}
use Rattle.laws.proofs.Cut.{then_sheet, one_read, reads, read_cut, read_length, read_whole, lines_cut, line_at_lem}

-- ---- a property of what is read, if anything is

abbrev Gives : {A : Type 0} → (A → Type 0) → Got A → Type 0
Gives P (got a n) = P a
Gives P bad = Unit {0}

gives_cond : {A : Type 0} (P : A → Type 0) (t : Bool) (g h : Got A) → Gives P g → Gives P h → Gives P (cond t g h)
gives_cond P true g h p q = p
gives_cond P false g h p q = q

gives_byte : {A : Type 0} (P : A → Type 0) (s : List ℕ) (i b : ℕ) (g : Got A) → Gives P g → Gives P (byte s i b g)
gives_byte P s i b g p = gives_cond P (eqb (get_or s i 0) b) g bad p tt

gives_closed : {A : Type 0} (P : A → Type 0) (s : List ℕ) (i : ℕ) (a : A) → P a → Gives P (closed s i a)
unfolding closed
gives_closed P s i a p = gives_byte P s i (code ")") (got a (i + 1)) p

gives_then : {A B : Type 0} (P : A → Type 0) (Q : B → Type 0) (g : Got A) (k : A → ℕ → Got B) → Gives P g → ((a : A) (n : ℕ) → P a → Gives Q (k a n)) → Gives Q (and_then g k)
gives_then P Q (got a n) k p h = h a n p
gives_then P Q bad k p h = tt

gives_any : {A B : Type 0} (Q : B → Type 0) (g : Got A) (k : A → ℕ → Got B) → ((a : A) (n : ℕ) → Gives Q (k a n)) → Gives Q (and_then g k)
gives_any Q (got a n) k h = h a n
gives_any Q bad k h = tt

gives_map : {A B : Type 0} (Q : B → Type 0) (f : A → B) (g : Got A) → Gives (λ a. Q (f a)) g → Gives Q (map_got f g)
gives_map Q f (got a n) p = p
gives_map Q f bad p = tt

gives_register : (t : List ℕ) → Gives (λ r. r < registers) (register t)
gives_register t = go (register t) refl
  where
    go : (g : Got ℕ) → register t ≡ g → Gives (λ r. r < registers) g
    go (got r n) e = register_below t e
    go bad e = tt

gives_on_register : {A : Type 0} (P : A → Type 0) (s : List ℕ) (i : ℕ) (rest : ℕ → ℕ → Got A) → ((r n : ℕ) → r < registers → Gives P (rest r n)) → Gives P (on_register s i rest)
gives_on_register P s i rest h =
    gives_then (λ r. r < registers) P (register (drop i s)) (λ r n. byte s (i + n) (code " ") (rest r (i + n + 1))) (gives_register (drop i s))
    (λ r n b. gives_byte P s (i + n) (code " ") (rest r (i + n + 1)) (h r (i + n + 1) b))

-- ---- forms

inside_range : (z : ℤ) → beyond z ≡ false → InRange z
inside_range z e = from_within MIN z MAX (not-false (within MIN z MAX) e)

abbrev FormFine : Form → Type 0
FormFine e = far_form e ≡ false → FineForm e

gives_arg : (d : ℕ) (s : List ℕ) → Gives FormFine (arg tree d s)
unfolding far_form FineForm
gives_arg d s =
    left (arg tree d s) (arg far_algebra d s)
    (rel_arg (λ e b. FormFine e) tree far_algebra (λ z. inside_range z) (λ r h _. h) (λ o a b h. h)
    (λ o a a' b b' h h' e. let k = or_none (far_form a) (far_form a') e in (h k.0, h' k.1)) d s)
  where
    left : (g : Got Form) (g' : Got Bool) → Related (λ e b. FormFine e) g g' → Gives FormFine g
    left (got e n) (got b m) h = h.0
    left (got e n) bad h = absurd h
    left bad g' h = tt

-- ---- lines

fine_range : (r : ℕ) (lo hi : ℤ) → r < registers → (beyond lo || beyond hi) ≡ false → lt_z hi lo ≡ false → FineRange r lo hi
fine_range r lo hi h e f =
    let k = or_none (beyond lo) (beyond hi) e in
    record { there = h; lo_fits = inside_range lo k.0; hi_fits = inside_range hi k.1; ordered = omega zarith }

gives_bounds : {A : Type 0} (P : A → Type 0) (make : ℤ → ℤ → A) (s : List ℕ) (i : ℕ) → ((lo hi : ℤ) → P (make lo hi)) → Gives P (bounds make s i)
unfolding bounds
gives_bounds P make s i h =
    gives_any P (literal (drop i s)) (λ lo n. byte s (i + n) (code " ") (and_then (literal (drop (i + n + 1) s)) (λ hi m. closed s (i + n + 1 + m) (make lo hi))))
    (λ lo n. gives_byte P s (i + n) (code " ") (and_then (literal (drop (i + n + 1) s)) (λ hi m. closed s (i + n + 1 + m) (make lo hi)))
    (gives_any P (literal (drop (i + n + 1) s)) (λ hi m. closed s (i + n + 1 + m) (make lo hi)) (λ hi m. gives_closed P s (i + n + 1 + m) (make lo hi) (h lo hi))))

abbrev ActFine : Act → Type 0
ActFine a = far_act a ≡ false → crossed_act a ≡ false → FineAct a

gives_put : (d : ℕ) (s : List ℕ) (r i : ℕ) → r < registers → Gives ActFine (value tree (put r) d s i)
unfolding value far_act FineAct
gives_put d s r i h =
    gives_then FormFine ActFine (arg tree d (drop i s)) (λ e n. closed s (i + n) (put r e)) (gives_arg d (drop i s))
    (λ e n f. gives_closed ActFine s (i + n) (put r e) (λ p _. (h, f p)))

gives_hold : (s : List ℕ) (r i : ℕ) → r < registers → Gives ActFine (bounds (hold r) s i)
unfolding far_act crossed_act FineAct
gives_hold s r i h = gives_bounds ActFine (hold r) s i (λ lo hi. fine_range r lo hi h)

gives_act : (d : ℕ) (s : List ℕ) → Gives ActFine (act_of d s)
unfolding act_of
gives_act d s =
    gives_cond ActFine (begins (bytes "(put ") s) (on_register s 5 (λ r i. value tree (put r) d s i))
    (cond (begins (bytes "(hold ") s) (on_register s 6 (λ r i. bounds (hold r) s i)) bad)
    (gives_on_register ActFine s 5 (λ r i. value tree (put r) d s i) (λ r i h. gives_put d s r i h))
    (gives_cond ActFine (begins (bytes "(hold ") s) (on_register s 6 (λ r i. bounds (hold r) s i)) bad
    (gives_on_register ActFine s 6 (λ r i. bounds (hold r) s i) (λ r i h. gives_hold s r i h)) tt)

abbrev LineFine : Line → Type 0
LineFine l = far_line l ≡ false → crossed_line l ≡ false → FineLine l

gives_line : (d : ℕ) (s : List ℕ) → Gives LineFine (line_of d s)
unfolding line_of far_line crossed_line FineLine
gives_line d s =
    gives_cond LineFine (begins (bytes "(in ") s) (on_register s 4 (λ r i. bounds (input r) s i)) (map_got act (act_of d s))
    (gives_on_register LineFine s 4 (λ r i. bounds (input r) s i) (λ r i h. gives_bounds LineFine (input r) s i (λ lo hi. fine_range r lo hi h)))
    (gives_map LineFine act (act_of d s) (gives_act d s))

pub read_line_fine : (s : List ℕ) {l : Line} → read_line s ≡ ok l → FineLine l
unfolding read_line judged whole_line
read_line_fine s {l} e = go (line_of 7 s) (gives_line 7 s) e
  where
    whole : (t : Bool) (k : Line) → LineFine k → judged (cond t (ok k) (stop ungrammatical)) ≡ ok l → FineLine l
    whole true k f e =
        let a = unless_ok (far_line k) far_literal _ e in
        let b = unless_ok (crossed_line k) ungrammatical (ok k) a.1 in
        subst FineLine (ok_same b.1) (f a.0 b.0)
    whole false k f e = not_stop e

    go : (g : Got Line) → Gives LineFine g → judged (whole_line s g) ≡ ok l → FineLine l
    go (got k n) f e = whole (eqb n (length s)) k f e
    go bad f e = not_stop e

-- ---- all lines

read_lines_fine : (n : ℕ) (s : Seen) (bs : List (List ℕ)) {ls : List Line} → read_lines n s bs ≡ sheet ls → All FineLine ls
unfolding read_lines
read_lines_fine n s [] {ls} e = let h : ls ≡ [] = cc in rw h tt
read_lines_fine n s (b ∷ bs) {ls} e =
    let h = then_sheet n (read_one s b) (λ s'. read_lines (suc n) s' bs) e in
    rw h.4 (read_line_fine b (one_read s b h.0 h.2).0, read_lines_fine (suc n) h.0.seen bs h.3)

pub read_fine : (t : List ℕ) {ls : List Line} → read t ≡ sheet ls → All FineLine ls
read_fine t e = read_lines_fine 1 nothing_seen (lines t) (reads t e).by_lines

-- ---- at most one `in`

-- what follows lines of which s is remembered
record Fresh (s : Seen) (ls : List Line) : Type 0 where
  after_other : s.other ≡ true → All NotIn ls
  after_in : (q : ℕ) → among q s.taken ≡ true → All (NotInOf q) ls
  one : OneIn ls

fresh_cons : (s s' : Seen) (l : Line) (ls : List Line) → admit s l ≡ ok s' → Fresh s' ls → Fresh s (l ∷ ls)
unfolding admit
fresh_cons s s' (input r lo hi) ls e h =
    let k = unless_ok (s.other || among r s.taken) misplaced _ e in
    let o = or_none s.other (among r s.taken) k.0 in
    let f = subst (λ (x : Seen). Fresh x ls) (sym (ok_same k.1)) h in
    record {
      after_other = λ p. clash p o.0;
      after_in = λ q p. (λ w. clash p (ap (λ (x : ℕ). among x s.taken) w ∙ o.1), f.after_in q (or_right (eqb q r) p));
      one = (f.after_in r (or_left (among r s.taken) (eq-eqb r r refl)), f.one);
    }
fresh_cons s s' (act a) ls e h =
    let f = subst (λ (x : Seen). Fresh x ls) (sym (ok_same e)) h in
    record { after_other = λ p. (tt, f.after_other refl); after_in = λ q p. (tt, f.after_in q p); one = (f.after_other refl, f.one) }

read_lines_fresh : (n : ℕ) (s : Seen) (bs : List (List ℕ)) {ls : List Line} → read_lines n s bs ≡ sheet ls → Fresh s ls
unfolding read_lines
read_lines_fresh n s [] {ls} e = let h : ls ≡ [] = cc in rw h (record { after_other = λ p. tt; after_in = λ q p. tt; one = tt })
read_lines_fresh n s (b ∷ bs) {ls} e =
    let h = then_sheet n (read_one s b) (λ s'. read_lines (suc n) s' bs) e in
    rw h.4 (fresh_cons s h.0.seen h.0.line h.1 (one_read s b h.0 h.2).1 (read_lines_fresh (suc n) h.0.seen bs h.3))

pub one_in : (t : List ℕ) {ls : List Line} → read t ≡ sheet ls → OneIn ls
one_in t e = (read_lines_fresh 1 nothing_seen (lines t) (reads t e).by_lines).one

-- ---- the laws of reading, together

pub read_laws : ReadLaws
read_laws = record {
  line_at_lem = line_at_lem;
  lines_cut = lines_cut;
  read_cut = λ t n ls e. read_cut t n e;
  read_length = λ t ls e. read_length t e;
  read_whole = λ t ls e. read_whole t e;
  read_fine = λ t ls e. read_fine t e;
  one_in = λ t ls e. one_in t e;
}
