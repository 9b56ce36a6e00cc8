-- The page reads back: its lines are those of its rows, each reads as its row, and the rows of a register are its set. Assumes nothing.
use lib.Dec.{eqb}
use lib.IntN.{ℤ, pos, ◌-ℤ◌}
use lib.ListN.{length, length-append}
use mathlib.Core.Path.{◌≡◌, refl, sym, ap, ◌∙◌, subst}
use mathlib.Core.Bool.{Bool, true, false, cond}
use mathlib.Core.Logic.{◌⊎◌, inl, inr}
use mathlib.Core.List.{List, [], ◌∷◌, ◌++◌, map, append-nil}
use Prim.Native.Nat.{ℕ, zero, suc, ◌+◌, ◌*◌, ◌^◌, ◌≤◌, ◌<◌}
use native.Mathlib.Omega.{arith}
use borrow.Author.Tests.{eqb-true, eqb-false, ne_eqb}
use Rattle.meaning.specs.Lists.{All}
use Rattle.meaning.specs.Bytes.{LF}
use Rattle.meaning.specs.Outcome.{Outcome, done, stopped}
use Rattle.meaning.specs.Interval.{Interval, Proper, only}
use Rattle.meaning.specs.NumberIntervals.{Set, ◌∈◌, Normal}
use Rattle.meaning.specs.Sheet.{registers, Line}
use Rattle.meaning.specs.Text.{Split, split_byte, split_lines, lines, Read, sheet, no_sheet, read}
use Rattle.meaning.specs.Run.{worked, judge}
use Rattle.meaning.specs.Check.{Bands, at, check, interval_limit, text_by}
use Rattle.meaning.specs.Composing.{Composed, text, by_check, by_read, if_passed}
use Rattle.meaning.specs.Listing.{listed}
use Rattle.laws.proofs.Integers.{up, zarith, by_test, cond_case, if_yes, if_no, clash, add_parts, sub_parts, suc_parts, one_part, eq_out, ≤ℤ_trans}
use Rattle.laws.proofs.All.{all_map, all_append}
use Rattle.laws.proofs.Lists.{get_d_there}
use Rattle.laws.proofs.Members.{between, not_in_none}
use Rattle.laws.proofs.CheckSets.{passed_sound}
use Rattle.meaning.specs.Page.{Row, row, member_count, set_rows, register_rows, page_rows, row_line, rows_text, page_text, page}
use Rattle.meaning.specs.PageReadBack.{read_row, read_page, set_read, Ruled, RightRow, Ordered, intervals_listed, ReadsBack, PageReadsBack, longest_page, PageMost, SamePage}
use Rattle.laws.proofs.PageColumns.{Shown, Roomy, length_line, line_ruled, line_shown, line_reads}

-- ---- the lines of a text of lines

split_line : (x y : List ℕ) → All Shown x → split_lines (x ++ LF ∷ y) ≡ record { lines = x ∷ lines y; rest = (split_lines y).rest }
unfolding split_lines
split_line [] y p = refl
split_line (b ∷ x) y p =
    ap (split_byte b) (split_line x y p.1)
    ∙ sym (if_no (record { lines = [] ∷ (x ∷ lines y); rest = (split_lines y).rest }) (record { lines = (b ∷ x) ∷ lines y; rest = (split_lines y).rest }) (ne_eqb b 10 (λ e. omega (arith, p.0))))

-- ---- rows

pub length_rows : (r : ℕ) (s : Set) → length (set_rows r s) ≡ length s
unfolding set_rows
length_rows r [] = refl
length_rows r (i ∷ s) = ap suc (length_rows r s)

lines_text : (ws : List Row) → All Roomy ws → split_lines (rows_text ws) ≡ record { lines = map row_line ws; rest = [] }
unfolding rows_text split_lines
lines_text [] p = refl
lines_text (w ∷ ws) p = split_line (row_line w) (rows_text ws) (line_shown w p.0) ∙ ap (λ (s : Split). record { lines = row_line w ∷ s.lines; rest = s.rest }) (lines_text ws p.1)

lines_ruled : (ws : List Row) → All Roomy ws → All Ruled (map row_line ws)
lines_ruled [] p = tt
lines_ruled (w ∷ ws) p = (line_ruled w p.0, lines_ruled ws p.1)

lines_read : (ws : List Row) → All Roomy ws → map read_row (map row_line ws) ≡ ws
lines_read [] p = refl
lines_read (w ∷ ws) p = λ i. line_reads w p.0 i ∷ lines_read ws p.1 i

lines_again : (ws : List Row) → All Roomy ws → All (λ l. row_line (read_row l) ≡ l) (map row_line ws)
lines_again [] p = tt
lines_again (w ∷ ws) p = (ap row_line (line_reads w p.0), lines_again ws p.1)

pub length_text : (ws : List Row) → All Roomy ws → length (rows_text ws) ≡ 73 * length ws
unfolding rows_text
length_text [] p = refl
length_text (w ∷ ws) p = length-append (row_line w) (LF ∷ rows_text ws) ∙ omega (arith, length_line w p.0, length_text ws p.1)

pub read_rows : (ws : List Row) → All Roomy ws → read_page (rows_text ws) ≡ ws
unfolding read_page
read_rows ws p = ap (λ (s : Split). map read_row s.lines) (lines_text ws p) ∙ lines_read ws p

length_map : (ws : List Row) → length (map row_line ws) ≡ length ws
length_map [] = refl
length_map (w ∷ ws) = ap suc (length_map ws)

-- ---- the rows of a set

-- the count of an interval from MIN to MAX is from 1 to 2^64
count_of : (lo hi : ℤ) → Proper lo hi → member_count lo hi ≡ pos (up (member_count lo hi))
count_of lo hi p = eq_out (omega (zarith, p.low, p.ordered, p.high, sub_parts hi lo, add_parts (hi -ℤ lo) (pos 1), one_part (member_count lo hi)))

count_small : (lo hi : ℤ) → Proper lo hi → up (member_count lo hi) < 10 ^ 20
count_small lo hi p = omega (zarith, p.low, p.ordered, p.high, sub_parts hi lo, add_parts (hi -ℤ lo) (pos 1), one_part (member_count lo hi))

pub row_roomy : (r : ℕ) (i : Interval) → r < 100 → Proper i.lo i.hi → Roomy (row r i)
row_roomy r i h p = record {
  name = h;
  start_fits = between p.low (≤ℤ_trans p.ordered p.high);
  end_fits = between (≤ℤ_trans p.low p.ordered) p.high;
  count = up (member_count i.lo i.hi);
  members_is = count_of i.lo i.hi p;
  members_fit = count_small i.lo i.hi p;
}

pub set_roomy : (r : ℕ) (s : Set) → r < 100 → Normal s → All Roomy (set_rows r s)
unfolding set_rows
set_roomy r [] h n = tt
set_roomy r (i ∷ s) h n = (row_roomy r i h n.0, set_roomy r s h n.2)

-- they give register r the set, and another register nothing
set_read_lem : (r : ℕ) (s : Set) → set_read r (set_rows r s) ≡ s
unfolding set_rows set_read
set_read_lem r [] = refl
set_read_lem r (i ∷ s) = sym (if_yes (i ∷ set_read r (set_rows r s)) (set_read r (set_rows r s)) (eqb_same r)) ∙ ap (λ (x : Set). i ∷ x) (set_read_lem r s)
  where
    eqb_same : (r : ℕ) → eqb r r ≡ true
    eqb_same r = by_test (eqb r r) (λ t. t) (λ t. absurd (eqb-false r r t refl))

set_other : (q r : ℕ) (s : Set) → (q ≡ r → ⊥) → set_read q (set_rows r s) ≡ []
unfolding set_rows set_read
set_other q r [] h = refl
set_other q r (i ∷ s) h = sym (if_no (i ∷ set_read q (set_rows r s)) (set_read q (set_rows r s)) (ne_eqb q r h)) ∙ set_other q r s h

read_append : (r : ℕ) (a b : List Row) → set_read r (a ++ b) ≡ set_read r a ++ set_read r b
unfolding set_read
read_append r [] b = refl
read_append r (w ∷ a) b = go (eqb r w.register) (read_append r a b)
  where
    go : (t : Bool) → set_read r (a ++ b) ≡ set_read r a ++ set_read r b
        → cond t (record { lo = w.start; hi = w.end } ∷ set_read r (a ++ b)) (set_read r (a ++ b)) ≡ cond t (record { lo = w.start; hi = w.end } ∷ set_read r a) (set_read r a) ++ set_read r b
    go true e = ap (λ (x : Set). record { lo = w.start; hi = w.end } ∷ x) e
    go false e = e

-- ---- their order

set_ordered : (r : ℕ) (s : Set) → Normal s → Ordered (set_rows r s)
unfolding set_rows
set_ordered r [] n = tt
set_ordered r (i ∷ []) n = (tt, tt)
set_ordered r (i ∷ j ∷ s) n = (inr (refl, omega (zarith, n.1, suc_parts i.hi)), set_ordered r (j ∷ s) n.2)

set_same : (r : ℕ) (s : Set) → All (λ w. w.register ≡ r) (set_rows r s)
unfolding set_rows
set_same r [] = tt
set_same r (i ∷ s) = (refl, set_same r s)

ordered_append : (r : ℕ) (a b : List Row) → All (λ w. w.register ≡ r) a → All (λ w. r < w.register) b → Ordered a → Ordered b → Ordered (a ++ b)
ordered_append r [] b p q oa ob = ob
ordered_append r (v ∷ []) [] p q oa ob = (tt, tt)
ordered_append r (v ∷ []) (w ∷ b) p q oa ob = (inl (omega (arith, p.0, q.0)), ob)
ordered_append r (v ∷ w ∷ a) b p q oa ob = (oa.0, ordered_append r (w ∷ a) b p.1 q oa.1 ob)

-- ---- the rows of the registers from r on

module _ (ls : List Line) (S : List Set) (sound : (r : ℕ) → Normal (at S r)) where
  abbrev own : ℕ → List Row
  own r = cond (listed ls r) (set_rows r (at S r)) []

  rows_roomy : (r n : ℕ) → r + n ≤ 100 → All Roomy (register_rows ls S r n)
  unfolding register_rows
  rows_roomy r zero h = tt
  rows_roomy r (suc n) h =
      all_append Roomy (own r) (register_rows ls S (suc r) n)
      (cond_case (All Roomy) (listed ls r) (set_rows r (at S r)) [] (λ _. set_roomy r (at S r) (omega arith) (sound r)) (λ _. tt))
      (rows_roomy (suc r) n (omega arith))

  set_right : (r : ℕ) (s : Set) → r < registers → listed ls r ≡ true → All (RightRow ls) (set_rows r s)
  unfolding set_rows
  set_right r [] h t = tt
  set_right r (i ∷ s) h t = (record { there = h; has = t; counts = refl }, set_right r s h t)

  rows_right : (r n : ℕ) → r + n ≤ registers → All (RightRow ls) (register_rows ls S r n)
  unfolding register_rows
  rows_right r zero h = tt
  rows_right r (suc n) h =
      all_append (RightRow ls) (own r) (register_rows ls S (suc r) n)
      (cond_case (All (RightRow ls)) (listed ls r) (set_rows r (at S r)) [] (λ t. set_right r (at S r) (omega arith) t) (λ _. tt))
      (rows_right (suc r) n (omega arith))

  rows_from : (q r n : ℕ) → q < r → All (λ w. q < w.register) (register_rows ls S r n)
  unfolding register_rows set_rows
  rows_from q r zero h = tt
  rows_from q r (suc n) h =
      all_append (λ w. q < w.register) (own r) (register_rows ls S (suc r) n)
      (cond_case (All (λ w. q < w.register)) (listed ls r) (set_rows r (at S r)) [] (λ _. later (at S r)) (λ _. tt))
      (rows_from q (suc r) n (omega arith))
    where
      later : (s : Set) → All (λ w. q < w.register) (set_rows r s)
      later [] = tt
      later (i ∷ s) = (h, later s)

  rows_ordered : (r n : ℕ) → Ordered (register_rows ls S r n)
  unfolding register_rows
  rows_ordered r zero = tt
  rows_ordered r (suc n) =
      ordered_append r (own r) (register_rows ls S (suc r) n)
      (cond_case (All (λ w. w.register ≡ r)) (listed ls r) (set_rows r (at S r)) [] (λ _. set_same r (at S r)) (λ _. tt))
      (rows_from r (suc r) n (omega arith))
      (cond_case Ordered (listed ls r) (set_rows r (at S r)) [] (λ _. set_ordered r (at S r) (sound r)) (λ _. tt))
      (rows_ordered (suc r) n)

  rows_count : (r n : ℕ) → length (register_rows ls S r n) ≡ intervals_listed ls S r n
  unfolding register_rows intervals_listed
  rows_count r zero = refl
  rows_count r (suc n) = length-append (own r) (register_rows ls S (suc r) n) ∙ (λ i. own_count (listed ls r) i + rows_count (suc r) n i)
    where
      own_count : (t : Bool) → length (cond t (set_rows r (at S r)) []) ≡ cond t (length (at S r)) 0
      own_count true = length_rows r (at S r)
      own_count false = refl

  own_other : (q r : ℕ) → (q ≡ r → listed ls r ≡ false) → set_read q (own r) ≡ []
  unfolding set_read
  own_other q r h =
      cond_case (λ (l : List Row). set_read q l ≡ []) (listed ls r) (set_rows r (at S r)) [] (λ t. set_other q r (at S r) (λ e. clash t (h e))) (λ _. refl)

  -- a register that has no `in` and no `put`, or comes before all of these
  rows_none : (q r n : ℕ) → (q < r) ⊎ (listed ls q ≡ false) → set_read q (register_rows ls S r n) ≡ []
  unfolding register_rows set_read
  rows_none q r zero h = refl
  rows_none q r (suc n) h =
      read_append q (own r) (register_rows ls S (suc r) n) ∙ (λ i. own_other q r (not_own h) i ++ rows_none q (suc r) n (go h) i)
    where
      not_own : (q < r) ⊎ (listed ls q ≡ false) → q ≡ r → listed ls r ≡ false
      not_own (inl l) e = absurd (let x : ⊥ = omega arith in x)
      not_own (inr f) e = ap (listed ls) (sym e) ∙ f

      go : (q < r) ⊎ (listed ls q ≡ false) → (q < suc r) ⊎ (listed ls q ≡ false)
      go (inl l) = inl (omega arith)
      go (inr f) = inr f

  rows_set : (q r n : ℕ) → r ≤ q → q < r + n → listed ls q ≡ true → set_read q (register_rows ls S r n) ≡ at S q
  unfolding register_rows
  rows_set q r zero h k t = absurd (let x : ⊥ = omega arith in x)
  rows_set q r (suc n) h k t =
      read_append q (own r) (register_rows ls S (suc r) n)
      ∙ by_test (eqb q r)
      (λ b. let e = eqb-true q r b in
      (λ i. (ap (λ (x : ℕ). set_read x (own r)) e ∙ own_set (ap (listed ls) (sym e) ∙ t)) i ++ rows_none q (suc r) n (inl (omega arith)) i)
      ∙ append-nil (at S r)
      ∙ ap (at S) (sym e))
      (λ b. let e = eqb-false q r b in
      (λ i. own_other q r (λ p. absurd (e p)) i ++ rows_set q (suc r) n (omega arith) (omega arith) t i))
    where
      own_set : listed ls r ≡ true → set_read r (own r) ≡ at S r
      own_set u = ap (set_read r) (sym (if_yes (set_rows r (at S r)) [] u)) ∙ set_read_lem r (at S r)

-- a register of none of the rows
read_none : (q : ℕ) (ws : List Row) → All (λ w. q ≡ w.register → ⊥) ws → set_read q ws ≡ []
unfolding set_read
read_none q [] p = refl
read_none q (w ∷ ws) p = sym (if_no (record { lo = w.start; hi = w.end } ∷ set_read q ws) (set_read q ws) (ne_eqb q w.register p.0)) ∙ read_none q ws p.1

-- ---- the theorem

-- over any lines, and sets that are normal and not empty
pub reads_back : (ls : List Line) (S : List Set) → registers ≤ length S → ((r : ℕ) → Normal (at S r)) → ((r : ℕ) → (z : ℤ) × (z ∈ at S r)) → ReadsBack ls S (page_text ls S)
unfolding page_text page_rows
reads_back ls S h sound filled =
    let ws = register_rows ls S 0 registers in
    let p = rows_roomy ls S sound 0 registers (omega arith) in
    let e = read_rows ws p in
    let l = lines_text ws p in
    let c = rows_count ls S sound 0 registers in
    record {
      ended = ap (λ (s : Split). s.rest) l;
      ruled = subst (λ (s : Split). All Ruled s.lines) (sym l) (lines_ruled ws p);
      size = length_text ws p ∙ ap (λ (k : ℕ). 73 * k) c;
      count = ap (λ (s : Split). length s.lines) l ∙ length_map ws ∙ c;
      again = subst (λ (s : Split). All (λ l. row_line (read_row l) ≡ l) s.lines) (sym l) (lines_again ws p);
      rows = subst (All (RightRow ls)) (sym e) (rows_right ls S sound 0 registers (omega arith));
      ordered = subst Ordered (sym e) (rows_ordered ls S sound 0 registers);
      sets = λ r k t. ap (set_read r) e ∙ rows_set ls S sound r 0 registers (omega arith) (omega arith) t ∙ get_d_there S r (only (pos 0)) [] (omega arith);
      appears = λ r k t n.
          let m = filled r in
          let q = sym (rows_set ls S sound r 0 registers (omega arith) (omega arith) t) ∙ sym (ap (set_read r) e) ∙ n in
          not_in_none (subst (λ (s : Set). m.0 ∈ s) q m.1);
      others = λ r t. ap (set_read r) e ∙ unlisted r t;
    }
  where
    unlisted : (r : ℕ) → (listed ls r ≡ false) ⊎ (registers ≤ r) → set_read r (register_rows ls S 0 registers) ≡ []
    unlisted r (inl t) = rows_none ls S sound r 0 registers (inr t)
    unlisted r (inr h) =
        read_none r (register_rows ls S 0 registers)
        (all_map (RightRow ls) (λ w. r ≡ w.register → ⊥) (λ w p e. let x : ⊥ = omega (arith, p.there, e) in x) (register_rows ls S 0 registers) (rows_right ls S sound 0 registers (omega arith)))

pub page_reads_back : PageReadsBack
page_reads_back t ls n B e k =
    let s = passed_sound interval_limit t (omega arith) k in
    reads_back ls B.sets (omega (arith, s.size)) (λ r. (s.each r).normal) (λ r. (s.each r).filled)

-- ---- its length

intervals_most : (ls : List Line) (S : List Set) → ((r : ℕ) → length (at S r) ≤ interval_limit) → (r n : ℕ) → intervals_listed ls S r n ≤ interval_limit * n
unfolding intervals_listed
intervals_most ls S few r zero = omega arith
intervals_most ls S few r (suc n) =
    let own = cond_case (λ (k : ℕ). k ≤ interval_limit) (listed ls r) (length (at S r)) 0 (λ _. few r) (λ _. omega arith) in
    omega (arith, own, intervals_most ls S few (suc r) n)

pub page_most : PageMost
unfolding page if_passed text_by
page_most t x e = go (read t) refl e
  where
    whole : List Line → List Set → Composed
    whole ls S = text (page_text ls S)

    go : (y : Read) → read t ≡ y → by_read whole y ≡ text x → length x ≤ longest_page
    go (no_sheet k l) q p = let z : ◌≡◌ {A = ℕ} 0 1 = cc in absurd (let v : ⊥ = omega arith in v)
    go (sheet ls) q p = inner (check interval_limit ls) refl p
      where
        inner : (o : Outcome Bands) → check interval_limit ls ≡ o → by_check whole ls o ≡ text x → length x ≤ longest_page
        inner (stopped k l B) c p = let z : ◌≡◌ {A = ℕ} 0 1 = cc in absurd (let v : ⊥ = omega arith in v)
        inner (done B) c p =
            let w = ap (judge (check interval_limit)) q ∙ ap (worked (length ls)) c in
            let s = passed_sound interval_limit t (omega arith) w in
            let h : x ≡ page_text ls B.sets = cc in
            omega (arith, ap length h, (page_reads_back t ls (length ls) B q w).size, intervals_most ls B.sets (λ r. (s.each r).few) 0 registers)

-- ---- two pages

pub same_page : SamePage
same_page t t' ls ls' n n' B B' e k e' k' q r h = record { both = both; same = λ t. sym (mine.sets r h t) ∙ printed ∙ other.sets r h (sym both ∙ t) }
  where
    mine : ReadsBack ls B.sets (page_text ls B.sets)
    mine = page_reads_back t ls n B e k

    other : ReadsBack ls' B'.sets (page_text ls' B'.sets)
    other = page_reads_back t' ls' n' B' e' k'

    printed : set_read r (read_page (page_text ls B.sets)) ≡ set_read r (read_page (page_text ls' B'.sets))
    printed = ap (λ (p : List ℕ). set_read r (read_page p)) q

    go : (x y : Bool) → listed ls r ≡ x → listed ls' r ≡ y → x ≡ y
    go true true a b = refl
    go true false a b = absurd (mine.appears r h a (printed ∙ other.others r (inl b)))
    go false true a b = absurd (other.appears r h b (sym printed ∙ mine.others r (inl a)))
    go false false a b = refl

    both : listed ls r ≡ listed ls' r
    both = go (listed ls r) (listed ls' r) refl refl
