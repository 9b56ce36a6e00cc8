-- Demand 3 (meaning/specs/Demand3.antt) from demand 2: where the check passes a line and each register's number is in its set, the run passes that line and each number is in its set again;
-- and a cut sheet reads as the first lines of the sheet. Assumes nothing.
use lib.IntN.{ℤ, pos}
use lib.ListN.{get_or, set, take, length, replicate, length-set, length-replicate, length-take}
use lib.Seq.{take-length}
use lib.Signed.{≤ℤ_refl}
use mathlib.Core.Path.{◌≡◌, refl, sym, ap, ◌∙◌, subst}
use mathlib.Core.Bool.{false, cond}
use mathlib.Core.List.{List, [], ◌∷◌}
use Rattle.std.specs.Prelude.{Some}
use Prim.Native.Nat.{ℕ, zero, suc, ◌+◌, ◌<◌, ◌≤◌}
use native.Mathlib.Nat.{le_of_suc-le-suc}
use native.Mathlib.Omega.{arith}
use Rattle.meaning.specs.Lists.{All}
use Rattle.meaning.specs.Refusals.{zero_divisor, hold_broken, outside_in}
use Rattle.meaning.specs.Outcome.{Res, ok, stop, bind, or_stop, done, work, next_line}
use Rattle.meaning.specs.Number.{MIN, MAX, InRange, Op2, point1, point2}
use Rattle.meaning.specs.Interval.{span}
use Rattle.meaning.specs.NumberIntervals.{Set, ◌∈◌, here, Normal, set1, set2, flag1, flag2}
use Rattle.meaning.specs.Sheet.{registers, Form, lit, reg, form1, form2, Act, put, hold, Line, input, act, FineForm, FineAct, FineLine}
use Rattle.meaning.specs.Text.{sheet, read}
use Rattle.meaning.specs.Run.{value_of, run_act, run_line, start_numbers, run, state_after, worked, judge, run_text, Allowed, LentInside}
use Rattle.meaning.specs.Check.{Bands, at, inside, give, set_of, check_act, check_line, start_sets, check, set_by, act_by, line_by, check_by, text_by}
use Rattle.meaning.specs.Demand2.{Demand2}
use Rattle.meaning.specs.Demand3.{Members, SafeAt, Safe, Numbers, Safety}
use Rattle.laws.proofs.Integers.{between_within}
use Rattle.laws.proofs.Members.{in_only}
use Rattle.laws.proofs.All.{all_both}
use Rattle.laws.proofs.Work.{ok_same, done_same, bind_ok, guard_ok, work_none, work_next, follows, judge_worked}
use Rattle.laws.proofs.Cut.{read_cut, read_whole}
use Rattle.laws.proofs.Fine.{read_fine}
use Rattle.laws.proofs.Holds.{inside_all}
use Rattle.laws.proofs.Demand2.{demand2}
use Rattle.laws.proofs.CheckSets.{span_normal, zero_normal, whole_normal, Settled, settle_ok, settled_keeps, settled_normal, has_result, result1_in, result2_in}

-- ---- each number in its set, and each set normal

pub data Paired : List ℤ → List Set → Type 0 where
  None : Paired [] []
  more : {z : ℤ} {s : Set} {t : List ℤ} {S : List Set} → z ∈ s → Normal s → Paired t S → Paired (z ∷ t) (s ∷ S)

paired_set : {t : List ℤ} {S : List Set} {z : ℤ} {s : Set} → Paired t S → (r : ℕ) → z ∈ s → Normal s → Paired (set t r z) (set S r s)
paired_set None r m h = None
paired_set (more m₀ h₀ e) zero m h = more m h e
paired_set (more m₀ h₀ e) (suc r) m h = more m₀ h₀ (paired_set e r m h)

pub paired_get : {t : List ℤ} {S : List Set} → Paired t S → (r : ℕ) → (get_or t r (pos 0) ∈ at S r) × Normal (at S r)
paired_get None r = (in_only (pos 0), zero_normal)
paired_get (more m h e) zero = (m, h)
paired_get (more m h e) (suc r) = paired_get e r

paired_member : {t : List ℤ} {S : List Set} → Paired t S → (r : ℕ) → r < length S → get_or t r (pos 0) ∈ get_or S r []
paired_member None r h = absurd (let x : ⊥ = omega arith in x)
paired_member (more m n e) zero h = m
paired_member (more m n e) (suc r) h = paired_member e r (le_of_suc-le-suc h)

-- any numbers, in [MIN,MAX]
paired_whole : (k : ℕ) (l : List ℤ) → k ≤ length l → All InRange (take k l) → Paired (take k l) (replicate k (span MIN MAX))
paired_whole zero l h r = None
paired_whole (suc k) [] h r = absurd (let x : ⊥ = omega arith in x)
paired_whole (suc k) (z ∷ l) h r = more (here r.0) whole_normal (paired_whole k l (le_of_suc-le-suc h) r.1)

-- ---- forms

both_values : (o : Op2) (t : List ℤ) (e f : Form) {x y z : ℤ} → value_of t e ≡ ok x → value_of t f ≡ ok y → point2 o x y ≡ Some z → value_of t (form2 o e f) ≡ ok z
unfolding value_of bind
both_values o t e f {x} p q r =
    ap (λ (v : Res ℤ). bind v (λ x. bind (value_of t f) (λ y. or_stop zero_divisor (point2 o x y)))) p
    ∙ ap (λ (v : Res ℤ). bind v (λ y. or_stop zero_divisor (point2 o x y))) q
    ∙ ap (or_stop zero_divisor) r

-- the run has a value, which is in the check's set
pub record Meets (t : List ℤ) (e : Form) (s : Set) : Type 0 where
  pub num : ℤ
  pub is : value_of t e ≡ ok num
  pub mem : num ∈ s
  pub normal : Normal s

meets : {t : List ℤ} {e : Form} {s s' : Set} (z : ℤ) → value_of t e ≡ ok z → z ∈ s' → Normal s' → s' ≡ s → Meets t e s
meets z v m h p = record { num = z; is = v; mem = subst (λ (a : Set). z ∈ a) p m; normal = subst Normal p h }

-- what holds of the two states between lines
pub record Matched (t : List ℤ) (B : Bands) : Type 0 where
  pub paired : Paired t B.sets
  pub size : length B.sets ≡ registers

pub start_matched : (lent : List ℤ) → Numbers lent → Matched (start_numbers lent) start_sets
unfolding start_numbers
start_matched lent h = record { paired = paired_whole registers lent h.enough h.ranged; size = length-replicate registers (span MIN MAX) }

give_matched : {t : List ℤ} {B : Bands} {z : ℤ} {s : Set} → Matched t B → (r : ℕ) → z ∈ s → Normal s → Matched (set t r z) (give B r s)
give_matched {B} {s} h r m n = record { paired = paired_set h.paired r m n; size = length-set B.sets r s ∙ h.size }

matched_members : {t : List ℤ} {B : Bands} → Matched t B → Members t B.sets
matched_members h = record { member = λ r b. paired_member h.paired r (subst (λ (n : ℕ). r < n) (sym h.size) b) }

module _ (d : Demand2) (limit : ℕ) where
  pub form_safe : (e : Form) {t : List ℤ} {S : List Set} {s : Set} → Paired t S → FineForm e → set_of limit S e ≡ ok s → Meets t e s
  unfolding set_by value_of FineForm bind
  form_safe (lit z) h w e = meets z refl (in_only z) (span_normal z z w w (≤ℤ_refl z)) (ok_same e)
  form_safe (reg r) {t} h w e = let g = paired_get h r in meets (get_or t r (pos 0)) refl g.0 g.1 (ok_same e)
  form_safe (form1 o f) {t} {S} h w e =
      let b = bind_ok (set_of limit S f) _ e in
      let m = form_safe f h w b.1 in
      let k = settle_ok limit (set1 o b.0) (flag1 o false) b.2 in
      let n = d.normal1 o b.0 m.normal in
      meets (point1 o m.num) (ap (λ (v : Res ℤ). bind v (λ x. ok (point1 o x))) m.is) (settled_keeps k n (result1_in d o b.0 m.normal m.mem)) (settled_normal k n) refl
  form_safe (form2 o f g) {t} {S} {s} h w e =
      let b = bind_ok (set_of limit S f) _ e in
      let c = bind_ok (set_of limit S g) _ b.2 in
      both b.0 c.0 (form_safe f h w.0 b.1) (form_safe g h w.1 c.1) (settle_ok limit (set2 o b.0 c.0) (flag2 o false b.0 c.0) c.2)
    where
      pair : (a b : Set) (m : Meets t f a) (n : Meets t g b) → Settled limit (set2 o a b) (flag2 o false a b) s → (z : ℤ) × (point2 o m.num n.num ≡ Some z) → Meets t (form2 o f g) s
      pair a b m n k z =
          let j = d.normal2 o a b m.normal n.normal in
          meets z.0 (both_values o t f g m.is n.is z.1) (settled_keeps k j (result2_in d o a b m.normal n.normal m.mem n.mem z.1)) (settled_normal k j) refl

      both : (a b : Set) → Meets t f a → Meets t g b → Settled limit (set2 o a b) (flag2 o false a b) s → Meets t (form2 o f g) s
      both a b m n k = pair a b m n k (has_result d o a b m.normal n.normal m.mem n.mem k.unflagged)

  -- ---- lines

  pub act_safe : (B : Bands) (t : List ℤ) (a : Act) (B' : Bands) → FineAct a → Matched t B → check_act limit B a ≡ ok B' → (t' : List ℤ) × (run_act t a ≡ ok t') × Matched t' B'
  unfolding act_by run_act FineAct bind
  act_safe B t (put r f) B' w h e =
      let b = bind_ok (set_of limit B.sets f) _ e in
      let m = form_safe f h.paired w.1 b.1 in
      (set t r m.num, ap (λ (v : Res ℤ). bind v (λ x. ok (set t r x))) m.is, subst (Matched (set t r m.num)) (ok_same b.2) (give_matched h r m.mem m.normal))
  act_safe B t (hold r lo hi) B' w h e =
      let g = guard_ok (inside lo (at B.sets r) hi) hold_broken (ok B) e in
      (t, ap (λ q. cond q (ok t) (stop hold_broken)) (between_within (inside_all lo hi g.0 (paired_get h.paired r).0)), subst (Matched t) (ok_same g.1) h)

  pub line_safe : (lent : List ℤ) (B : Bands) (t : List ℤ) (l : Line) (B' : Bands) → FineLine l × Allowed lent l → Matched t B → check_line limit B l ≡ ok B'
      → (t' : List ℤ) × (run_line lent t l ≡ ok t') × Matched t' B'
  unfolding line_by run_line FineLine Allowed
  line_safe lent B t (input r lo hi) B' w h e =
      let z = get_or lent r (pos 0) in (
        set t r z,
        ap (λ q. cond q (ok (set t r z)) (stop outside_in)) (between_within w.1),
        subst (Matched (set t r z)) (ok_same e) (give_matched {s = span lo hi} h r (here w.1) (span_normal lo hi w.0.lo_fits w.0.hi_fits w.0.ordered)),
      )
  line_safe lent B t (act a) B' w h e = act_safe B t a B' w.0 h e

-- ---- the state after line n is that of the run of the first n lines

pub state_after_lem : (lent : List ℤ) (ls : List Line) (n : ℕ) → n ≤ length ls → state_after lent ls n ≡ run lent (take n ls)
unfolding state_after run
state_after_lem lent ls zero h = sym (work_none (run_line lent) 1 (start_numbers lent) ls)
state_after_lem lent ls (suc n) h =
    let e : 1 + n ≡ suc n = omega arith in
    ap (λ o. next_line (run_line lent) (suc n) o (get_or ls n (act (hold 0 (pos 0) (pos 0))))) (state_after_lem lent ls n (omega arith))
    ∙ sym (work_next (run_line lent) n 1 (start_numbers lent) ls (act (hold 0 (pos 0) (pos 0))) (omega arith) ∙ ap
    (λ m. next_line (run_line lent) m (work (run_line lent) 1 (start_numbers lent) (take n ls)) (get_or ls n (act (hold 0 (pos 0) (pos 0))))) e)

-- ---- the theorem, from demand 2

module _ (d : Demand2) (limit : ℕ) (lent : List ℤ) (t : List ℕ) (ls : List Line) (r : read t ≡ sheet ls) {bands : Bands} (e : check limit ls ≡ done bands) (k : Numbers lent) (i : LentInside lent t) where
  -- check and run after n lines
  record Reached (n : ℕ) : Type 0 where
    bands_there : Bands
    state_there : List ℤ
    checked : check limit (take n ls) ≡ done bands_there
    ran : run lent (take n ls) ≡ done state_there
    matched : Matched state_there bands_there

  reached : (n : ℕ) → Reached n
  unfolding check_by run
  reached n =
      let u = follows (check_line limit) (run_line lent) Matched (λ l. FineLine l × Allowed lent l) (line_safe d limit lent) n 1 ls start_sets (start_numbers lent)
      (all_both FineLine (Allowed lent) ls (read_fine t r) (i.inside ls r)) (start_matched lent k) e in
      record { bands_there = u.0; state_there = u.1; checked = u.2; ran = u.3; matched = u.4 }

  safe_at : (n : ℕ) → n ≤ length ls → SafeAt limit lent t ls n
  unfolding text_by run_text
  safe_at n h =
      let u = reached n in
      let s : length (take n ls) ≡ n = omega (arith, length-take n ls) in
      record {
        bands = u.bands_there;
        state = u.state_there;
        passes = ap (judge (check limit)) (read_cut t n r) ∙ (λ j. worked (s j) (u.checked j));
        reaches = state_after_lem lent ls n h ∙ u.ran;
        runs = ap (judge (run lent)) (read_cut t n r) ∙ (λ j. worked (s j) (u.ran j));
        members = matched_members u.matched;
      }

  all_safe : Safe limit lent t (length ls) bands
  unfolding run_text
  all_safe =
      let u = reached (length ls) in
      let w = take-length ls in
      let b : u.bands_there ≡ bands = done_same (sym u.checked ∙ ap (check limit) w ∙ e) in
      record {
        lines = ls;
        reads = r;
        count = refl;
        each = safe_at;
        whole = read_whole t r;
        state = u.state_there;
        ends = ap (judge (run lent)) r ∙ ap (worked (length ls)) (sym (ap (run lent) w) ∙ u.ran);
        last = state_after_lem lent ls (length ls) (omega arith) ∙ u.ran;
        members = subst (λ (B : Bands). Members u.state_there B.sets) b (matched_members u.matched);
      }

pub safety_of : Demand2 → Safety
unfolding text_by
safety_of d limit t n bands lent e k i =
    let w = judge_worked (check limit) (read t) e in
    subst (λ (m : ℕ). Safe limit lent t m bands) w.count (all_safe d limit lent t w.lines w.reads w.gives k i)

-- a passed sheet is safe to run: nothing left open
pub demand3 : Safety
demand3 = safety_of demand2
