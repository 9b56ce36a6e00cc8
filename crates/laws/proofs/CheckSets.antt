-- In the check every set is normal, not empty and of at most `limit` intervals: a form's answer is normal by demand 2, holds the result of two members, since a flagged form stops, and
-- `settle` closes gaps until the limit is met. Assumes nothing.
use lib.IntN.{ℤ, pos}
use lib.ListN.{length, take, length-set, length-replicate}
use lib.Seq.{take-length}
use lib.Signed.{◌≤ℤ◌, ≤ℤ_refl}
use mathlib.Core.Path.{◌≡◌, refl, sym, ap, ◌∙◌, subst}
use mathlib.Core.Bool.{Bool, false}
use mathlib.Core.List.{List}
use Rattle.std.specs.Prelude.{None, Some}
use Prim.Native.Nat.{ℕ, ◌≤◌}
use Rattle.meaning.specs.Refusals.{zero_divisor, hold_broken}
use Rattle.meaning.specs.Lists.{All}
use Rattle.meaning.specs.Outcome.{ok, done}
use Rattle.meaning.specs.Number.{MIN, MAX, InRange, eq_z, Op1, Op2, add, sub, mul, div, rem, le, lt, ne, and, or, point1, point2, quotient, remainder}
use Rattle.meaning.specs.Interval.{span, only}
use Rattle.meaning.specs.NumberIntervals.{Set, ◌∈◌, here, Normal, set1, set2, flag1, flag2}
use Rattle.meaning.specs.Sheet.{registers, Form, lit, reg, form1, form2, put, hold, Line, input, act, FineForm, FineAct, FineLine}
use Rattle.meaning.specs.Text.{sheet, read}
use Rattle.meaning.specs.Run.{worked}
use Rattle.meaning.specs.Close.{close}
use Rattle.meaning.specs.Check.{Bands, at, inside, settle, give, set_of, check_line, start_sets, check, check_text, set_by, line_by, act_by, check_by, text_by}
use Rattle.meaning.specs.Demand2.{FlagIs, Demand2}
use Rattle.meaning.specs.CheckSets.{SoundSet, SoundBands, state_of, CheckSets, ClosedAnswer, FormSetsAt, FormSets}
use Rattle.laws.proofs.Integers.{zarith, clash, by_test, if_no, eq_z_is}
use Rattle.laws.proofs.Members.{between, in_only}
use Rattle.laws.proofs.Spread.{proper_whole}
use Rattle.laws.proofs.All.{all_get, all_set, all_replicate, all_take}
use Rattle.laws.proofs.Work.{ok_same, bind_ok, guard_ok, unless_ok, work_keeps, judge_worked}
use Rattle.laws.proofs.CloseLaws.{close_few, close_normal, close_keeps, close_is}
use Rattle.laws.proofs.Fine.{read_fine}
use Rattle.laws.proofs.Demand2.{demand2}

-- ---- sets of one interval

pub span_normal : (lo hi : ℤ) → InRange lo → InRange hi → lo ≤ℤ hi → Normal (span lo hi)
span_normal lo hi l h o = (record { low = l.above; ordered = o; high = h.below }, tt, tt)

pub zero_normal : Normal (only (pos 0))
zero_normal = (record { low = omega zarith; ordered = omega zarith; high = omega zarith }, tt, tt)

-- the start
pub whole_normal : Normal (span MIN MAX)
whole_normal = (proper_whole, tt, tt)

-- ---- a form's answer

-- what a form's answer s leaves as the form's set
pub record Settled (limit : ℕ) (s : Set) (flag : Bool) (s' : Set) : Type 0 where
  pub unflagged : flag ≡ false
  pub is : s' ≡ close limit s

pub settle_ok : (limit : ℕ) (s : Set) (flag : Bool) {s' : Set} → settle limit s flag ≡ ok s' → Settled limit s flag s'
unfolding settle
settle_ok limit s flag e = let k = unless_ok flag zero_divisor _ e in record { unflagged = k.0; is = sym (ok_same k.1) }

module _ {limit : ℕ} {s : Set} {flag : Bool} {s' : Set} (k : Settled limit s flag s') (n : Normal s) where
  pub settled_keeps : {z : ℤ} → z ∈ s → z ∈ s'
  settled_keeps m = rw k.is (close_keeps limit s n m)

  pub settled_normal : Normal s'
  settled_normal = rw k.is (close_normal limit s n)

-- no flag: no member of the divisor is 0
nonzero : {o : Op2} → FlagIs o → (a b : Set) {x y : ℤ} → Normal a → Normal b → x ∈ a → y ∈ b → flag2 o false a b ≡ false → eq_z y (pos 0) ≡ false
nonzero f a b {x} {y} m n h k e = by_test (eq_z y (pos 0)) (λ p. clash (f.set_if false a b x m n h (subst (λ (v : ℤ). v ∈ b) (eq_z_is p) k)) e) (λ p. p)

module _ (d : Demand2) where
  -- no flag: members have a result
  pub has_result : (o : Op2) (a b : Set) {x y : ℤ} → Normal a → Normal b → x ∈ a → y ∈ b → flag2 o false a b ≡ false → (z : ℤ) × (point2 o x y ≡ Some z)
  unfolding point2 quotient remainder
  has_result add a b m n h k e = (_, refl)
  has_result sub a b m n h k e = (_, refl)
  has_result mul a b m n h k e = (_, refl)
  has_result div a b m n h k e = (_, sym (if_no None _ (nonzero d.div_flag a b m n h k e)))
  has_result rem a b m n h k e = (_, sym (if_no None _ (nonzero d.rem_flag a b m n h k e)))
  has_result le a b m n h k e = (_, refl)
  has_result lt a b m n h k e = (_, refl)
  has_result ne a b m n h k e = (_, refl)
  has_result and a b m n h k e = (_, refl)
  has_result or a b m n h k e = (_, refl)

  pub result1_in : (o : Op1) (a : Set) {x : ℤ} → Normal a → x ∈ a → point1 o x ∈ set1 o a
  result1_in o a {x} n m = d.holds1 o a (point1 o x) n (record { member = x; member_in = m; gives = refl })

  pub result2_in : (o : Op2) (a b : Set) {x y z : ℤ} → Normal a → Normal b → x ∈ a → y ∈ b → point2 o x y ≡ Some z → z ∈ set2 o a b
  result2_in o a b {x} {y} {z} n m h k e = d.holds2 o a b z n m (record { left = x; right = y; left_in = h; right_in = k; gives = e })

  module _ (limit : ℕ) (enough : 1 ≤ limit) where
    pub only_sound : (z : ℤ) → InRange z → SoundSet limit (only z)
    only_sound z r = record { normal = span_normal z z r r (≤ℤ_refl z); filled = (z, in_only z); few = enough }

    pub zero_sound : SoundSet limit (only (pos 0))
    zero_sound = record { normal = zero_normal; filled = (pos 0, in_only (pos 0)); few = enough }

    whole_sound : SoundSet limit (span MIN MAX)
    whole_sound = record { normal = whole_normal; filled = (MIN, here (between (≤ℤ_refl MIN) proper_whole.ordered)); few = enough }

    settled_few : {s : Set} {flag : Bool} {s' : Set} → Settled limit s flag s' → length s' ≤ limit
    settled_few {s} k = rw k.is (close_few limit s enough)

    -- the set of one form of sound sets
    pub form1_sound : (o : Op1) (a : Set) {s : Set} → SoundSet limit a → settle limit (set1 o a) (flag1 o false) ≡ ok s → SoundSet limit s
    form1_sound o a m e =
        let k = settle_ok limit (set1 o a) (flag1 o false) e in
        let n = d.normal1 o a m.normal in
        record { normal = settled_normal k n; filled = (point1 o m.filled.0, settled_keeps k n (result1_in o a m.normal m.filled.1)); few = settled_few k }

    pub form2_sound : (o : Op2) (a b : Set) {s : Set} → SoundSet limit a → SoundSet limit b → settle limit (set2 o a b) (flag2 o false a b) ≡ ok s → SoundSet limit s
    form2_sound o a b {s} m n e = go (settle_ok limit (set2 o a b) (flag2 o false a b) e)
      where
        joined : Normal (set2 o a b)
        joined = d.normal2 o a b m.normal n.normal

        filled : Settled limit (set2 o a b) (flag2 o false a b) s → (z : ℤ) × (point2 o m.filled.0 n.filled.0 ≡ Some z) → (z : ℤ) × (z ∈ s)
        filled k z = (z.0, settled_keeps k joined (result2_in o a b m.normal n.normal m.filled.1 n.filled.1 z.1))

        go : Settled limit (set2 o a b) (flag2 o false a b) s → SoundSet limit s
        go k = record {
          normal = settled_normal k joined;
          filled = filled k (has_result o a b m.normal n.normal m.filled.1 n.filled.1 k.unflagged);
          few = settled_few k;
        }

    -- every form's set, inner forms too
    pub form_sound : (e : Form) (S : List Set) {s : Set} → All (SoundSet limit) S → FineForm e → set_of limit S e ≡ ok s → SoundSet limit s
    unfolding set_by FineForm
    form_sound (lit z) S h w e = subst (SoundSet limit) (ok_same e) (only_sound z w)
    form_sound (reg r) S h w e = subst (SoundSet limit) (ok_same e) (all_get (SoundSet limit) S r (only (pos 0)) zero_sound h)
    form_sound (form1 o f) S h w e = let b = bind_ok (set_of limit S f) _ e in form1_sound o b.0 (form_sound f S h w b.1) b.2
    form_sound (form2 o f g) S h w e =
        let b = bind_ok (set_of limit S f) _ e in
        let c = bind_ok (set_of limit S g) _ b.2 in
        form2_sound o b.0 c.0 (form_sound f S h w.0 b.1) (form_sound g S h w.1 c.1) c.2

    -- and it is the answer of its set call, closed
    answer_closed : {s : Set} {flag : Bool} {s' : Set} → Settled limit s flag s' → Normal s → SoundSet limit s' → ClosedAnswer limit s s'
    answer_closed {s} k n m = record { normal = n; is = k.is; closed = rw k.is (close_is limit s enough n); sound = m }

    form_sets_at : (B : Bands) → All (SoundSet limit) B.sets → FormSetsAt limit B
    unfolding set_by
    form_sets_at B h = record {
      one = λ o e s w p.
          let b = bind_ok (set_of limit B.sets e) _ p in
          let m = form_sound e B.sets h w b.1 in
          let k = settle_ok limit (set1 o b.0) (flag1 o false) b.2 in
          (b.0, b.1, m, k.unflagged, answer_closed k (d.normal1 o b.0 m.normal) (form1_sound o b.0 m b.2));
      two = λ o e f s w v p.
          let b = bind_ok (set_of limit B.sets e) _ p in
          let c = bind_ok (set_of limit B.sets f) _ b.2 in
          let m = form_sound e B.sets h w b.1 in
          let n = form_sound f B.sets h v c.1 in
          let k = settle_ok limit (set2 o b.0 c.0) (flag2 o false b.0 c.0) c.2 in
          (b.0, c.0, b.1, c.1, m, n, k.unflagged, answer_closed k (d.normal2 o b.0 c.0 m.normal n.normal) (form2_sound o b.0 c.0 m n c.2));
    }

    -- what every line keeps
    pub record Kept (B : Bands) : Type 0 where
      pub size : length B.sets ≡ registers
      pub sets_sound : All (SoundSet limit) B.sets

    pub start_kept : Kept start_sets
    start_kept = record { size = length-replicate registers (span MIN MAX); sets_sound = all_replicate (SoundSet limit) registers (span MIN MAX) whole_sound }

    give_kept : {B : Bands} (r : ℕ) {s : Set} → Kept B → SoundSet limit s → Kept (give B r s)
    give_kept {B} r {s} h n = record { size = length-set B.sets r s ∙ h.size; sets_sound = all_set (SoundSet limit) B.sets r s n h.sets_sound }

    pub line_kept : (B : Bands) (l : Line) (B' : Bands) → FineLine l → Kept B → check_line limit B l ≡ ok B' → Kept B'
    unfolding line_by act_by FineLine FineAct
    line_kept B (input r lo hi) B' w h e =
        subst Kept (ok_same e)
        (give_kept r h
        (record { normal = span_normal lo hi w.lo_fits w.hi_fits w.ordered; filled = (lo, here (between (≤ℤ_refl lo) w.ordered)); few = enough }))
    line_kept B (act (put r f)) B' w h e =
        let b = bind_ok (set_of limit B.sets f) _ e in
        subst Kept (ok_same b.2) (give_kept r h (form_sound f B.sets h.sets_sound w.1 b.1))
    line_kept B (act (hold r lo hi)) B' w h e = subst Kept (ok_same (guard_ok (inside lo (at B.sets r) hi) hold_broken (ok B) e).1) h

    pub kept_sound : {B : Bands} → Kept B → SoundBands limit B
    kept_sound {B} h = record { size = h.size; each = λ r. all_get (SoundSet limit) B.sets r (only (pos 0)) zero_sound h.sets_sound }

  kept_after : (limit : ℕ) (t : List ℕ) (ls : List Line) (enough : 1 ≤ limit) → read t ≡ sheet ls → (n : ℕ) → Kept limit enough (state_of (check limit (take n ls)))
  unfolding check_by
  kept_after limit t ls enough e n =
      work_keeps (check_line limit) (Kept limit enough) FineLine (line_kept limit enough) 1 start_sets (take n ls) (all_take FineLine n ls (read_fine t e)) (start_kept limit enough)

pub check_sets_lem : CheckSets
check_sets_lem limit t ls enough e n = kept_sound demand2 limit enough (kept_after demand2 limit t ls enough e n)

pub form_sets : FormSets
form_sets limit t ls enough e n = form_sets_at demand2 limit enough (state_of (check limit (take n ls))) (kept_after demand2 limit t ls enough e n).sets_sound

-- what a pass gives
pub passed_sound : (limit : ℕ) (t : List ℕ) {n : ℕ} {B : Bands} → 1 ≤ limit → check_text limit t ≡ worked n (done B) → SoundBands limit B
unfolding text_by
passed_sound limit t enough e =
    let w = judge_worked (check limit) (read t) e in
    subst (SoundBands limit) (ap state_of (ap (check limit) (take-length w.lines) ∙ w.gives)) (check_sets_lem limit t w.lines enough w.reads (length w.lines))
