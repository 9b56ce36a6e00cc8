-- What an operation leaves in the work slice, and the form's answer that is made of it: one law for all operations. Assumes nothing.
use mathlib.Core.Path.{◌≡◌, refl, sym, ap, ◌∙◌}
use mathlib.Core.Bool.{Bool, true, false}
use mathlib.Core.List.{List, [], ◌∷◌}
use Prim.Native.Nat.{ℕ, ◌≤◌}
use native.Mathlib.Omega.{arith}
use lib.IntN.{ℤ}
use lib.ListN.{length, take}
use lib.Seq.{length-take-le}
use Rattle.meaning.specs.Refusals.{zero_divisor}
use Rattle.meaning.specs.Outcome.{ok, stop, bind}
use Rattle.meaning.specs.Number.{Op1, Op2}
use Rattle.meaning.specs.NumberIntervals.{Set, Normal, set1, set2, flag1, flag2, flat, intervals}
use Rattle.meaning.specs.Close.{close, close_gaps}
use Rattle.meaning.specs.Check.{settle, interval_limit}
use Rattle.meaning.specs.CheckSets.{SoundSet}
use Rattle.laws.proofs.CloseLaws.{close_few, close_normal, close_keeps}
use Rattle.laws.proofs.Demand2.{demand2}
use Rattle.laws.proofs.Flat.{intervals_flat, length_flat}
use Rattle.std.specs.Borrow.{MutBor}
use Rattle.writer.specs.declared.Writer.{Writer}
use Rattle.writer.specs.Written.{Starts}
use Rattle.writer.proofs.Chain.{inside, first_written}
use Rattle.slices.specs.Adds.{Adds}
use Rattle.closing.specs.Gaps.{Ends, Closed}
use Rattle.cores.specs.Cored.{Cored}
use Rattle.replies.specs.declared.Written.{Written}
use Rattle.set_values.specs.Held.{Few}
use Rattle.set_values.specs.Value.{SoundResult, Settles, Left, answer1, answer2}
use Rattle.set_values.proofs.Sets.{filled_of, filled_length, flat_few, one_sound, two_sound}

-- ---- a set that is not empty, closed, and its ends

some_closed : (s : Set) → 1 ≤ length (close interval_limit s) → 1 ≤ length s
unfolding close close_gaps
some_closed [] h = absurd (omega arith)
some_closed (i ∷ s) h = omega arith

some_ends : (l : List ℤ) → 2 ≤ length l → 1 ≤ length (intervals l)
unfolding intervals
some_ends [] h = absurd (omega arith)
some_ends (a ∷ []) h = absurd (omega arith)
some_ends (a ∷ b ∷ l) h = omega arith

two_ends : (l : List ℤ) → 1 ≤ length (intervals l) → 2 ≤ length l
unfolding intervals
two_ends [] h = absurd (omega arith)
two_ends (a ∷ []) h = absurd (omega arith)
two_ends (a ∷ b ∷ l) h = omega arith

closed_sound : (limit : ℕ) (s : Set) → 1 ≤ limit → limit ≤ interval_limit → Normal s → 1 ≤ length s → SoundSet interval_limit (close limit s)
closed_sound limit s o l n f =
    let m = filled_of s n f in
    record { normal = close_normal limit s n; filled = (m.0, close_keeps limit s n m.1); few = omega (arith, close_few limit s o) }

-- ---- the judgement on a form's answer: `count` numbers of work are its ends

module _ (old : List ℤ) (count : ℕ) (flag : Bool) where
  pub flagged : flag ≡ true → stop zero_divisor ≡ settle interval_limit (intervals (take count old)) flag
  unfolding settle
  flagged f = rw f

  module _ (f : flag ≡ false) where
    unflagged : settle interval_limit (intervals (take count old)) flag ≡ ok (close interval_limit (intervals (take count old)))
    unfolding settle
    unflagged = rw f

    -- a set that passes has the two ends of an interval
    pub passed_two : count ≤ length old → SoundResult (settle interval_limit (intervals (take count old)) flag) → 2 ≤ count
    passed_two r s =
        let k : SoundSet interval_limit (close interval_limit (intervals (take count old))) = rw unflagged at s in
        let some = some_closed (intervals (take count old)) (filled_length _ k.filled.1) in
        omega (arith, two_ends (take count old) some, length-take-le count old r)

    module _ {new : List ℤ} {n : ℕ} (h : Closed interval_limit (take count old) new n) where
      pub closed_few : SoundResult (settle interval_limit (intervals (take count old)) flag) → Few (take n new)
      closed_few s = rw h.front (flat_few (rw unflagged at s))

      pub closed_is : {s : Set} → s ≡ intervals (take n new) → ok s ≡ settle interval_limit (intervals (take count old)) flag
      closed_is e =
          ap (λ (x : Set). ok x) (e ∙ ap intervals h.front ∙ intervals_flat (close interval_limit (intervals (take count old)))) ∙ sym unflagged

-- closed to any limit of 1 to 16 intervals, the ends of a set that is not empty are those of a form's set
pub any_closed_few
    : (old : List ℤ) (count : ℕ) {limit : ℕ} {new : List ℤ} {n : ℕ} → Closed limit (take count old) new n → 1 ≤ limit → limit ≤ interval_limit
    → count ≤ length old → Ends (take count old) → 2 ≤ count → Few (take n new)
any_closed_few old count {limit} h o l r e t =
    let some = some_ends (take count old) (omega (arith, length-take-le count old r)) in
    rw h.front (flat_few (closed_sound limit _ o l e.normal some))

-- ---- what is left

pub left_cored : {s : Set} {flag : Bool} {need : ℕ} {old new : List ℤ} {c : Written} → Cored s flag need old new c → need ≤ length old → length new ≡ length old → Left s flag new c
left_cored h k l = record { count = h.count; room = omega (arith, h.room, k, l); front = h.front; flagged = h.flagged }

pub left_added : {s : Set} {start done : Writer ℤ} {lent : MutBor (List ℤ)} → Starts start lent → Adds s done start → Left s false done.room.now (record { count = done.len; flag = false })
left_added a w = record {
  count = omega (arith, a.empty, w.ends.count);
  room = inside w.ends;
  front = first_written a w.ends;
  flagged = refl;
}

module _ {s : Set} {flag : Bool} {new : List ℤ} {c : Written} (h : Left s flag new c) where
  left_same : intervals (take c.count new) ≡ s
  left_same = ap intervals h.front ∙ intervals_flat s

  left_settled : settle interval_limit (intervals (take c.count new)) c.flag ≡ settle interval_limit s flag
  left_settled = λ i. settle interval_limit (left_same i) (h.flagged i)

  -- a normal answer with a sound result may be judged
  left_settles : Normal s → SoundResult (settle interval_limit s flag) → Settles c new
  left_settles n r = record {
    room = h.room;
    ends = record { even = omega (arith, length-take-le c.count new h.room, h.count, length_flat s); normal = rw left_same n };
    sound = rw left_settled r;
  }

-- ---- a form's answer, by the ends of its arguments' sets

same : {s : Set} {l : List ℤ} → l ≡ flat s → intervals l ≡ s
same {s} e = ap intervals e ∙ intervals_flat s

module _ {s : Set} (h : SoundSet interval_limit s) {l : List ℤ} (e : l ≡ flat s) where
  module _ (o : Op1) {new : List ℤ} {c : Written} (k : Left (set1 o (intervals l)) (flag1 o false) new c) where
    left1 : Left (set1 o s) (flag1 o false) new c
    left1 = rw (same e) at k

    pub settles1 : Settles c new
    settles1 = left_settles left1 (demand2.normal1 o s h.normal) (one_sound o h)

    pub answer1_is : settle interval_limit (intervals (take c.count new)) c.flag ≡ answer1 o (ok s)
    unfolding answer1 bind
    answer1_is = left_settled left1

  module _ {t : Set} (h' : SoundSet interval_limit t) {m : List ℤ} (e' : m ≡ flat t) (o : Op2) {new : List ℤ} {c : Written}
      (k : Left (set2 o (intervals l) (intervals m)) (flag2 o false (intervals l) (intervals m)) new c) where
    left2 : Left (set2 o s t) (flag2 o false s t) new c
    left2 = rw (same e, same e') at k

    pub settles2 : Settles c new
    settles2 = left_settles left2 (demand2.normal2 o s t h.normal h'.normal) (two_sound o h h')

    pub answer2_is : settle interval_limit (intervals (take c.count new)) c.flag ≡ answer2 o (ok s) (ok t)
    unfolding answer2 bind
    answer2_is = left_settled left2
