-- The numbers of a form's set, its set, and what an argument of an operation needs; a form's answer on such sets is such a set. Assumes nothing.
use mathlib.Core.Path.{◌≡◌, refl, sym, ap, ◌∙◌}
use mathlib.Core.Bool.{false}
use mathlib.Core.List.{List, [], ◌∷◌, ◌++◌}
use Prim.Native.Nat.{ℕ, ◌-◌, ◌*◌, ◌/◌, ◌≤◌}
use native.Mathlib.Omega.{arith}
use lib.IntN.{ℤ, pos}
use lib.Signed.{◌≤ℤ◌}
use lib.ListN.{length, take, drop, replicate}
use lib.Seq.{take_at}
use mir.Syntax.{w64}
use mir.Val.{SFits}
use mir.Facts.{to_z-of_z}
use Rattle.std.proofs.lemmas.List.{drop-replicate}
use Rattle.meaning.specs.Outcome.{Res, ok, stop}
use Rattle.meaning.specs.Number.{InRange, Op1, Op2}
use Rattle.meaning.specs.Interval.{span}
use Rattle.meaning.specs.NumberIntervals.{Set, ◌∈◌, here, Normal, set1, set2, flag1, flag2, flat, intervals}
use Rattle.meaning.specs.Check.{settle, interval_limit}
use Rattle.meaning.specs.CheckSets.{SoundSet}
use Rattle.laws.proofs.Integers.{zarith}
use Rattle.laws.proofs.Machine.{rd, fits_range}
use Rattle.laws.proofs.Flat.{intervals_flat, flat_normal, length_flat}
use Rattle.laws.proofs.Members.{between}
use Rattle.laws.proofs.Demand2.{demand2}
use Rattle.laws.proofs.CheckSets.{span_normal, form1_sound, form2_sound}
use Rattle.sets.specs.Sets.{SetEnds}
use Rattle.set_values.specs.Held.{padded, shown, Held, Few}
use Rattle.set_values.specs.Slots.{Sized}
use Rattle.set_values.specs.Value.{SoundResult}

-- ---- a set that is not empty has a member, and back

pub filled_of : (s : Set) → Normal s → 1 ≤ length s → (z : ℤ) × (z ∈ s)
filled_of [] n l = absurd (let x : ⊥ = omega arith in x)
filled_of (i ∷ s) n l = (i.lo, here (between (omega zarith) n.0.ordered))

pub filled_length : {z : ℤ} (s : Set) → z ∈ s → 1 ≤ length s
filled_length [] m = elim m [ ]
filled_length (i ∷ s) m = omega arith

-- ---- what the numbers of a form's set show

pub ends_back : (s : Set) → take (2 * length s) (padded s) ≡ flat s
unfolding padded
ends_back s = take_at (flat s) (replicate (32 - length (flat s)) (pos 0)) (2 * length s) (length_flat s)

sized_sound : {s : Set} → Sized s → SoundSet interval_limit s
sized_sound {s} z = record { normal = z.normal; filled = filled_of s z.normal z.filled; few = z.few }

module _ {count : ℕ} {ends : List ℤ} (h : Held count ends) where
  pub held_ends : take (2 * count) ends ≡ flat (shown count ends)
  held_ends =
      ap (take (2 * count)) h.is ∙ ap (λ (n : ℕ). take (2 * n) (padded (shown count ends))) h.counted ∙ ends_back (shown count ends)

  pub held_sized : Sized (shown count ends)
  held_sized = record { normal = h.normal; filled = omega (arith, h.counted, h.filled); few = omega (arith, h.counted, h.few) }

  pub held_sound : SoundSet interval_limit (shown count ends)
  held_sound = sized_sound held_sized

  pub held_set : SetEnds (take (2 * count) ends)
  held_set = rw held_ends (record { test = flat_normal (shown count ends) h.normal; is = rw (intervals_flat (shown count ends)) h.normal })

-- ---- the ends of such a set, with zeros behind them

module _ {l : List ℤ} (h : Few l) where
  abbrev in_room : List ℤ
  in_room = l ++ drop (length l) (replicate 32 (pos 0))

  few_twice : length l ≡ 2 * length (intervals l)
  few_twice = ap length h.ends ∙ length_flat (intervals l)

  pub few_length : length l ≤ 32
  few_length = let f = h.sound.few in omega (arith, few_twice)

  pub few_shown : shown (length l / 2) in_room ≡ intervals l
  unfolding shown
  few_shown = ap intervals (take_at l (drop (length l) (replicate 32 (pos 0))) (2 * (length l / 2)) (omega (arith, few_twice)))

  few_padded : in_room ≡ padded (intervals l)
  unfolding padded
  few_padded =
      ap (λ (x : List ℤ). l ++ x) (drop-replicate (length l) 32 (pos 0)) ∙ ap (λ (x : List ℤ). x ++ replicate (32 - length x) (pos 0)) h.ends

  pub few_held : Held (length l / 2) in_room
  few_held = record {
    counted = rw few_shown (omega (arith, few_twice));
    is = rw few_shown few_padded;
    normal = rw few_shown h.sound.normal;
    filled = omega (arith, few_twice, filled_length (intervals l) h.sound.filled.1);
    few = omega (arith, few_length);
  }

pub flat_few : {s : Set} → SoundSet interval_limit s → Few (flat s)
flat_few {s} h = record { ends = ap flat (sym (intervals_flat s)); sound = rw (intervals_flat s) h }

pub sized_few : {s : Set} → Sized s → Few (flat s)
sized_few z = flat_few (sized_sound z)

span_sound : {lo hi : ℤ} → InRange lo → InRange hi → lo ≤ℤ hi → SoundSet interval_limit (span lo hi)
span_sound {lo} {hi} l h o = record { normal = span_normal lo hi l h o; filled = (lo, here (between (omega zarith) o)); few = omega arith }

-- ---- a form's answer

settled_sound : (x : Res Set) → ((s : Set) → x ≡ ok s → SoundSet interval_limit s) → SoundResult x
settled_sound (ok s) f = f s refl
settled_sound (stop k) f = tt

pub one_sound : (o : Op1) {s : Set} → SoundSet interval_limit s → SoundResult (settle interval_limit (set1 o s) (flag1 o false))
one_sound o {s} h = settled_sound (settle interval_limit (set1 o s) (flag1 o false)) (λ _ e. form1_sound demand2 interval_limit (omega arith) o s h e)

pub two_sound : (o : Op2) {s t : Set} → SoundSet interval_limit s → SoundSet interval_limit t → SoundResult (settle interval_limit (set2 o s t) (flag2 o false s t))
two_sound o {s} {t} h k =
    settled_sound (settle interval_limit (set2 o s t) (flag2 o false s t)) (λ _ e. form2_sound demand2 interval_limit (omega arith) o s t h k e)

-- ---- the set of one interval, as the machine reads its ends back

module _ {lo hi : ℤ} (l : SFits w64 lo) (h : SFits w64 hi) where
  pub span_read : intervals (rd lo ∷ rd hi ∷ []) ≡ span lo hi
  unfolding intervals
  span_read = rw (to_z-of_z l, to_z-of_z h) refl

  pub span_few : lo ≤ℤ hi → Few (rd lo ∷ rd hi ∷ [])
  unfolding flat intervals
  span_few o = rw (to_z-of_z l, to_z-of_z h) (record { ends = refl; sound = span_sound (fits_range l) (fits_range h) o })
