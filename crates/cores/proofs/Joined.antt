-- How many numbers the results of all intervals, or of all pairs, take, and what is left when they are joined: one law for every operation. Assumes nothing.
use mathlib.Core.Path.{◌≡◌, ap, ◌∙◌}
use mathlib.Core.List.{List, ◌++◌}
use Prim.Native.Nat.{ℕ, ◌*◌, ◌/◌, ◌≤◌}
use native.Mathlib.Omega.{arith}
use native.Mathlib.Nat.{mul-le-mul}
use lib.ListN.{length, take, drop}
use lib.Seq.{length-take-le, take-append-le, drop_at}
use lib.IntN.{ℤ}
use mathlib.Core.Bool.{Bool}
use Rattle.meaning.specs.Interval.{Interval, Proper, each}
use Rattle.meaning.specs.NumberIntervals.{rebuild, each_pair, flat, intervals}
use Rattle.meaning.specs.SetCalls.{need2}
use Rattle.laws.proofs.Members.{AllProper, length_each, all_pairs, normal_proper}
use Rattle.laws.proofs.Flat.{intervals_flat, length_flat, length_intervals}
use Rattle.laws.proofs.Over.{tail_drop}
use Rattle.std.specs.Borrow.{MutBor}
use Rattle.writer.specs.declared.Writer.{Writer}
use Rattle.writer.specs.Written.{Starts}
use Rattle.writer.proofs.Chain.{inside, first_written}
use Rattle.slices.specs.Adds.{Adds}
use Rattle.sorting.proofs.Steps.{drop_later}
use Rattle.sets.specs.Sets.{Pairs, Rebuilt}
use Rattle.sets.specs.declared.Operand.{Operand}
use Rattle.cores.specs.declared.Op.{Op}
use Rattle.cores.specs.Cored.{Cored}
use Rattle.cores.specs.Operation.{rule_of, factor_of, set_of}
use Rattle.cores.proofs.Operations.{few, proper, factor_le, set_is}

-- ---- how many numbers

-- at most m intervals for each: 2·m numbers
pub each_few : (m : ℕ) (g : ℤ → ℤ → List Interval) (l : List ℤ) → AllProper (intervals l) → ((s e : ℤ) → Proper s e → length (g s e) ≤ m) → length (flat (each g (intervals l))) ≤ 2 * m * (length l / 2)
each_few m g l p h =
    let k = length_each Proper m g (intervals l) p h in
    omega (arith, rw (length_intervals l) at k, length_flat (each g (intervals l)))

-- the greatest need
pub need_bound : (c n m : ℕ) → c ≤ 32 → n ≤ 16 → m ≤ 16 → c * n * m ≤ 8192
need_bound c n m h k l =
    let a : c * n ≤ 32 * 16 = mul-le-mul h k in
    let b : c * n * m ≤ 32 * 16 * 16 = mul-le-mul a l in
    b

pub bound : (o : Op) (l m : List ℤ) → length l ≤ 32 → length m ≤ 32 → need2 (factor_of o) l m ≤ 8192
bound o l m a b = need_bound (2 * factor_of o) (length l / 2) (length m / 2) (omega (arith, factor_le o)) (omega (arith, a)) (omega (arith, b))

-- ---- the results as the join asks for them: they were written from the front of what was lent, and stand in `mid`

module _ {x : List Interval} {start done : Writer ℤ} {lent : MutBor (List ℤ)} (s : Starts start lent) (w : Adds x done start) {mid : List ℤ} (e : mid ≡ done.room.now) where
  count : done.len ≡ length (flat x)
  count = omega (arith, s.empty, w.ends.count)

  taken : intervals (take done.len mid) ≡ x
  taken = ap (λ (l : List ℤ). intervals (take done.len l)) e ∙ ap intervals (first_written s w.ends) ∙ intervals_flat x

  long : length (take done.len mid) ≡ done.len
  long = length-take-le done.len mid (omega (arith, ap length e, inside w.ends))

  pub wrote_pairs : AllProper x → Pairs (take done.len mid)
  wrote_pairs p = record { even = omega (arith, long, count, length_flat x); proper = rw taken p }

  rest : (j : ℕ) → done.len ≤ j → drop j mid ≡ drop j lent.now
  rest j h = ap (drop j) (e ∙ w.ends.left) ∙ tail_drop start.room.now (flat x) start.len w.ends.room j (omega (arith, h, w.ends.count)) ∙ ap (drop j) s.now

  -- what the join leaves of them, ys, and what lies past the need
  joined
      : {r : ℕ} {ys : List ℤ} → length ys ≡ length (take done.len mid) → Rebuilt (take done.len mid) ys r → (need : ℕ) → done.len ≤ need → {f g : Bool} → f ≡ g
      → Cored (rebuild x) g need lent.now (ys ++ drop done.len mid) (record { count = r; flag = f })
  joined {r} {ys} a j need h q = record {
    count = j.count ∙ ap (λ (l : List Interval). length (flat (rebuild l))) taken;
    room = omega (arith, j.room, long, h);
    front = take-append-le r ys (drop done.len mid) (omega (arith, j.room, a)) ∙ j.front ∙ ap (λ (l : List Interval). flat (rebuild l)) taken;
    flagged = q;
    rest = drop_later (ys ++ drop done.len mid) mid done.len need (drop_at ys (drop done.len mid) done.len (a ∙ long)) h ∙ rest need h;
  }

-- ---- the results of an operation on each pair

-- a row's results take no more numbers than are kept free for them
pub row_few : (o : Op) (m : List ℤ) {s e : ℤ} → Proper s e → AllProper (intervals m) → length (flat (each (rule_of o s e) (intervals m))) ≤ 2 * factor_of o * (length m / 2)
row_few o m {s} {e} p q = each_few (factor_of o) (rule_of o s e) m q (λ t f i. few o s e t f p i)

module _ (o : Op) (left right : Operand) where
  abbrev l : List ℤ
  l = left.set.numbers.now

  abbrev m : List ℤ
  m = right.set.numbers.now

  pl : AllProper (intervals l)
  pl = normal_proper (intervals l) left.set.set.is

  pm : AllProper (intervals m)
  pm = normal_proper (intervals m) right.set.set.is

  row_count : (s e : ℤ) → Proper s e → length (each (rule_of o s e) (intervals m)) ≤ factor_of o * (length m / 2)
  row_count s e p = omega (arith, row_few o m p pm, length_flat (each (rule_of o s e) (intervals m)))

  within_need : length (flat (each_pair (rule_of o) (intervals l) (intervals m))) ≤ need2 (factor_of o) l m
  within_need = omega (arith, each_few (factor_of o * (length m / 2)) (λ s e. each (rule_of o s e) (intervals m)) l pl row_count)

  module _ {start done : Writer ℤ} {lent : MutBor (List ℤ)} (s : Starts start lent) (w : Adds (each_pair (rule_of o) (intervals l) (intervals m)) done start) {mid : List ℤ} (e : mid ≡ done.room.now) where
    within : done.len ≤ need2 (factor_of o) l m
    within = omega (arith, count s w e, within_need)

    pub join_asks : (length (take done.len mid) ≤ 8192) × Pairs (take done.len mid)
    join_asks = (omega (arith, long s w e, within, bound o l m left.few right.few), wrote_pairs s w e (all_pairs Proper (rule_of o) (intervals l) (intervals m) pl pm (proper o)))

    pub cored
        : {r : ℕ} {ys : List ℤ} → length ys ≡ length (take done.len mid) → Rebuilt (take done.len mid) ys r → {f g : Bool} → f ≡ g
        → Cored (set_of o (intervals l) (intervals m)) g (need2 (factor_of o) l m) lent.now (ys ++ drop done.len mid) (record { count = r; flag = f })
    cored a j q = rw (← set_is o (intervals l) (intervals m)) (joined s w e a j (need2 (factor_of o) l m) within q)
