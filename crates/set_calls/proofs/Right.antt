-- A call returns and leaves what its equations say, and its code has read its arguments, so their numbers are from MIN to MAX: `demand2_calls` and the laws of room speak of it. Assumes nothing.
use lib.IntN.{ℤ}
use mathlib.Core.Path.{◌≡◌, sym, ap, subst, ◌∙◌}
use mathlib.Core.Bool.{Bool, false}
use mathlib.Core.Logic.{◌⊎◌}
use mathlib.Core.List.{List, []}
use Prim.Native.Nat.{ℕ, ◌/◌}
use lib.ListN.{length}
use Rattle.meaning.specs.Lists.{All}
use Rattle.meaning.specs.Number.{InRange, Op1, Op2}
use Rattle.meaning.specs.Bools.{BoolInterval}
use Rattle.meaning.specs.NumberIntervals.{◌∈◌, union, intersect, of_bools, set1, set2, flag1, flag2, intervals}
use Rattle.meaning.specs.SetCalls.{Returned, refused, factor1, factor2, need1, need2, refusal, refusal2}
use Rattle.meaning.specs.Demand2Calls.{Call1, Call2, CallJust}
use Rattle.meaning.specs.Rooms.{NeverShort}
use Rattle.meaning.specs.Promises.{Works1, Works2, Gives1, Gives2, Unites, Meets}
use Rattle.laws.proofs.Members.{normal_proper}
use Rattle.laws.proofs.Flat.{even_flat, normal_even, flat_in_range}
use Rattle.laws.proofs.Demand2Calls.{unrefused_call, demand2_calls}
use Rattle.laws.proofs.Lengths.{room1, room2, union_room}
use Rattle.sets.proofs.Rooms.{intersect_room}
use Rattle.sets.specs.Sets.{Argument}
use Rattle.replies.specs.Returning.{Ended, Handed}
use Rattle.set_calls.proofs.Calls.{handed_refused, handed_as, no_need1}

pub ranged : {l : List ℤ} → Argument l → All InRange l
ranged {l} a =
    subst (λ (k : List ℤ). All InRange k) (even_flat l (normal_even l a.set.test)) (flat_in_range (intervals l) (normal_proper (intervals l) a.set.is))

-- what holds of x and o, if x refuses nothing, holds of what the call returned and left
pub carried : {y x : Returned} {a o : List ℤ} (P : Returned → List ℤ → Type 0) → y ≡ x → a ≡ o → y.number ≡ 0 → (x.number ≡ 0 → P x o) → P y a
carried {x} {a} P p f n h =
    subst (λ (t : Returned). P t a) (sym p) (subst (λ (l : List ℤ). P x l) (sym f) (h (sym (ap (λ (t : Returned). t.number) p) ∙ n)))

-- it did not return 4, if x does not say so
pub carried_room : {y x : Returned} (most : ℕ) (out : List ℤ) → y ≡ x → NeverShort most out x → NeverShort most out y
carried_room most out p h q n = h q (sym (ap (λ (t : Returned). t.number) p) ∙ n)

-- arguments that are not refused have been read by the code
abbrev Read1 : List ℤ → Type 0
Read1 left = refusal left ≡ 0 → Argument left

abbrev Read2 : List ℤ → List ℤ → Type 0
Read2 left right = refusal2 left right ≡ 0 → Argument left × Argument right

ranged2 : {l m : List ℤ} → Argument l × Argument m → All InRange l × All InRange m
ranged2 h = (ranged h.0, ranged h.1)

-- ---- with work

module _ (o : Op1) (left : List ℤ) (flag : Bool) (out work : List ℤ) {r : Returned} {a w : List ℤ} where
  pub works1 : Ended (refusal left) (need1 (factor1 o) left) (set1 o (intervals left)) (flag1 o flag) out work r a w → Read1 left
      → Works1 o left flag out work r a w
  works1 e h =
      let p = e.0 in record {
        returns = p;
        writes = e.1;
        clears = e.2;
        demand2 = λ n. carried (λ t l. Call1 o left flag t l) p e.1 n (λ z. demand2_calls.call1 o left flag out work (ranged (h (unrefused_call _ _ _ _ _ _ z))) z);
        room = carried_room _ out p (room1 o left flag out work (λ z. ranged (h z)));
      }

module _ (o : Op2) (left : List ℤ) (flag : Bool) (right out work : List ℤ) {r : Returned} {a w : List ℤ} where
  pub works2 : Ended (refusal2 left right) (need2 (factor2 o) left right) (set2 o (intervals left) (intervals right)) (flag2 o flag (intervals left) (intervals right)) out work r a w
      → Read2 left right → Works2 o left flag right out work r a w
  works2 e h =
      let p = e.0 in record {
        returns = p;
        writes = e.1;
        clears = e.2;
        demand2 = λ n. carried (λ t l. Call2 o left flag right t l) p e.1 n
            (λ z. let g = ranged2 (h (unrefused_call _ _ _ _ _ _ z)) in demand2_calls.call2 o left flag right out work g.0 g.1 z);
        room = carried_room _ out p (room2 left right (λ z. ranged2 (h z)) o flag out work);
      }

-- ---- without work

module _ (o : Op1) (left out : List ℤ) {r : Returned} {a : List ℤ} where
  pub gives1 : Handed (refusal left) (need1 (factor1 o) left) (set1 o (intervals left)) (flag1 o false) out r a → Read1 left → Gives1 o left out r a
  gives1 e h =
      let p = e.0 in record {
        returns = p;
        writes = e.1;
        demand2 = λ n. carried (λ t l. Call1 o left false t l) p e.1 n (λ z. demand2_calls.call1 o left false out [] (ranged (h (unrefused_call _ _ _ _ _ _ z))) z);
        room = carried_room _ out p (room1 o left false out [] (λ z. ranged (h z)));
      }

module _ (o : Op2) (left right out : List ℤ) {r : Returned} {a : List ℤ} where
  pub gives2 : Handed (refusal2 left right) (need2 (factor2 o) left right) (set2 o (intervals left) (intervals right)) (flag2 o false (intervals left) (intervals right)) out r a
      → Read2 left right → Gives2 o left right out r a
  gives2 e h =
      let p = e.0 in record {
        returns = p;
        writes = e.1;
        demand2 = λ n. carried (λ t l. Call2 o left false right t l) p e.1 n
            (λ z. let g = ranged2 (h (unrefused_call _ _ _ _ _ _ z)) in demand2_calls.call2 o left false right out [] g.0 g.1 z);
        room = carried_room _ out p (room2 left right (λ z. ranged2 (h z)) o false out []);
      }

module _ (left right out : List ℤ) {r : Returned} {a : List ℤ} where
  pub unites : Handed (refusal2 left right) 0 (union (intervals left) (intervals right)) false out r a → Read2 left right → Unites left right out r a
  unites e h =
      let p = e.0 in record {
        returns = p;
        writes = e.1;
        demand2 = λ n. carried (λ t l. CallJust (λ z. (z ∈ intervals left) ⊎ (z ∈ intervals right)) left right t l) p e.1 n
            (λ z. let g = ranged2 (h (unrefused_call _ _ _ _ _ _ z)) in demand2_calls.union_call left right out g.0 g.1 z);
        room = carried_room _ out p (union_room left right (λ z. ranged2 (h z)) out);
      }

  pub meets : Handed (refusal2 left right) 0 (intersect (intervals left) (intervals right)) false out r a → Read2 left right → Meets left right out r a
  meets e h =
      let p = e.0 in record {
        returns = p;
        writes = e.1;
        demand2 = λ n. carried (λ t l. CallJust (λ z. (z ∈ intervals left) × (z ∈ intervals right)) left right t l) p e.1 n
            (λ z. let g = ranged2 (h (unrefused_call _ _ _ _ _ _ z)) in demand2_calls.intersect_call left right out g.0 g.1 z);
        room = carried_room _ out p (intersect_room left right (λ z. ranged2 (h z)) out);
      }

-- ---- a call that refuses its arguments: k is the refusal as the code has it

module _ (left out : List ℤ) {k : ℕ} (e : k ≡ refusal left) (h : k ≡ 0 → ⊥) where
  pub gives1_refused : (o : Op1) → Gives1 o left out (refused k) out
  gives1_refused o = gives1 o left out (handed_refused _ _ _ _ _ _ e h) (λ z. absurd (h (e ∙ z)))

module _ (left right out : List ℤ) {k : ℕ} (e : k ≡ refusal2 left right) (h : k ≡ 0 → ⊥) where
  read_refused : Read2 left right
  read_refused z = absurd (h (e ∙ z))

  pub unites_refused : Unites left right out (refused k) out
  unites_refused = unites left right out (handed_refused _ _ _ _ _ _ e h) read_refused

  pub meets_refused : Meets left right out (refused k) out
  meets_refused = meets left right out (handed_refused _ _ _ _ _ _ e h) read_refused

-- ---- a call that hands out what a result may be, with no flag and no need of work

module _ (o : Op1) (left out : List ℤ) (m : BoolInterval) {r : Returned} {a : List ℤ} where
  pub gives1_bools : of_bools m ≡ set1 o (intervals left) → false ≡ flag1 o false → factor1 o ≡ 0 → 0 ≡ refusal left → Argument left → Handed 0 0 (of_bools m) false out r a → Gives1 o left out r a
  gives1_bools s f n e g h = gives1 o left out (handed_as out e (sym (no_need1 n (length left / 2))) s f h) (λ _. g)
