-- Put in order and joined in one pass: the join. Assumes nothing.
use mathlib.Core.Path.{◌≡◌, refl, sym, ap, ◌∙◌}
use mathlib.Core.List.{List, [], ◌∷◌}
use Prim.Native.Nat.{ℕ, ◌<◌}
use native.Mathlib.Omega.{arith}
use lib.ListN.{length}
use lib.Seq.{take_all}
use lib.IntN.{ℤ}
use Rattle.meaning.specs.NumberIntervals.{flat, intervals, rebuild}
use Rattle.sorting.specs.Order.{Arranged, Swept, Valid, join_sorted, sweep}
use Rattle.sorting.proofs.Ends.{valid_yes}
use Rattle.sorting.proofs.Halves.{few_sorted}
use Rattle.sets.specs.Sets.{Pairs, Rebuilt}
use Rattle.sets.proofs.Bridge.{pairs_valid, join_rebuild}

pub rebuilt : {old ys new : List ℤ} {r : ℕ} → length ys ≡ length old → Pairs old → Arranged old ys → Swept ys new r → Rebuilt old new r
rebuilt {old} {ys} e v a s =
    let f = join_rebuild old ys v.proper a.ordered a.from a.all in
    record { count = s.count ∙ ap length f; room = omega (arith, s.room, e); front = s.front ∙ f }

join_few : (l : List ℤ) → Valid l → length l < 4 → join_sorted l ≡ l
unfolding join_sorted sweep
join_few [] v h = refl
join_few (s ∷ []) v h = absurd v
join_few (s ∷ e ∷ []) v h = refl
join_few (s ∷ e ∷ x ∷ []) v h = absurd v.1
join_few (s ∷ e ∷ x ∷ y ∷ r) v h = absurd (omega (arith, h))

pub rebuilt_few : (old : List ℤ) → Pairs old → length old < 4 → Rebuilt old old (length old)
rebuilt_few old v k =
    let t = pairs_valid v in
    let f : old ≡ flat (rebuild (intervals old)) = sym (join_few old (valid_yes old t) k) ∙ join_rebuild old old v.proper (few_sorted old t k) (λ z i. i) (λ z i. i) in
    record { count = ap length f; room = omega arith; front = take_all (length old) old (omega arith) ∙ f }
