-- The closest of the numbers that are closest in their intervals. Assumes nothing.
use Rattle.std.proofs.Common.{◌≡◌, ◌∙◌, sym, ap, subst, refl, rules, List, ◌/◌, ℤ, length, arith}
use Rattle.std.specs.Simd.{first_chunks}
use Rattle.std.proofs.lemmas.Iterator.{YieldsList, YieldsList-from_slice, YieldsList-from_map}
use Rattle.std.proofs.lemmas.Iterator.Adapters.{serves_from_places}
use Rattle.std.proofs.iter.Yields.{fronts}
use mir.Facts.{to_z-of_z}
use Rattle.meaning.specs.Number.{distance}
use Rattle.meaning.specs.NumberIntervals.{Set, intervals}
use Rattle.laws.proofs.Members.{AllProper, normal_proper}
use Rattle.laws.proofs.Machine.{rd}
use Rattle.sets.specs.Sets.{SetEnds}
use Rattle.setpoints.specs.Saying.{IsClosest}
use Rattle.setpoints.proofs.Picks.{spans, chunked, proper_at, mark, picked_is}
use Rattle.setpoints.proofs.closest.Goals as goal

-- the chunks of a set's ends are its intervals
pairs_are : (l : List ℤ) {ps : List (List ℤ)} → ps ≡ first_chunks 2 (length l / 2) l → spans ps ≡ intervals l
pairs_are l e = ap spans e ∙ chunked (length l / 2) l (omega arith) (omega arith)

all_proper : {l : List ℤ} {ps : List (List ℤ)} → ps ≡ first_chunks 2 (length l / 2) l → SetEnds l → AllProper (spans ps)
all_proper {l} e s = subst AllProper (sym (pairs_are l e)) (normal_proper (intervals l) s.is)

pub min_by_key-requires-clause-can : goal.min_by_key-requires-clause-can
min_by_key-requires-clause-can c =
    let ps = c.as_chunks.result.0.now in
    let road : YieldsList fronts (λ y. y.now) c.map.result.iter ps = YieldsList-from_slice ps cc in
    let proper = all_proper c.as_chunks.ensures.front c.args.set.set in
    (tt, serves_from_places road (λ x q r. search rules) (λ x k h e. let p = proper_at ps k x.now proper h e in search (rules, p)))

pub returns : goal.returns
unfolding distance
returns c =
    let l = c.args.set.numbers.now in
    let ps = c.as_chunks.result.0.now in
    let x = rd c.args.x in
    let same : c.map.result.f.0.now ≡ x = ap (λ f. f.0.now) c.map.ensures.closure in
    let road : YieldsList fronts (λ y. y.now) c.map.result.iter ps = YieldsList-from_slice ps cc in
    let picked =
    picked_is x _ (λ a k q d. search rules) ps c.min_by_key.result c.min_by_key.ensures.ran
    (YieldsList-from_map _ (mark x) road refl (λ y r q k. let w : (q ≡ c.map.result.f) × (r ≡ mark c.map.result.f.0.now y.now) = search rules in (w.0, w.1 ∙ ap (λ (z : ℤ). mark z y.now) same))) in
    subst (λ (w : Set × ℤ). IsClosest c.min_by_key.result w.0 w.1) (λ i. (pairs_are l c.as_chunks.ensures.front i, to_z-of_z c.ranges.x i)) picked
