-- Comparisons and bools give nothing but point results: a test of intervals that holds is met by their ends, which are members. So for le, lt and not; for and, or and ne where both
-- sets have a member. Assumes nothing.
use lib.IntN.{ℤ, pos}
use lib.Signed.{le_z, lt_z, ◌≤ℤ◌, ≤ℤ_refl}
use mathlib.Core.Path.{◌≡◌, refl, sym, ap, ◌∙◌}
use mathlib.Core.Bool.{Bool, true, false, not, cond, ◌&&◌, ◌||◌}
use mathlib.Core.Logic.{◌⊎◌, inl, inr, ⊎_elim}
use mathlib.Core.List.{[], ◌∷◌}
use Rattle.std.specs.Prelude.{None, Some}
use Rattle.meaning.specs.Number.{ONE, eq_z, larger, smaller, truth, of_bool, not', Op2, le, lt, ne, and, or, point1, point2}
use Rattle.meaning.specs.Bools.{BoolInterval}
use Rattle.meaning.specs.Interval.{only}
use Rattle.meaning.specs.NumberIntervals.{Set, ◌∈◌, here, there, Normal, contains, zero_only, filled, as_bools, of_bools, some_of, some_pair, le_bools, lt_bools, share, constant, same_number, ne_bools, set1, set2}
use Rattle.meaning.specs.Demand2.{Result2, Only1, Only2}
use Rattle.laws.proofs.Integers.{zarith, never, and_both, and_cases, or_cases, not_true, suc_parts, by_test, if_yes, larger_ge, smaller_le}
use Rattle.laws.proofs.Members.{AllProper, not_in_none, between, in_span, in_either, contains_in, normal_proper}
use Rattle.laws.proofs.Compare.{share_yes}

-- ---- 0 or 1000

module _ (m : BoolInterval) {z : ℤ} where
  bools_in : z ∈ of_bools m → ((m.bfalse ≡ true) × (of_bool false ≡ z)) ⊎ ((m.btrue ≡ true) × (of_bool true ≡ z))
  unfolding of_bools
  bools_in i =
      ⊎_elim (λ h. inl (is_false m.bfalse refl h)) (λ h. inr (is_true m.btrue refl h)) (in_either (cond m.bfalse (only (pos 0)) []) i)
    where
      is_false : (t : Bool) → m.bfalse ≡ t → z ∈ cond t (only (pos 0)) [] → (m.bfalse ≡ true) × (of_bool false ≡ z)
      is_false true e h = let b = in_span h in (e, omega zarith)
      is_false false e h = not_in_none h

      is_true : (t : Bool) → m.btrue ≡ t → z ∈ cond t (only ONE) [] → (m.btrue ≡ true) × (of_bool true ≡ z)
      is_true true e h = let b = in_span h in (e, omega zarith)
      is_true false e h = not_in_none h

-- ---- a test that holds

-- an interval that passes, all of whose numbers are members
record Passed (p : ℤ → ℤ → Bool) (a : Set) : Type 0 where
  start : ℤ
  end : ℤ
  ordered : start ≤ℤ end
  inside : (w : ℤ) → start ≤ℤ w → w ≤ℤ end → w ∈ a
  passes : p start end ≡ true

passed : (p : ℤ → ℤ → Bool) (a : Set) → AllProper a → some_of p a ≡ true → Passed p a
unfolding some_of
passed p [] q e = never (sym e)
passed p (i ∷ s) q e =
    ⊎_elim
    (λ h. record { start = i.lo; end = i.hi; ordered = q.0.ordered; inside = λ w u v. here (between u v); passes = h })
    (λ h. let r = passed p s q.1 h in
    record { start = r.start; end = r.end; ordered = r.ordered; inside = λ w u v. there (r.inside w u v); passes = r.passes })
    (or_cases (p i.lo i.hi) (some_of p s) e)

start_in : {p : ℤ → ℤ → Bool} {a : Set} (r : Passed p a) → r.start ∈ a
start_in r = r.inside r.start (≤ℤ_refl r.start) r.ordered

end_in : {p : ℤ → ℤ → Bool} {a : Set} (r : Passed p a) → r.end ∈ a
end_in r = r.inside r.end r.ordered (≤ℤ_refl r.end)

module _ (a b : Set) (z : ℤ) (na : Normal a) (nb : Normal b) where
  -- two members of which the test says v
  record Told (test : ℤ → ℤ → Bool) (v : Bool) : Type 0 where
    left : ℤ
    right : ℤ
    left_in : left ∈ a
    right_in : right ∈ b
    says : test left right ≡ v

  -- a pair of intervals that passes tells of their ends
  told
      : (p : ℤ → ℤ → ℤ → ℤ → Bool) {test : ℤ → ℤ → Bool} {v : Bool} → some_pair p a b ≡ true
      → ((s e t f : ℤ) → s ∈ a → e ∈ a → t ∈ b → f ∈ b → p s e t f ≡ true → Told test v) → Told test v
  told p h k =
      let l = passed (λ s e. some_of (p s e) b) a (normal_proper a na) h in
      let r = passed (p l.start l.end) b (normal_proper b nb) l.passes in
      k l.start l.end r.start r.end (start_in l) (end_in l) (start_in r) (end_in r) r.passes

  -- 0 or 1000 by a test of two members
  by_test_of
      : {o : Op2} (test : ℤ → ℤ → Bool) → ((c d : ℤ) → point2 o c d ≡ Some (of_bool (test c d))) → (m : BoolInterval) → (m.bfalse ≡ true → Told test false)
      → (m.btrue ≡ true → Told test true) → z ∈ of_bools m → Result2 o a b z
  by_test_of {o} test k m f g i = ⊎_elim (λ h. result (f h.0) h.1) (λ h. result (g h.0) h.1) (bools_in m i)
    where
      result : {v : Bool} → Told test v → of_bool v ≡ z → Result2 o a b z
      result t e = record { left = t.left; right = t.right; left_in = t.left_in; right_in = t.right_in; gives = k t.left t.right ∙ ap Some (ap of_bool t.says ∙ e) }

  le_only : z ∈ set2 le a b → Result2 le a b z
  unfolding set2 le_bools point2
  le_only =
      by_test_of le_z (λ c d. refl) (le_bools a b)
      (λ h. told (λ s e t f. lt_z t e) h (λ s e t f is ie it jf p. record { left = e; right = t; left_in = ie; right_in = it; says = omega (zarith, p) }))
      (λ h. told (λ s e t f. le_z s f) h (λ s e t f is ie it jf p. record { left = s; right = f; left_in = is; right_in = jf; says = p }))

  lt_only : z ∈ set2 lt a b → Result2 lt a b z
  unfolding set2 lt_bools point2
  lt_only =
      by_test_of lt_z (λ c d. refl) (lt_bools a b)
      (λ h. told (λ s e t f. le_z t e) h (λ s e t f is ie it jf p. record { left = e; right = t; left_in = ie; right_in = it; says = omega (zarith, p) }))
      (λ h. told (λ s e t f. lt_z s f) h (λ s e t f is ie it jf p. record { left = s; right = f; left_in = is; right_in = jf; says = p }))

pub only_le : Only2 le
only_le a b z na nb m = le_only a b z na nb m

pub only_lt : Only2 lt
only_lt a b z na nb m = lt_only a b z na nb m

-- ---- not

-- a set that may be true has a member that is not 0
record True (a : Set) : Type 0 where
  number : ℤ
  number_in : number ∈ a
  is_true : truth number ≡ true

some_true : (a : Set) → Normal a → (filled a && not (zero_only a)) ≡ true → True a
some_true [] n e = never (sym e)
some_true (i ∷ []) n e =
    ⊎_elim
    (λ h. record { number = i.lo; number_in = here (between (≤ℤ_refl i.lo) n.0.ordered); is_true = ap not h })
    (λ h. record { number = i.hi; number_in = here (between n.0.ordered (≤ℤ_refl i.hi)); is_true = ap not h })
    (and_cases (eq_z i.lo (pos 0)) (eq_z i.hi (pos 0)) (not_true (zero_only (i ∷ [])) e))
some_true (i ∷ j ∷ s) n e = go (eq_z i.lo (pos 0)) refl
  where
    go : (t : Bool) → eq_z i.lo (pos 0) ≡ t → True (i ∷ j ∷ s)
    go false h = record { number = i.lo; number_in = here (between (≤ℤ_refl i.lo) n.0.ordered); is_true = ap not h }
    go true h =
        let q : eq_z j.lo (pos 0) ≡ false = omega (zarith, h, n.0.ordered, n.1, suc_parts i.hi) in
        record { number = j.lo; number_in = there (here (between (≤ℤ_refl j.lo) n.2.0.ordered)); is_true = ap not q }

pub only_not : Only1 not'
unfolding set1 as_bools point1
only_not a z n m =
    ⊎_elim
    (λ h. let t = some_true a n h.0 in record { member = t.number; member_in = t.number_in; gives = ap (λ (q : Bool). of_bool (not q)) t.is_true ∙ h.1 })
    (λ h. record { member = pos 0; member_in = contains_in (pos 0) a h.0; gives = h.1 })
    (bools_in _ m)

-- ---- and, or, ne: sets that have a member

module _ (a b : Set) (z : ℤ) (na : Normal a) (nb : Normal b) {x y : ℤ} (mx : x ∈ a) (my : y ∈ b) where
  -- the point result of two members whose truth is known
  by_truth : {o : Op2} {u v : ℤ} {p q : Bool} (g : Bool → Bool → Bool) → ((c d : ℤ) → point2 o c d ≡ Some (of_bool (g (truth c) (truth d))))
      → u ∈ a → v ∈ b → truth u ≡ p → truth v ≡ q → of_bool (g p q) ≡ z → Result2 o a b z
  by_truth {u} {v} g k mu mv e f h = record { left = u; right = v; left_in = mu; right_in = mv; gives = k u v ∙ (λ i. Some (of_bool (g (e i) (f i)))) ∙ ap Some h }

  pub and_only : z ∈ set2 and a b → Result2 and a b z
  unfolding set2 as_bools point2
  and_only m =
      ⊎_elim
      (λ h. ⊎_elim
      (λ k. by_truth ◌&&◌ (λ c d. refl) (contains_in (pos 0) a k) my refl refl h.1)
      (λ k. by_truth ◌&&◌ (λ c d. refl) mx (contains_in (pos 0) b k) refl refl (ap of_bool (and_false (truth x)) ∙ h.1))
      (or_cases (contains (pos 0) a) (contains (pos 0) b) h.0))
      (λ h. let k = and_both (as_bools a).btrue (as_bools b).btrue h.0 in
      let t = some_true a na k.0 in
      let r = some_true b nb k.1 in
      by_truth ◌&&◌ (λ c d. refl) t.number_in r.number_in t.is_true r.is_true h.1)
      (bools_in _ m)
    where
      and_false : (t : Bool) → (t && false) ≡ false
      and_false true = refl
      and_false false = refl

  pub or_only : z ∈ set2 or a b → Result2 or a b z
  unfolding set2 as_bools point2
  or_only m =
      ⊎_elim
      (λ h. let k = and_both (contains (pos 0) a) (contains (pos 0) b) h.0 in
      by_truth ◌||◌ (λ c d. refl) (contains_in (pos 0) a k.0) (contains_in (pos 0) b k.1) refl refl h.1)
      (λ h. ⊎_elim
      (λ k. let t = some_true a na k in by_truth ◌||◌ (λ c d. refl) t.number_in my t.is_true refl h.1)
      (λ k. let t = some_true b nb k in by_truth ◌||◌ (λ c d. refl) mx t.number_in refl t.is_true (ap of_bool (or_true (truth x)) ∙ h.1))
      (or_cases (as_bools a).btrue (as_bools b).btrue h.0))
      (bools_in _ m)
    where
      or_true : (t : Bool) → (t || true) ≡ true
      or_true true = refl
      or_true false = refl

  -- x is the only member, or there is another one
  other : (c : Set) {w : ℤ} → Normal c → w ∈ c → (constant c ≡ Some w) ⊎ ((v : ℤ) × ((v ∈ c) × (eq_z v w ≡ false)))
  other [] n m = not_in_none m
  other (i ∷ []) {w} n m =
      let q = in_span m in
      let lo_in : i.lo ∈ (i ∷ []) = here (between (≤ℤ_refl i.lo) n.0.ordered) in
      let hi_in : i.hi ∈ (i ∷ []) = here (between n.0.ordered (≤ℤ_refl i.hi)) in
      by_test (eq_z i.lo i.hi)
      (λ t. let k : i.lo ≡ w = omega (zarith, t, q.above, q.below) in inl (sym (if_yes (Some i.lo) None t) ∙ ap Some k))
      (λ t. by_test (eq_z i.lo w) (λ u. let k : eq_z i.hi w ≡ false = omega (zarith, t, u) in inr (i.hi, (hi_in, k))) (λ u. inr (i.lo, (lo_in, u))))
  other (i ∷ j ∷ s) {w} n m =
      by_test (eq_z i.lo w)
      (λ u. let k : eq_z j.lo w ≡ false = omega (zarith, u, n.0.ordered, n.1, suc_parts i.hi) in
      inr (j.lo, (there (here (between (≤ℤ_refl j.lo) n.2.0.ordered)), k)))
      (λ u. inr (i.lo, (here (between (≤ℤ_refl i.lo) n.0.ordered), u)))

  differing : {u v : ℤ} → u ∈ a → v ∈ b → eq_z u v ≡ false → of_bool true ≡ z → Result2 ne a b z
  unfolding point2
  differing {u} {v} mu mv e h = record { left = u; right = v; left_in = mu; right_in = mv; gives = ap Some (ap (λ (t : Bool). of_bool (not t)) e ∙ h) }

  pub ne_only : z ∈ set2 ne a b → Result2 ne a b z
  unfolding set2 ne_bools point2
  ne_only m = ⊎_elim shared apart' (bools_in (ne_bools a b) m)
    where
      shared : (share a b ≡ true) × (of_bool false ≡ z) → Result2 ne a b z
      shared h =
          let l = passed (λ s e. some_of (λ t f. le_z (larger s t) (smaller e f)) b) a (normal_proper a na) h.0 in
          let r = passed (λ t f. le_z (larger l.start t) (smaller l.end f)) b (normal_proper b nb) l.passes in
          let w = larger l.start r.start in
          let g = larger_ge l.start r.start in
          let k = smaller_le l.end r.end in
          let same : eq_z w w ≡ true = omega zarith in
          record {
            left = w;
            right = w;
            left_in = l.inside w (omega (zarith, g.0)) (omega (zarith, r.passes, k.0));
            right_in = r.inside w (omega (zarith, g.1)) (omega (zarith, r.passes, k.1));
            gives = ap Some (ap (λ (t : Bool). of_bool (not t)) same ∙ h.1);
          }

      apart' : ((not (share a b) || not (same_number (constant a) (constant b))) ≡ true) × (of_bool true ≡ z) → Result2 ne a b z
      apart' h = by_test (eq_z x y) (λ t. ⊎_elim (λ k. unshared t k) (λ k. unlike t k) (or_cases (not (share a b)) (not (same_number (constant a) (constant b))) h.0)) (λ t. differing mx my t h.1)
        where
          unshared : eq_z x y ≡ true → not (share a b) ≡ true → Result2 ne a b z
          unshared t k = never (sym (share_yes mx my t) ∙ not_true (share a b) k)

          unlike : eq_z x y ≡ true → not (same_number (constant a) (constant b)) ≡ true → Result2 ne a b z
          unlike t k =
              ⊎_elim
              (λ p. ⊎_elim
              (λ q. never (sym ((λ i. same_number (p i) (q i)) ∙ t) ∙ not_true (same_number (constant a) (constant b)) k))
              (λ q. let u : eq_z x q.0 ≡ false = omega (zarith, t, q.1.1) in differing mx q.1.0 u h.1)
              (other b nb my))
              (λ p. let u : eq_z p.0 y ≡ false = omega (zarith, t, p.1.1) in differing p.1.0 my u h.1)
              (other a na mx)
