-- Laws of a line's parts. Assumes nothing.
use mathlib.Core.Path.{◌≡◌, refl, sym, ap, ◌∙◌}
use mathlib.Core.Bool.{Bool, true, false, cond, ◌||◌, ◌&&◌}
use mathlib.Core.List.{List, [], ◌∷◌}
use lib.Pointwise.{pointwise}
use Prim.Native.Nat.{ℕ, suc, ◌+◌, ◌<◌}
use Prim.Native.Char.{code}
use native.Mathlib.Omega.{arith}
use native.Mathlib.Nat.{add_assoc, add-zero}
use lib.Dec.{eqb}
use lib.IntN.{ℤ}
use lib.Signed.{lt_z}
use lib.ListN.{length, get_or, take, drop, length-drop}
use lib.Seq.{drop-drop, get_or-drop}
use borrow.Author.Tests.{eq-eqb, ne_eqb, eqb-true, eqb-false}
use Rattle.std.specs.Prelude.{Option, Some, None, Result, Ok, Err, IfOk}
use Rattle.meaning.specs.Outcome.{Res, ok, stop}
use Rattle.meaning.specs.Sheet.{beyond, Form, put, hold, Line, act, far_form, far_act, far_line, crossed_act, crossed_line}
use Rattle.meaning.specs.Reading.{Got, got, bad, map_got, and_then, byte, closed, begins, literal, register, arg, tree, on_register, bounds, value, act_of, line_of, whole_line, judged, read_line}
use Rattle.laws.proofs.Integers.{by_test}
use Rattle.refusals.specs.declared.Cause.{Cause}
use Rattle.refusals.specs.declared.Cause.TheVariants.{Ungrammatical, FarLiteral}
use Rattle.interval.specs.declared.Interval.{Interval}
use Rattle.literals.specs.Answer.{got_of, held as value_of}
use Rattle.literals.specs.declared.Got.{Got as Found}
use Rattle.literals.proofs.Literals.{found, not_found}
use Rattle.forms.specs.Answer.{sizes}
use Rattle.lines.specs.Answer.{ends, ranged, range_from, put_at, put_of, Part}
use Rattle.lines.specs.declared.Line.{Line as Read}
use Rattle.lines.specs.declared.Line.TheVariants.{In, Put, Hold}
use Rattle.meaning.specs.Bytes.{bytes}
use Rattle.laws.proofs.Integers.{cond_case}
use Rattle.laws.proofs.Fusion.{map_cond, map_any, map_closed, far_arg}

-- ---- the end of a line

ends_only : (s : List ℕ) → ends s 0 ≡ pointwise eqb s (code ")" ∷ [])
unfolding ends
ends_only [] = refl
ends_only (b ∷ []) = refl
ends_only (b ∷ c ∷ s) = ap (λ x. eqb b 41 && x) (ne_eqb 1 (suc (suc (length s))) (λ e. absurd (omega arith)))

pub ends_part : (s : List ℕ) (i m : ℕ) {t : List ℕ} → t ≡ drop i s → ends t m ≡ ends s (i + m)
unfolding ends
ends_part s i m {t} e = rw (e, get_or-drop i s m 0) (ap (λ b. eqb (get_or s (i + m) 0) (code ")") && b) (go (eqb (m + 1) (length (drop i s))) refl))
  where
    go : (b : Bool) → eqb (m + 1) (length (drop i s)) ≡ b → b ≡ eqb (i + m + 1) (length s)
    go true h = let n = eqb-true _ _ h in let k : i + m + 1 ≡ length s = omega (arith, length-drop i s) in sym (eq-eqb _ _ k)
    go false h = let n = eqb-false _ _ h in let k : i + m + 1 ≡ length s → ⊥ = λ q. n (omega (arith, length-drop i s, q)) in sym (ne_eqb _ _ k)

ends_first : (s : List ℕ) (n : ℕ) → ends s n ≡ pointwise eqb (drop n s) (code ")" ∷ [])
ends_first s n = ap (ends s) (sym (add-zero n)) ∙ sym (ends_part s n 0 refl) ∙ ends_only (drop n s)

-- the test that finds it
pub ends_by : (s : List ℕ) (n : ℕ) {t b : List ℕ} → t ≡ drop n s → b ≡ code ")" ∷ [] → ends s n ≡ pointwise eqb t b
ends_by s n {t} {b} et eb = ends_first s n ∙ sym (λ k. pointwise eqb (et k) (eb k))

whole_ends : (s : List ℕ) (i : ℕ) (l : Line) → whole_line s (closed s i l) ≡ cond (ends s i) (ok l) (stop 6)
unfolding whole_line closed ends
whole_ends s i l = by_test (eqb (get_or s i 0) (code ")")) (λ e. rw e) (λ e. rw e)

-- ---- (in R LO HI) and (hold R LO HI)

judged_range : (held : Bool) (r : ℕ) (z z' : ℤ) → judged (ok (ranged held r z z')) ≡ cond (beyond z || beyond z') (stop 7) (cond (lt_z z' z) (stop 6) (ok (ranged held r z z')))
unfolding judged far_line far_act crossed_line crossed_act
judged_range true r z z' = refl
judged_range false r z z' = refl

none_far : (z : ℤ) → value_of z ≡ None → beyond z ≡ true
unfolding value_of
none_far z e = by_test (beyond z) (λ h. h) (λ h. let q : ◌≡◌ {A = Option ℤ} (Some z) None = rw h at e in absurd (let x : ⊥ = cc in x))

some_near : (z : ℤ) {l : ℤ} → value_of z ≡ Some l → (beyond z ≡ false) × (z ≡ l)
unfolding value_of
some_near z {l} e = by_test (beyond z)
    (λ h. let q : ◌≡◌ {A = Option ℤ} None (Some l) = rw h at e in absurd (let x : ⊥ = cc in x))
    (λ h. let q : ◌≡◌ {A = Option ℤ} (Some z) (Some l) = rw h at e in (h, cc))

or_yes : (a : Bool) → (a || true) ≡ true
or_yes true = refl
or_yes false = refl

-- what the answer x says of a line with a range from i on
abbrev Judged : List ℕ → Bool → ℕ → ℕ → Result Interval Cause → Type 0
Judged s held r i x = range_from held r x ≡ judged (whole_line s (bounds (ranged held r) s i))

-- the text from i on: what stands at n in it, and what is left of it behind n
module _ (s : List ℕ) (i n : ℕ) {t : List ℕ} (et : t ≡ drop i s) where
  pub at_part : get_or s (i + n) 0 ≡ get_or t n 0
  at_part = sym (ap (λ (u : List ℕ). get_or u n 0) et ∙ get_or-drop i s n 0)

  pub left_part : {u : List ℕ} → u ≡ drop (n + 1) t → drop (i + n + 1) s ≡ u
  left_part {u} eu = ap (λ (k : ℕ). drop k s) (add_assoc i n 1) ∙ sym (drop-drop (n + 1) i s) ∙ sym (ap (drop (n + 1)) et) ∙ sym eu

-- which case of `bounds` holds
module _ (s : List ℕ) (held : Bool) (r i : ℕ) {t : List ℕ} (et : t ≡ drop i s) {a : Option (Found (Option ℤ))} (ea : got_of a ≡ map_got value_of (literal t)) where
  pub bounds_bad : a ≡ None → Judged s held r i (Err Ungrammatical)
  unfolding bounds whole_line judged
  bounds_bad e = rw (← et, not_found value_of (literal t) ea e)

  module _ {lo : Found (Option ℤ)} (ga : a ≡ Some lo) where
    lo_is : (z : ℤ) × (literal t ≡ got z lo.len) × (value_of z ≡ lo.value)
    lo_is = found value_of (literal t) ea ga

    pub bounds_no_space : (get_or t lo.len 0 ≡ 32 → ⊥) → Judged s held r i (Err Ungrammatical)
    unfolding bounds whole_line judged
    bounds_no_space ne = rw (← et, lo_is.1, at_part s i lo.len et, ne_eqb _ _ ne)

    module _ (sp : get_or t lo.len 0 ≡ 32) {u : List ℕ} (eu : u ≡ drop (lo.len + 1) t) {b : Option (Found (Option ℤ))} (eb : got_of b ≡ map_got value_of (literal u)) where
      pub bounds_second_bad : b ≡ None → Judged s held r i (Err Ungrammatical)
      unfolding bounds whole_line judged
      bounds_second_bad e = rw (← et, lo_is.1, at_part s i lo.len et, eq-eqb _ _ sp, left_part s i lo.len et eu, not_found value_of (literal u) eb e)

      module _ {hi : Found (Option ℤ)} (gb : b ≡ Some hi) where
        hi_is : (z : ℤ) × (literal u ≡ got z hi.len) × (value_of z ≡ hi.value)
        hi_is = found value_of (literal u) eb gb

        whole_is : whole_line s (bounds (ranged held r) s i) ≡ cond (ends u hi.len) (ok (ranged held r lo_is.0 hi_is.0)) (stop 6)
        unfolding bounds
        whole_is =
            rw (← et, lo_is.1, at_part s i lo.len et, eq-eqb _ _ sp, left_part s i lo.len et eu, hi_is.1)
            (whole_ends s (i + lo.len + 1 + hi.len) (ranged held r lo_is.0 hi_is.0)
            ∙ ap (λ c. cond c (ok (ranged held r lo_is.0 hi_is.0)) (stop 6)) (sym (ends_part s (i + lo.len + 1) hi.len (sym (left_part s i lo.len et eu)))))

        pub bounds_unended : ends u hi.len ≡ false → Judged s held r i (Err Ungrammatical)
        unfolding judged
        bounds_unended h = let e : whole_line s (bounds (ranged held r) s i) ≡ stop 6 = rw h at whole_is in sym (ap judged e)

        module _ (h : ends u hi.len ≡ true) where
          judged_is : judged (whole_line s (bounds (ranged held r) s i))
              ≡ cond (beyond lo_is.0 || beyond hi_is.0) (stop 7) (cond (lt_z hi_is.0 lo_is.0) (stop 6) (ok (ranged held r lo_is.0 hi_is.0)))
          judged_is = ap judged (whole_is ∙ rw h) ∙ judged_range held r lo_is.0 hi_is.0

          pub bounds_far_lo : lo.value ≡ None → Judged s held r i (Err FarLiteral)
          bounds_far_lo e = sym (judged_is ∙ rw (none_far lo_is.0 (lo_is.2 ∙ e)))

          pub bounds_far_hi : hi.value ≡ None → Judged s held r i (Err FarLiteral)
          bounds_far_hi e = sym (judged_is ∙ rw (none_far hi_is.0 (hi_is.2 ∙ e), or_yes (beyond lo_is.0)))

          module _ {l g : ℤ} (el : lo.value ≡ Some l) (eg : hi.value ≡ Some g) where
            near_is : judged (whole_line s (bounds (ranged held r) s i)) ≡ cond (lt_z g l) (stop 6) (ok (ranged held r l g))
            near_is =
                let p = some_near lo_is.0 (lo_is.2 ∙ el) in
                let q = some_near hi_is.0 (hi_is.2 ∙ eg) in
                judged_is ∙ rw (p.0, q.0, p.1, q.1)

            pub bounds_crossed : lt_z g l ≡ true → Judged s held r i (Err Ungrammatical)
            bounds_crossed e = sym (near_is ∙ rw e)

            pub bounds_is : lt_z g l ≡ false → ok (ranged held r l g) ≡ judged (whole_line s (bounds (ranged held r) s i))
            bounds_is e = sym (near_is ∙ rw e)

-- ---- (put R E)

-- what the sizes say of the tree
module _ (t : List ℕ) {q : Got Bool} (eq : q ≡ arg sizes 7 t) where
  sizes_are : map_got far_form (arg tree 7 t) ≡ q
  sizes_are = far_arg 7 t ∙ sym eq

  tree_is : {far : Bool} {n : ℕ} → q ≡ got far n → (e : Form) × (arg tree 7 t ≡ got e n) × (far_form e ≡ far)
  tree_is {far} {n} e = go (arg tree 7 t) (sizes_are ∙ e)
    where
      go : (g : Got Form) → map_got far_form g ≡ got far n → (e : Form) × (g ≡ got e n) × (far_form e ≡ far)
      go (got f m) h = (f, cc, cc)
      go bad h = let z' : ◌≡◌ {A = ℕ} 0 1 = cc in absurd (omega arith)

  tree_bad : q ≡ bad → arg tree 7 t ≡ bad
  tree_bad e = go (arg tree 7 t) (sizes_are ∙ e)
    where
      go : (g : Got Form) → map_got far_form g ≡ bad → g ≡ bad
      go (got f m) h = let z' : ◌≡◌ {A = ℕ} 0 1 = cc in absurd (omega arith)
      go bad h = refl

module _ (s : List ℕ) (r i : ℕ) {t : List ℕ} (et : t ≡ drop i s) {q : Option (Found Bool)} (eq : got_of q ≡ arg sizes 7 t) where
  pub put_bad : q ≡ None → stop 6 ≡ judged (whole_line s (put_at s r i))
  unfolding value whole_line judged
  put_bad e = rw (← et, tree_bad t eq (ap got_of e))

  module _ {size : Found Bool} (qo : q ≡ Some size) where
    tree_got : (e : Form) × (arg tree 7 t ≡ got e size.len) × (far_form e ≡ size.value)
    tree_got = tree_is t eq (ap got_of qo)

    put_whole : whole_line s (put_at s r i) ≡ cond (ends t size.len) (ok (act (put r tree_got.0))) (stop 6)
    unfolding value
    put_whole =
        rw (← et, tree_got.1)
        (whole_ends s (i + size.len) (act (put r tree_got.0)) ∙ ap (λ c. cond c (ok (act (put r tree_got.0))) (stop 6)) (sym (ends_part s i size.len et)))

    pub put_unended : ends t size.len ≡ false → stop 6 ≡ judged (whole_line s (put_at s r i))
    unfolding judged
    put_unended h = let e : whole_line s (put_at s r i) ≡ stop 6 = rw h at put_whole in sym (ap judged e)

    module _ (h : ends t size.len ≡ true) where
      put_judged : judged (whole_line s (put_at s r i)) ≡ cond size.value (stop 7) (ok (act (put r tree_got.0)))
      unfolding judged far_line far_act crossed_line crossed_act
      put_judged = let e : whole_line s (put_at s r i) ≡ ok (act (put r tree_got.0)) = rw h at put_whole in ap judged e ∙ rw tree_got.2

      pub put_far : size.value ≡ true → stop 7 ≡ judged (whole_line s (put_at s r i))
      put_far k = sym (put_judged ∙ ap (λ b. cond b (stop 7) (ok (act (put r tree_got.0)))) k)

      pub put_is : size.value ≡ false → put_of r (arg tree 7 t) ≡ judged (whole_line s (put_at s r i))
      put_is k = ap (put_of r) tree_got.1 ∙ sym (put_judged ∙ ap (λ b. cond b (stop 7) (ok (act (put r tree_got.0)))) k)

-- ---- the line's register

module _ (s : List ℕ) (body : ℕ → ℕ → Got Line) (i : ℕ) {t : List ℕ} (et : t ≡ drop i s) {g : Option (Found ℕ)} (eg : got_of g ≡ register t) where
  pub no_register : g ≡ None → stop 6 ≡ judged (whole_line s (on_register s i body))
  unfolding whole_line judged
  no_register e = rw (← et, sym eg ∙ ap got_of e)

  module _ {r : Found ℕ} (gr : g ≡ Some r) where
    pub register_no_space : (get_or t r.len 0 ≡ 32 → ⊥) → stop 6 ≡ judged (whole_line s (on_register s i body))
    unfolding whole_line judged
    register_no_space ne = rw (← et, sym eg ∙ ap got_of gr, at_part s i r.len et, ne_eqb _ _ ne)

    pub register_is : get_or t r.len 0 ≡ 32 → judged (whole_line s (body r.value (i + r.len + 1))) ≡ judged (whole_line s (on_register s i body))
    register_is sp = rw (← et, sym eg ∙ ap got_of gr, at_part s i r.len et, eq-eqb _ _ sp)

-- ---- the whole line

map_register : {A B : Type 0} (f : A → B) (s : List ℕ) (k : ℕ) (p : ℕ → ℕ → Got A) (q : ℕ → ℕ → Got B) → ((r i : ℕ) → map_got f (p r i) ≡ q r i) → map_got f (on_register s k p) ≡ on_register s k q
map_register f s k p q h =
    map_any f (register (drop k s)) (λ r n. byte s (k + n) (code " ") (p r (k + n + 1))) (λ r n. byte s (k + n) (code " ") (q r (k + n + 1)))
    (λ r n. map_cond f (eqb (get_or s (k + n) 0) (code " ")) (p r (k + n + 1)) bad (q r (k + n + 1)) bad (h r (k + n + 1)) refl)

map_put : (s : List ℕ) (r i : ℕ) → map_got act (value tree (put r) 7 s i) ≡ put_at s r i
unfolding value
map_put s r i =
    map_any act (arg tree 7 (drop i s)) (λ e n. closed s (i + n) (put r e)) (λ e n. closed s (i + n) (act (put r e)))
    (λ e n. map_closed act s (i + n) (put r e) (act (put r e)) refl)

map_hold : (s : List ℕ) (r i : ℕ) → map_got act (bounds (hold r) s i) ≡ bounds (ranged true r) s i
unfolding bounds
map_hold s r i =
    map_any act (literal (drop i s)) (λ lo n. byte s (i + n) (code " ") (and_then (literal (drop (i + n + 1) s)) (λ hi m. closed s (i + n + 1 + m) (hold r lo hi))))
    (λ lo n. byte s (i + n) (code " ") (and_then (literal (drop (i + n + 1) s)) (λ hi m. closed s (i + n + 1 + m) (act (hold r lo hi)))))
    (λ lo n. map_cond act (eqb (get_or s (i + n) 0) (code " "))
    (and_then (literal (drop (i + n + 1) s)) (λ hi m. closed s (i + n + 1 + m) (hold r lo hi))) bad
    (and_then (literal (drop (i + n + 1) s)) (λ hi m. closed s (i + n + 1 + m) (act (hold r lo hi)))) bad
    (map_any act (literal (drop (i + n + 1) s)) (λ hi m. closed s (i + n + 1 + m) (hold r lo hi)) (λ hi m. closed s (i + n + 1 + m) (act (hold r lo hi)))
    (λ hi m. map_closed act s (i + n + 1 + m) (hold r lo hi) (act (hold r lo hi)) refl))
    refl)

begins_prefix : (w s : List ℕ) → begins w s ≡ pointwise eqb (take (length w) s) w
unfolding begins
begins_prefix [] s = refl
begins_prefix (x ∷ w) [] = refl
begins_prefix (x ∷ w) (b ∷ s) = ap (λ c. eqb b x && c) (begins_prefix w s)

-- the text begins with the word, by the code's test
abbrev Begins : List ℕ → List ℕ → Bool → Type 0
Begins w s b = pointwise eqb (take (length w) s) w ≡ b

-- by the first word
module _ (s : List ℕ) where
  pub line_in : Begins (bytes "(in ") s true → judged (whole_line s (on_register s 4 (λ r k. bounds (ranged false r) s k))) ≡ read_line s
  unfolding read_line line_of
  line_in e = rw (begins_prefix (bytes "(in ") s ∙ e)

  module _ (n : Begins (bytes "(in ") s false) where
    pub line_put : Begins (bytes "(put ") s true → judged (whole_line s (on_register s 5 (put_at s))) ≡ read_line s
    unfolding read_line line_of act_of
    line_put e =
        rw (begins_prefix (bytes "(in ") s ∙ n, begins_prefix (bytes "(put ") s ∙ e)
        (ap (λ (g : Got Line). judged (whole_line s g)) (sym (map_register act s 5 (λ r i. value tree (put r) 7 s i) (put_at s) (λ r i. map_put s r i))))

    module _ (m : Begins (bytes "(put ") s false) where
      pub line_hold : Begins (bytes "(hold ") s true → judged (whole_line s (on_register s 6 (λ r k. bounds (ranged true r) s k))) ≡ read_line s
      unfolding read_line line_of act_of
      line_hold e =
          rw (begins_prefix (bytes "(in ") s ∙ n, begins_prefix (bytes "(put ") s ∙ m, begins_prefix (bytes "(hold ") s ∙ e)
          (ap (λ (g : Got Line). judged (whole_line s g)) (sym (map_register act s 6 (λ r i. bounds (hold r) s i) (λ r k. bounds (ranged true r) s k) (λ r i. map_hold s r i))))

      pub line_none : Begins (bytes "(hold ") s false → stop 6 ≡ read_line s
      unfolding read_line line_of act_of whole_line judged
      line_none e = rw (begins_prefix (bytes "(in ") s ∙ n, begins_prefix (bytes "(put ") s ∙ m, begins_prefix (bytes "(hold ") s ∙ e)

-- ---- what an answer of `read_line` says

not_zero : {k : ℕ} → 0 < k → ◌≡◌ {A = Res Line} (stop k) (stop 0) → ⊥
not_zero {k} h e = let z : k ≡ 0 = cc in omega arith

not_fine : {l : Line} → ◌≡◌ {A = Res Line} (ok l) (stop 0) → ⊥
not_fine e = let z : ◌≡◌ {A = ℕ} 0 1 = cc in omega arith

whole_some : (s : List ℕ) (g : Got Line) → whole_line s g ≡ stop 0 → ⊥
unfolding whole_line
whole_some s (got l n) = cond_case (λ r. r ≡ stop 0 → ⊥) (eqb n (length s)) (ok l) (stop 6) (λ _. not_fine) (λ _. not_zero (omega arith))
whole_some s bad = not_zero (omega arith)

judged_some : (r : Res Line) → (r ≡ stop 0 → ⊥) → judged r ≡ stop 0 → ⊥
unfolding judged
judged_some (ok l) h =
    cond_case (λ r. r ≡ stop 0 → ⊥) (far_line l) (stop 7) (cond (crossed_line l) (stop 6) (ok l)) (λ _. not_zero (omega arith))
    (λ _. cond_case (λ r. r ≡ stop 0 → ⊥) (crossed_line l) (stop 6) (ok l) (λ _. not_zero (omega arith)) (λ _. not_fine))
judged_some (stop k) h = h

-- no line is refused with 0
pub refused_some : (s : List ℕ) → read_line s ≡ stop 0 → ⊥
unfolding read_line
refused_some s e = judged_some (whole_line s (line_of 7 s)) (whole_some s (line_of 7 s)) e

-- a part of what stands from i on is a part of the whole
pub part_within : (s : List ℕ) (i : ℕ) {t : List ℕ} → t ≡ drop i s → (x : Result Read Cause) → IfOk x (Part t) → IfOk x (Part s)
part_within s i e (Ok (In r range)) p = tt
part_within s i e (Ok (Put r form)) p = (i + p.0, p.1 ∙ ap (drop p.0) e ∙ drop-drop p.0 i s)
part_within s i e (Ok (Hold r range)) p = tt
part_within s i e (Err cause) p = tt

-- a put holds a form that can be read
pub put_reads : (s : List ℕ) (r : ℕ) (t : List ℕ) → put_of r (arg tree 7 t) ≡ read_line s → (e : Form) × (n : ℕ) × (arg tree 7 t ≡ got e n) × (read_line s ≡ ok (act (put r e)))
put_reads s r t h = go (arg tree 7 t) refl
  where
    go : (g : Got Form) → arg tree 7 t ≡ g → (e : Form) × (n : ℕ) × (arg tree 7 t ≡ got e n) × (read_line s ≡ ok (act (put r e)))
    go (got e n) q = (e, n, q, sym h ∙ ap (put_of r) q)
    go bad q = absurd (refused_some s (sym h ∙ ap (put_of r) q))
