-- Laws of a literal's parts and of a register. Assumes nothing.
use mathlib.Core.Path.{◌≡◌, refl, sym, ap, ◌∙◌}
use mathlib.Core.Bool.{Bool, true, false, cond}
use mathlib.Core.List.{List, [], ◌∷◌}
use Prim.Native.Nat.{ℕ, zero, suc, ◌+◌, ◌-◌, ◌*◌, ◌/◌, ◌^◌, ◌≤◌, ◌<◌, min}
use Prim.Native.Char.{code}
use native.Mathlib.Nat.{mul-one, mul_assoc}
use native.Mathlib.Omega.{arith}
use lib.Dec.{leb}
use lib.IntN.{ℤ, pos, neg_ℤ}
use lib.ListN.{length, get_or, take, drop}
use mir.Syntax.{w64}
use mir.Val.{SFits}
use borrow.Author.Tests.{eq-eqb, ne_eqb, lt-ltb, le-ltb, leb-true, leb-false}
use Rattle.std.specs.Prelude.{Option, Some, None, Result, Ok, Err}
use Rattle.std.specs.Char.{is_ascii_digit}
use Rattle.std.specs.List.{fold, prefix_len}
use Rattle.std.proofs.lemmas.List.Folds.{length-prefix_len}
use Rattle.std.specs.Result.{OkIff, result_ok}
use Rattle.std.specs.Option.{SomeIff, unwrap_or}
use Rattle.meaning.specs.Number.{MIN, MAX, within}
use Rattle.meaning.specs.Sheet.{registers}
use Rattle.meaning.specs.Reading.{Got, got, bad, map_got, is_digit, digits, number, needless, scale, signed, decimals, unsigned, literal, register_with, register}
use Rattle.laws.proofs.Integers.{by_test, lt_out, up_neg, down_neg, is_within, above_out, below_out, from_within}
use Rattle.laws.proofs.Machine.{fits_range, range_fits}
use Rattle.literals.specs.Capped.{cap, capped}
use Rattle.literals.specs.declared.Got.{Got as Found}
use Rattle.literals.specs.Answer.{got_of, kept, held}

-- the digits are those that the test passes, and no more
pub digits_are : (s : List ℕ) → length (take (prefix_len is_ascii_digit s) s) ≡ digits s
unfolding digits
digits_are s = length-prefix_len is_ascii_digit s ∙ go s
  where
    go : (s : List ℕ) → prefix_len is_ascii_digit s ≡ digits s
    go [] = refl
    go (b ∷ s) = let e = go s in rw e (ap (λ (n : ℕ). cond (is_digit b) n 0) (let f : 1 + digits s ≡ digits s + 1 = omega arith in f))

pub capped_are : (a : ℕ) (s : List ℕ) → fold (λ v b. min cap (v * 10 + (b - 48))) a s ≡ capped a s
unfolding capped
capped_are a [] = refl
capped_are a (b ∷ s) = capped_are (min cap (a * 10 + (b - 48))) s

-- the cap forgets nothing below it
pub capped_is : (l : List ℕ) (x : ℕ) → capped (min cap x) l ≡ min cap (number x l)
unfolding capped number
capped_is [] x = refl
capped_is (d ∷ l) x =
    let e : min cap (min cap x * 10 + (d - 48)) ≡ min cap (x * 10 + (d - 48)) = omega arith in
    ap (λ (y : ℕ). capped y l) e ∙ capped_is l (x * 10 + (d - 48))

-- ---- the scale of 0 to 3 decimals

-- from i decimals on it is ten times that of one more, and from three on it is 1
pub scale_step : (i : ℕ) → i < 3 → scale i ≡ 10 * scale (i + 1)
unfolding scale
scale_step zero h = refl
scale_step (suc zero) h = refl
scale_step (suc (suc zero)) h = refl
scale_step (suc (suc (suc i))) h = absurd (let z : ⊥ = omega arith in z)

pub scale_past : (k : ℕ) → 3 ≤ k → scale k ≡ 1
unfolding scale
scale_past k h = let e : 3 - k ≡ 0 = omega arith in rw e

pub scale_few : (k : ℕ) → scale k ≤ 1000
unfolding scale
scale_few zero = omega arith
scale_few (suc zero) = omega arith
scale_few (suc (suc zero)) = omega arith
scale_few (suc (suc (suc k))) = let e : 3 - suc (suc (suc k)) ≡ 0 = omega arith in rw e (omega arith)

pub scale_most : (k : ℕ) → scale k ≤ 1000
scale_most k = scale_few k

-- a loop that has come from d to i decimals, with the factor f
pub record Scaling (d f i : ℕ) : Type 0 where
  pub left : f * scale i ≡ scale d

pub scaling_few : {d f i : ℕ} → Scaling d f i → f ≤ 1000
unfolding scale
scaling_few {d} {f} {i} s = bound i (omega (arith, s.left, scale_most d))
  where
    bound : (i : ℕ) → f * scale i ≤ 1000 → f ≤ 1000
    bound zero h = omega arith
    bound (suc zero) h = omega arith
    bound (suc (suc zero)) h = omega arith
    bound (suc (suc (suc i))) h = let e : 3 - suc (suc (suc i)) ≡ 0 = omega arith in let h' : f * 1 ≤ 1000 = rw e at h in omega arith

pub scaling_start : (d : ℕ) → Scaling d 1 d
scaling_start d = record { left = omega arith }

pub scaling_next : {d f i : ℕ} → i < 3 → Scaling d f i → Scaling d (f * 10) (i + 1)
scaling_next {d} {f} {i} h s = record { left = mul_assoc f 10 (scale (i + 1)) ∙ ap (λ (x : ℕ). f * x) (sym (scale_step i h)) ∙ s.left }

pub scaling_done : {d f i : ℕ} → 3 ≤ i → Scaling d f i → f ≡ scale d
scaling_done {d} {f} {i} h s = sym (mul-one f) ∙ ap (λ (x : ℕ). f * x) (sym (scale_past i h)) ∙ s.left

pub scale_pos : (k : ℕ) → 0 < scale k
unfolding scale
scale_pos zero = omega arith
scale_pos (suc zero) = omega arith
scale_pos (suc (suc zero)) = omega arith
scale_pos (suc (suc (suc zero))) = omega arith
scale_pos (suc (suc (suc (suc k)))) = let e : 3 - suc (suc (suc (suc k))) ≡ 0 = omega arith in rw e (omega arith)

pub scale_in : (k v : ℕ) → v ≤ cap / scale k → v * scale k ≤ cap
unfolding scale
scale_in zero v l = omega arith
scale_in (suc zero) v l = omega arith
scale_in (suc (suc zero)) v l = omega arith
scale_in (suc (suc (suc zero))) v l = omega arith
scale_in (suc (suc (suc (suc k)))) v l = let e : 3 - suc (suc (suc (suc k))) ≡ 0 = omega arith in let l' : v ≤ cap / 1 = rw e at l in rw e (omega arith)

pub scale_out : (k v : ℕ) → cap / scale k < v → cap ≤ v * scale k
unfolding scale
scale_out zero v l = omega arith
scale_out (suc zero) v l = omega arith
scale_out (suc (suc zero)) v l = omega arith
scale_out (suc (suc (suc zero))) v l = omega arith
scale_out (suc (suc (suc (suc k)))) v l = let e : 3 - suc (suc (suc (suc k))) ≡ 0 = omega arith in let l' : cap / 1 < v = rw e at l in rw e (omega arith)

-- scaling under the cap
scale_capped : (k x : ℕ) → min cap (min cap x * scale k) ≡ min cap (x * scale k)
unfolding scale
scale_capped zero x = omega arith
scale_capped (suc zero) x = omega arith
scale_capped (suc (suc zero)) x = omega arith
scale_capped (suc (suc (suc zero))) x = omega arith
scale_capped (suc (suc (suc (suc k)))) x = let e : 3 - suc (suc (suc (suc k))) ≡ 0 = omega arith in rw e (omega arith)

-- what a cast to an i64 gives is what the code holds of the number
pub held_is : {E : Type 0} (z : ℤ) (r : Result ℤ E) → OkIff r (SFits w64 z) z → result_ok r ≡ held z
unfolding held
held_is z (Ok x) h = let i = fits_range h.0 in rw (is_within i.above i.below, h.1)
held_is z (Err x) h =
    by_test (within MIN z MAX)
    (λ e. absurd (h (range_fits (from_within MIN z MAX e))))
    (λ e. rw e)

-- and so is what a difference gives that may be none
pub held_some : (z : ℤ) (r : Option ℤ) → SomeIff r (SFits w64 z) z → r ≡ held z
unfolding held
held_some z (Some x) h = let i = fits_range h.0 in rw (is_within i.above i.below, h.1)
held_some z None h =
    by_test (within MIN z MAX)
    (λ e. absurd (h (range_fits (from_within MIN z MAX e))))
    (λ e. rw e)

plus_far : (m : ℕ) → 2 ^ 63 ≤ m → within MIN (pos m) MAX ≡ false
plus_far m h = above_out MIN (lt_out {a = MAX} {b = pos m} (omega arith))

minus_far : (m : ℕ) → 2 ^ 63 < m → within MIN (neg_ℤ (pos m)) MAX ≡ false
minus_far m h = below_out MAX (lt_out {a = neg_ℤ (pos m)} {b = MIN} (omega (arith, up_neg (pos m), down_neg (pos m))))

far_held : (negated : Bool) (m : ℕ) → 2 ^ 63 < m → held (signed negated m) ≡ None
unfolding held
far_held true m h = rw (minus_far m h)
far_held false m h = rw (plus_far m (omega arith))

-- a magnitude held at the cap tells the same
capped_tells : (negated : Bool) (x : ℕ) → held (signed negated (min cap x)) ≡ held (signed negated x)
capped_tells negated x =
    by_test (leb x cap)
    (λ e. let h : x ≤ cap = leb-true x cap e in let m : min cap x ≡ x = omega arith in rw m)
    (λ e. let h : cap < x = leb-false x cap e in far_held negated (min cap x) (omega arith) ∙ sym (far_held negated x (omega arith)))

-- a capped number, scaled
told : (negated : Bool) (k x n : ℕ) {v w : ℕ} {h : Option ℤ} → v ≡ min cap x → w ≡ min cap (v * scale k) → h ≡ held (signed negated w)
    → got h n ≡ map_got held (got (signed negated (x * scale k)) n)
told negated k x n {v} {w} ev ew eh =
    ap (λ (o : Option ℤ). got o n)
    (eh ∙ ap (λ (y : ℕ). held (signed negated y)) (ew ∙ ap (λ (y : ℕ). min cap (y * scale k)) ev ∙ scale_capped k x)
    ∙ capped_tells negated (x * scale k))

-- which case of `unsigned` holds
module _ (negated : Bool) (o : ℕ) (s : List ℕ) {i : ℕ} (ei : i ≡ digits s) where
  pub unsigned_none : i ≡ 0 → bad ≡ map_got held (unsigned negated o s (digits s))
  unfolding unsigned
  unsigned_none z = rw (← ei, eq-eqb _ _ z)

  module _ (nz : i ≡ 0 → ⊥) {b : Bool} (eb : b ≡ needless s i) where
    pub unsigned_needless : b ≡ true → bad ≡ map_got held (unsigned negated o s (digits s))
    unfolding unsigned
    unsigned_needless e = rw (← ei, ne_eqb _ _ nz, sym eb ∙ e)

    module _ (e : b ≡ false) {p v : ℕ} {a : List ℕ} (ep : p ≡ get_or s i 0) (ea : a ≡ take i s) (ev : v ≡ capped 0 a) where
      whole_is : v ≡ min cap (number 0 (take i s))
      whole_is = ev ∙ ap (capped 0) ea ∙ capped_is (take i s) 0

      pub unsigned_whole : {w : ℕ} {h : Option ℤ} → (p ≡ code "." → ⊥) → w ≡ min cap (v * scale 0) → h ≡ held (signed negated w)
          → got h (o + i) ≡ map_got held (unsigned negated o s (digits s))
      unfolding unsigned
      unsigned_whole np ew eh =
          told negated 0 (number 0 (take i s)) (o + i) whole_is ew eh
          ∙ rw (← ei, ne_eqb _ _ nz, sym eb ∙ e, ← ep, ne_eqb _ _ np)

      module _ (yp : p ≡ code ".") {t : List ℕ} (et : t ≡ drop (i + 1) s) {d : ℕ} (ed : d ≡ digits t) where
        decimals_is : unsigned negated o s (digits s) ≡ decimals negated o s i t d
        unfolding unsigned
        decimals_is = rw (← ei, ne_eqb _ _ nz, sym eb ∙ e, ← ep, eq-eqb _ _ yp, ← et, ← ed)

        pub unsigned_no_decimal : d ≡ 0 → bad ≡ map_got held (unsigned negated o s (digits s))
        unfolding decimals
        unsigned_no_decimal z = rw (decimals_is, eq-eqb _ _ z)

        pub unsigned_long : (d ≡ 0 → ⊥) → 3 < d → bad ≡ map_got held (unsigned negated o s (digits s))
        unfolding decimals
        unsigned_long z h = rw (decimals_is, ne_eqb _ _ z, lt-ltb _ _ h)

        pub unsigned_decimal : {w v' : ℕ} {l : List ℕ} {h : Option ℤ} → (d ≡ 0 → ⊥) → d ≤ 3 → l ≡ take d t → v' ≡ capped v l → w ≡ min cap (v' * scale d) → h ≡ held (signed negated w)
            → got h (o + i + 1 + d) ≡ map_got held (unsigned negated o s (digits s))
        unfolding decimals
        unsigned_decimal {w} {v'} {l} z h el ev' ew eh =
            told negated d (number (number 0 (take i s)) (take d t)) (o + i + 1 + d)
            (ev' ∙ ap (capped v) el ∙ ap (λ (y : ℕ). capped y (take d t)) whole_is ∙ capped_is (take d t) (number 0 (take i s))) ew eh
            ∙ rw (decimals_is, ne_eqb _ _ z, le-ltb _ _ h)

pub literal_minus : (s : List ℕ) {b : ℕ} {t : List ℕ} → b ≡ get_or s 0 0 → b ≡ code "-" → t ≡ drop 1 s → map_got held (unsigned true 1 t (digits t)) ≡ map_got held (literal s)
unfolding literal
literal_minus s eb h et = rw (← eb, eq-eqb _ _ h, ← et)

pub literal_plus : (s : List ℕ) {b : ℕ} → b ≡ get_or s 0 0 → (b ≡ code "-" → ⊥) → map_got held (unsigned false 0 s (digits s)) ≡ map_got held (literal s)
unfolding literal
literal_plus s eb h = rw (← eb, ne_eqb _ _ h)

-- what a caller that takes 0 for a literal beyond MIN..MAX has
pub kept_is : (z : ℤ) → unwrap_or (held z) (pos 0) ≡ kept z
unfolding held kept
kept_is z = by_test (within MIN z MAX) (λ e. rw e) (λ e. rw e)

-- what an answer says of what was read
module _ {A B : Type 0} (f : A → B) (g : Got A) {r : Option (Found B)} (er : got_of r ≡ map_got f g) where
  pub found : {x : Found B} → r ≡ Some x → (a : A) × (g ≡ got a x.len) × (f a ≡ x.value)
  found {x} e = go g (sym er ∙ ap got_of e)
    where
      go : (h : Got A) → map_got f h ≡ got x.value x.len → (a : A) × (h ≡ got a x.len) × (f a ≡ x.value)
      go (got a n) p = (a, cc, cc)
      go bad p = absurd (let z : ◌≡◌ {A = ℕ} 0 1 = cc in omega arith)

  pub not_found : r ≡ None → g ≡ bad
  not_found e = go g (sym er ∙ ap got_of e)
    where
      go : (h : Got A) → map_got f h ≡ bad → h ≡ bad
      go (got a n) p = absurd (let z : ◌≡◌ {A = ℕ} 0 1 = cc in omega arith)
      go bad p = refl

-- ---- registers

module _ (s : List ℕ) {i : ℕ} (ei : i ≡ digits s) where
  pub register_none : i ≡ 0 → bad ≡ register s
  unfolding register_with
  register_none z = rw (← ei, eq-eqb _ _ z)

  module _ (nz : i ≡ 0 → ⊥) {b : Bool} (eb : b ≡ needless s i) where
    pub register_needless : b ≡ true → bad ≡ register s
    unfolding register_with
    register_needless e = rw (← ei, ne_eqb _ _ nz, sym eb ∙ e)

    module _ (e : b ≡ false) {v : ℕ} {a : List ℕ} (ea : a ≡ take i s) (ev : v ≡ capped 0 a) where
      value_is : v ≡ min cap (number 0 (take i s))
      value_is = ev ∙ ap (capped 0) ea ∙ capped_is (take i s) 0

      pub register_there : v < registers → got v i ≡ register s
      unfolding register_with
      register_there h =
          let w = value_is in
          let n : number 0 (take i s) ≡ v = omega arith in
          rw (← ei, ne_eqb _ _ nz, sym eb ∙ e, n, lt-ltb v registers h)

      pub register_past : registers ≤ v → bad ≡ register s
      unfolding register_with
      register_past h =
          let w = value_is in
          let n : registers ≤ number 0 (take i s) = omega arith in
          rw (← ei, ne_eqb _ _ nz, sym eb ∙ e, le-ltb (number 0 (take i s)) registers n)
