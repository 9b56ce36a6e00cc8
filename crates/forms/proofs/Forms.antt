-- Which case of `arg` and `form` holds, in the terms that the walk has at hand. Assumes nothing.
use mathlib.Core.Path.{◌≡◌, refl, sym, ap, ◌∙◌}
use mathlib.Core.Bool.{Bool, true, false, cond}
use mathlib.Core.List.{List}
use Prim.Native.Nat.{ℕ, zero, suc, ◌+◌, ◌-◌}
use Prim.Native.Char.{code}
use native.Mathlib.Numerals.{sub-one}
use native.Mathlib.Omega.{arith}
use lib.Dec.{eqb}
use lib.IntN.{ℤ}
use lib.ListN.{get_or, drop}
use borrow.Author.Tests.{eq-eqb, ne_eqb}
use Rattle.std.specs.Prelude.{Option, Some, None}
use Rattle.meaning.specs.Number.{Op1, Op2}
use Rattle.meaning.specs.Reading.{Got, got, bad, map_got, closed, literal, register, is_reg, is1, is2, is_none, head, start, Algebra, arg, form}
use Rattle.literals.specs.Answer.{got_of, held}
use Rattle.literals.specs.declared.Got.{Got as Found}
use Rattle.forms.specs.Answer.{head_of, value_or}
use Rattle.forms.specs.declared.Head.{Head as Opening}

-- the closing bracket leaves what is made of the value
pub closed_map : {A B : Type 0} (f : A → B) (s : List ℕ) (i : ℕ) (a : A) {b : B} → f a ≡ b → map_got f (closed s i a) ≡ closed s i b
unfolding closed
closed_map f s i a e = rw (← e) (go (eqb (get_or s i 0) (code ")")))
  where
    go : (t : Bool) → map_got f (cond t (got a (i + 1)) bad) ≡ cond t (got (f a) (i + 1)) bad
    go true = refl
    go false = refl

-- which head it is
pub opened : (s : List ℕ) {x y : Opening} → x ≡ y → head_of (Some x) ≡ head s → head_of (Some y) ≡ head s
opened s e h = sym (ap (λ (x : Opening). head_of (Some x)) e) ∙ h

module _ {A : Type 0} (alg : Algebra A) where
  -- b is the text's first byte
  module _ (s : List ℕ) (d : ℕ) {b : ℕ} (eb : b ≡ get_or s 0 0) where
    pub arg_none : b ≡ code "(" → d ≡ 0 → bad ≡ arg alg d s
    unfolding arg
    arg_none e z = rw (z, ← eb, eq-eqb _ _ e)

    pub arg_form : b ≡ code "(" → (d ≡ 0 → ⊥) → form alg (d - 1) s ≡ arg alg d s
    unfolding arg form
    arg_form e z = go d z
      where
        go : (d : ℕ) → (d ≡ 0 → ⊥) → form alg (d - 1) s ≡ arg alg d s
        go zero z = absurd (z refl)
        go (suc d) z = rw (sub-one, ← eb, eq-eqb _ _ e)

    module _ (e : b ≡ code "(" → ⊥) where
      at_literal : map_got alg.on_lit (literal s) ≡ arg alg d s
      unfolding arg
      at_literal = go d
        where
          go : (d : ℕ) → map_got alg.on_lit (literal s) ≡ arg alg d s
          go zero = rw (← eb, ne_eqb _ _ e)
          go (suc d) = rw (← eb, ne_eqb _ _ e)

      pub arg_literal : {o : Option ℤ} {n : ℕ} {x : A} → got o n ≡ map_got held (literal s) → ((z : ℤ) → o ≡ held z → x ≡ alg.on_lit z) → got x n ≡ arg alg d s
      arg_literal {o} {n} {x} h made = go (literal s) h ∙ at_literal
        where
          go : (g : Got ℤ) → got o n ≡ map_got held g → got x n ≡ map_got alg.on_lit g
          go (got z m) p = let q = made z cc in cc
          go bad p = absurd (let z : ◌≡◌ {A = ℕ} 0 1 = cc in omega arith)

      pub arg_no_literal : bad ≡ map_got held (literal s) → bad ≡ arg alg d s
      arg_no_literal h = go (literal s) h ∙ at_literal
        where
          go : (g : Got ℤ) → bad ≡ map_got held g → bad ≡ map_got alg.on_lit g
          go (got z m) p = absurd (let z' : ◌≡◌ {A = ℕ} 0 1 = cc in omega arith)
          go bad p = refl

  module _ (s : List ℕ) (d : ℕ) where
    pub form_none : is_none ≡ head s → bad ≡ form alg d s
    unfolding form
    form_none eh = rw (← eh)

    module _ {k : ℕ} (ek : k ≡ start s) {t : List ℕ} (et : t ≡ drop k s) where
      module _ (eh : is_reg ≡ head s) where
        pub form_register : {r n : ℕ} → got r n ≡ register t → closed s (k + n) (alg.on_reg r) ≡ form alg d s
        unfolding form
        form_register eg = rw (← eh, ← ek, ← et, ← eg)

        pub form_no_register : bad ≡ register t → bad ≡ form alg d s
        unfolding form
        form_no_register eg = rw (← eh, ← ek, ← et, ← eg)

      module _ {o : Op1} (eh : is1 o ≡ head s) where
        pub form_one : {a : A} {n : ℕ} → got a n ≡ arg alg d t → closed s (k + n) (alg.on1 o a) ≡ form alg d s
        unfolding form
        form_one ea = rw (← eh, ← ek, ← et, ← ea)

        pub form_no_one : bad ≡ arg alg d t → bad ≡ form alg d s
        unfolding form
        form_no_one ea = rw (← eh, ← ek, ← et, ← ea)

      module _ {o : Op2} (eh : is2 o ≡ head s) where
        pub form_no_first : bad ≡ arg alg d t → bad ≡ form alg d s
        unfolding form
        form_no_first ea = rw (← eh, ← ek, ← et, ← ea)

        module _ {a : A} {n : ℕ} (ea : got a n ≡ arg alg d t) {b : ℕ} (eb : b ≡ get_or s (k + n) 0) where
          pub form_no_space : (b ≡ code " " → ⊥) → bad ≡ form alg d s
          unfolding form
          form_no_space ne = rw (← eh, ← ek, ← et, ← ea, ← eb, ne_eqb _ _ ne)

          -- the algebra after the first argument is the same
          module _ (sp : b ≡ code " ") {next : Algebra A} (same : next ≡ alg) {t' : List ℕ} (et' : t' ≡ drop (k + n + 1) s) where
            pub form_two : {a' : A} {m : ℕ} → got a' m ≡ arg next d t' → closed s (k + n + 1 + m) (alg.on2 o a a') ≡ form alg d s
            unfolding form
            form_two ea' = let e = ea' ∙ ap (λ (x : Algebra A). arg x d t') same in rw (← eh, ← ek, ← et, ← ea, ← eb, eq-eqb _ _ sp, ← et', ← e)

            pub form_no_second : bad ≡ arg next d t' → bad ≡ form alg d s
            unfolding form
            form_no_second ea' = let e = ea' ∙ ap (λ (x : Algebra A). arg x d t') same in rw (← eh, ← ek, ← et, ← ea, ← eb, eq-eqb _ _ sp, ← et', ← e)

-- what a whole argument comes to, by what was read of it
module _ {V A : Type 0} (m : V → A) {q : Option (Found V)} {g : Got A} (e : map_got m (got_of q) ≡ g) (d : A) where
  pub value_none : q ≡ None → d ≡ value_or d g
  value_none h = ap (value_or d) (ap (λ (x : Option (Found V)). map_got m (got_of x)) (sym h) ∙ e)

  pub value_some : {f : Found V} → q ≡ Some f → m f.value ≡ value_or d g
  value_some h = ap (value_or d) (ap (λ (x : Option (Found V)). map_got m (got_of x)) (sym h) ∙ e)
