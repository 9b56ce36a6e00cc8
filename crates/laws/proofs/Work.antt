-- Laws of `bind`, of tests that stop, and of `work`: what a passed step says of its parts, the state after one line more, and one worker that follows another. Assumes nothing.
use mathlib.Core.Path.{◌≡◌, refl, sym, ap, ◌∙◌}
use mathlib.Core.Bool.{Bool, true, false, cond}
use mathlib.Core.List.{List, [], ◌∷◌}
use lib.ListN.{take, length, get_or}
use Prim.Native.Nat.{ℕ, zero, suc, ◌+◌, ◌<◌}
use native.Mathlib.Nat.{add-zero, add-suc, suc-add, le_of_suc-le-suc}
use native.Mathlib.Omega.{arith}
use Rattle.meaning.specs.Lists.{All}
use Rattle.meaning.specs.Outcome.{Res, ok, stop, bind, Outcome, done, stopped, onward, work, next_line}
use Rattle.meaning.specs.Sheet.{Line}
use Rattle.meaning.specs.Text.{Read, sheet, no_sheet}
use Rattle.meaning.specs.Run.{refused, worked, judge}
use Rattle.meaning.specs.CheckSets.{state_of}

-- a value is no trouble
pub not_stop {ℓ} : {A : Type 0} {X : Type ℓ} {k : ℕ} {a : A} → stop k ≡ ok a → X
not_stop e = let z : ◌≡◌ {A = ℕ} 0 1 = cc in absurd (let x : ⊥ = omega arith in x)

pub not_stopped {ℓ} : {A : Type 0} {X : Type ℓ} {k n : ℕ} {a b : A} → stopped k n a ≡ done b → X
not_stopped e = let z : ◌≡◌ {A = ℕ} 0 1 = cc in absurd (let x : ⊥ = omega arith in x)

pub ok_same : {A : Type 0} {a b : A} → ok a ≡ ok b → a ≡ b
ok_same e = cc

pub done_same : {A : Type 0} {a b : A} → done a ≡ done b → a ≡ b
done_same e = cc

-- what was bound gave a value
pub bind_ok : {A B : Type 0} (m : Res A) (f : A → Res B) {b : B} → bind m f ≡ ok b → (a : A) × (m ≡ ok a) × (f a ≡ ok b)
unfolding bind
bind_ok (ok a) f e = (a, refl, e)
bind_ok (stop k) f e = not_stop e

-- a test that stops where it fails has held
pub guard_ok : {A : Type 0} (t : Bool) (k : ℕ) (r : Res A) {a : A} → cond t r (stop k) ≡ ok a → (t ≡ true) × (r ≡ ok a)
guard_ok true k r e = (refl, e)
guard_ok false k r e = not_stop e

-- a test that stops where it holds has failed
pub unless_ok : {A : Type 0} (t : Bool) (k : ℕ) (r : Res A) {a : A} → cond t (stop k) r ≡ ok a → (t ≡ false) × (r ≡ ok a)
unless_ok true k r e = not_stop e
unless_ok false k r e = (refl, e)

module _ {A L : Type 0} (f : A → L → Res A) where
  -- a passed work has passed its first line, and then the others
  pub work_cons : (n : ℕ) (a : A) (l : L) (ls : List L) {c : A} → work f n a (l ∷ ls) ≡ done c → (b : A) × (f a l ≡ ok b) × (work f (suc n) b ls ≡ done c)
  unfolding work
  work_cons n a l ls {c} e = go (f a l) refl e
    where
      go : (r : Res A) → f a l ≡ r → onward n a r (λ a'. work f (suc n) a' ls) ≡ done c → (b : A) × (f a l ≡ ok b) × (work f (suc n) b ls ≡ done c)
      go (ok b) p q = (b, p, q)
      go (stop k) p q = not_stopped q

  pub work_step : (n : ℕ) (a : A) (l : L) (ls : List L) {b : A} → f a l ≡ ok b → work f n a (l ∷ ls) ≡ work f (suc n) b ls
  unfolding work
  work_step n a l ls e = ap (λ r. onward n a r (λ a'. work f (suc n) a' ls)) e

  -- the state after no line
  pub work_none : (n : ℕ) (a : A) (ls : List L) → work f n a (take zero ls) ≡ done a
  unfolding work
  work_none n a ls = refl

  -- the state after k + 1 lines is line k + 1 worked on the state after k
  pub work_next : (k n : ℕ) (a : A) (ls : List L) (d : L) → k < length ls → work f n a (take (suc k) ls) ≡ next_line f (n + k) (work f n a (take k ls)) (get_or ls k d)
  unfolding work next_line
  work_next k n a [] d h = absurd (let x : ⊥ = omega arith in x)
  work_next zero n a (l ∷ ls) d h = ap (λ m. onward m a (f a l) done) (sym (add-zero n))
  work_next (suc k) n a (l ∷ ls) d h = go (f a l) (λ b. work_next k (suc n) b ls d (le_of_suc-le-suc h))
    where
      go : (r : Res A) → ((b : A) → work f (suc n) b (take (suc k) ls) ≡ next_line f (suc n + k) (work f (suc n) b (take k ls)) (get_or ls k d))
          → onward n a r (λ a'. work f (suc n) a' (take (suc k) ls)) ≡ next_line f (n + suc k) (onward n a r (λ a'. work f (suc n) a' (take k ls))) (get_or ls k d)
      go (ok b) ih = ih b ∙ ap (λ m. next_line f m (work f (suc n) b (take k ls)) (get_or ls k d)) (suc-add n k ∙ sym (add-suc n k))
      go (stop j) ih = refl

-- where f's work passes, and g can follow each of its steps, g's work passes, and so do both after any number of lines
module _ {A B L : Type 0} (f : A → L → Res A) (g : B → L → Res B) (Rel : B → A → Type 0) (Pre : L → Type 0)
    (follow : (a : A) (b : B) (l : L) (a' : A) → Pre l → Rel b a → f a l ≡ ok a' → (b' : B) × (g b l ≡ ok b') × Rel b' a') where
  pub follows : (k n : ℕ) (ls : List L) (a : A) (b : B) {c : A} → All Pre ls → Rel b a → work f n a ls ≡ done c
      → (a' : A) × (b' : B) × (work f n a (take k ls) ≡ done a') × (work g n b (take k ls) ≡ done b') × Rel b' a'
  unfolding work
  follows zero n ls a b p h e = (a, b, refl, refl, h)
  follows (suc k) n [] a b p h e = (a, b, refl, refl, h)
  follows (suc k) n (l ∷ ls) a b p h e =
      let s = work_cons f n a l ls e in
      let t = follow a b l s.0 p.0 h s.1 in
      let u = follows k (suc n) ls s.0 t.0 p.1 t.2 s.2 in
      (u.0, u.1, work_step f n a l (take k ls) s.1 ∙ u.2, work_step g n b l (take k ls) t.1 ∙ u.3, u.4)

-- what every passed line keeps holds of the last state, and of the state before the line that stopped the work
module _ {A L : Type 0} (f : A → L → Res A) (Inv : A → Type 0) (Pre : L → Type 0) (keep : (a : A) (l : L) (a' : A) → Pre l → Inv a → f a l ≡ ok a' → Inv a') where
  pub work_keeps : (n : ℕ) (a : A) (ls : List L) → All Pre ls → Inv a → Inv (state_of (work f n a ls))
  unfolding work
  work_keeps n a [] p h = h
  work_keeps n a (l ∷ ls) p h = go (f a l) refl (λ b i. work_keeps (suc n) b ls p.1 i)
    where
      go : (r : Res A) → f a l ≡ r → ((b : A) → Inv b → Inv (state_of (work f (suc n) b ls))) → Inv (state_of (onward n a r (λ b. work f (suc n) b ls)))
      go (ok b) e ih = ih b (keep a l b p.0 h e)
      go (stop k) e ih = h

-- ---- a text that is worked reads as a sheet

pub record Works {A : Type 0} (f : List Line → Outcome A) (r : Read) (n : ℕ) (o : Outcome A) : Type 0 where
  pub lines : List Line
  pub reads : r ≡ sheet lines
  pub gives : f lines ≡ o
  pub count : length lines ≡ n

pub not_worked {ℓ} : {A : Type 0} {X : Type ℓ} {k l n : ℕ} {o : Outcome A} → refused k l ≡ worked n o → X
not_worked e = let z : ◌≡◌ {A = ℕ} 0 1 = cc in absurd (let x : ⊥ = omega arith in x)

pub judge_worked : {A : Type 0} (f : List Line → Outcome A) (r : Read) {n : ℕ} {o : Outcome A} → judge f r ≡ worked n o → Works f r n o
judge_worked f (sheet ls) e = record { lines = ls; reads = refl; gives = cc; count = cc }
judge_worked f (no_sheet k l) e = not_worked e
