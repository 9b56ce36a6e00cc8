-- Laws of `All`: of a part, a place, a store, two lists one after the other, and of two properties together. Assumes nothing.
use lib.ListN.{length, get_or, set, take, replicate}
use mathlib.Core.List.{List, [], ◌∷◌, ◌++◌}
use Prim.Native.Nat.{ℕ, zero, suc, ◌<◌}
use native.Mathlib.Omega.{arith}
use Rattle.meaning.specs.Lists.{All}

pub all_both : {A : Type 0} (P Q : A → Type 0) (l : List A) → All P l → All Q l → All (λ x. P x × Q x) l
all_both P Q [] p q = tt
all_both P Q (x ∷ l) p q = ((p.0, q.0), all_both P Q l p.1 q.1)

-- from one property to another
pub all_map : {A : Type 0} (P Q : A → Type 0) → ((x : A) → P x → Q x) → (l : List A) → All P l → All Q l
all_map P Q f [] p = tt
all_map P Q f (x ∷ l) p = (f x p.0, all_map P Q f l p.1)

module _ {A : Type 0} (P : A → Type 0) where
  pub all_append : (a b : List A) → All P a → All P b → All P (a ++ b)
  all_append [] b p q = q
  all_append (x ∷ a) b p q = (p.0, all_append a b p.1 q)

  pub all_take : (n : ℕ) (l : List A) → All P l → All P (take n l)
  all_take zero l p = tt
  all_take (suc n) [] p = tt
  all_take (suc n) (x ∷ l) p = (p.0, all_take n l p.1)

  -- a place, where what stands past the end has the property too
  pub all_get : (l : List A) (i : ℕ) (d : A) → P d → All P l → P (get_or l i d)
  all_get [] i d h p = h
  all_get (x ∷ l) zero d h p = p.0
  all_get (x ∷ l) (suc i) d h p = all_get l i d h p.1

  -- one number more
  pub all_next : (l : List A) (i : ℕ) (d : A) → i < length l → All P (take i l) → P (get_or l i d) → All P (take (suc i) l)
  all_next [] i d h p q = absurd (let x : ⊥ = omega arith in x)
  all_next (x ∷ l) zero d h p q = (q, tt)
  all_next (x ∷ l) (suc i) d h p q = (p.0, all_next l i d (omega arith) p.1 q)

  pub all_set : (l : List A) (i : ℕ) (a : A) → P a → All P l → All P (set l i a)
  all_set [] i a h p = tt
  all_set (x ∷ l) zero a h p = (h, p.1)
  all_set (x ∷ l) (suc i) a h p = (p.0, all_set l i a h p.1)

  pub all_replicate : (n : ℕ) (a : A) → P a → All P (replicate n a)
  all_replicate zero a h = tt
  all_replicate (suc n) a h = (h, all_replicate n a h)

  -- from every place
  pub all_from : (l : List A) (d : A) → ((i : ℕ) → i < length l → P (get_or l i d)) → All P l
  all_from [] d h = tt
  all_from (x ∷ l) d h = (h 0 (omega arith), all_from l d (λ i k. h (suc i) (omega arith)))
