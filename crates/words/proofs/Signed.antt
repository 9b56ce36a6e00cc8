-- A word of 64 bits is read as its wrapped value, so a negative or a quotient that is kept in a word is wrapped. Assumes nothing.
use Rattle.std.proofs.Common.{◌≡◌, ℕ, suc, ◌-◌, ◌/◌, ◌%◌, ◌^◌, ◌<◌, ◌≤◌, ℤ, pos, negsuc, neg_ℤ, sym, ap, ◌∙◌, to_z, of_z, w64, SFits, ltb, arith}
use native.Mathlib.Nat.{div-le_self}
use Rattle.std.proofs.lemmas.Bool.{ltb-true, ltb-false}
use mir.Val.{sel}
use lib.Signed.{quot_z}
use Rattle.meaning.specs.Number.{wrap, negative}
use Rattle.laws.proofs.Integers.{by_test, up, down, up_neg, down_neg, up_quot, down_quot, up_quot_neg, down_quot_neg}
use Rattle.laws.proofs.Machine.{num, fits_out}
use Rattle.laws.proofs.Wrapping.{wrap_is, wrap_id, wrap_cong}

pub signed_is : (n : ℕ) → n < 2 ^ 64 → to_z w64 n ≡ wrap (pos n)
signed_is n h =
    by_test (ltb n (2 ^ 63)) (λ p. ap (λ t. sel t (pos n) (negsuc (2 ^ 64 - suc n))) p ∙ sym (wrap_id (pos n) (fits_out _ (omega (arith, ltb-true _ _ p)))))
    (λ p. ap (λ t. sel t (pos n) (negsuc (2 ^ 64 - suc n))) p ∙ wrap_is (negsuc (2 ^ 64 - suc n)) (pos n) 1 0 (fits_out _ (omega (arith, ltb-false _ _ p))) (omega (arith, ltb-false _ _ p)))

pub negative_is : (x : ℤ) → SFits w64 x → to_z w64 ((2 ^ 64 - of_z w64 x) % 2 ^ 64) ≡ negative x
unfolding negative
negative_is (pos n) f =
    signed_is _ (omega arith)
    ∙ wrap_cong _ (neg_ℤ (pos n)) ((2 ^ 64 - n) / 2 ^ 64) 1 (omega (arith, f.sfits, up_neg (pos n), down_neg (pos n)))
negative_is (negsuc n) f = signed_is _ (omega arith) ∙ wrap_cong _ (pos (suc n)) 0 0 (omega (arith, f.sfits))

small_quotient : (a d : ℤ) → SFits w64 a → (up (quot_z a d) ≤ 2 ^ 63) × (down (quot_z a d) ≤ 2 ^ 63)
small_quotient a (pos d) f = (omega (arith, num f, up_quot a d, div-le_self (up a) d), omega (arith, num f, down_quot a d, div-le_self (down a) d))
small_quotient a (negsuc d) f =
    (omega (arith, num f, up_quot_neg a d, div-le_self (down a) (suc d)), omega (arith, num f, down_quot_neg a d, div-le_self (up a) (suc d)))

word_is : (z : ℤ) → up z ≤ 2 ^ 63 → down z ≤ 2 ^ 63 → to_z w64 (of_z w64 z) ≡ wrap z
word_is (pos n) h k = signed_is n (omega arith)
word_is (negsuc n) h k = signed_is _ (omega arith) ∙ wrap_cong _ (negsuc n) 0 1 (omega arith)

pub quotient_is : (x y : ℤ) → SFits w64 x → to_z w64 (of_z w64 (quot_z x y)) ≡ wrap (quot_z x y)
quotient_is x y f = let b = small_quotient x y f in word_is _ b.0 b.1
