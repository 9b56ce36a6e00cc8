-- The parts of an interval below and above a number in it: together they are the interval without that number. Assumes nothing.
use Rattle.std.proofs.Common.{◌≡◌, refl, sym, ap, ◌∙◌, Bool, true, false, cond, List, [], ◌∷◌, pos, ◌++◌, append_assoc, ℤ, Option, Some, None}
use Rattle.std.proofs.Math.IntN.{suc_ℤ, pred_ℤ}
use mathlib.Core.List.{append-nil}
use lib.Signed.{lt_z}
use Rattle.meaning.specs.Number.{within}
use Rattle.meaning.specs.Interval as meant
use mir.Syntax.{w64}
use mir.Val.{SFits}
use Rattle.laws.proofs.Machine.{fits_range}
use Rattle.meaning.specs.Interval.{Proper, span, without, each}
use Rattle.interval.specs.declared.Interval.{Interval}
use Rattle.interval.specs.declared.divisor.Divisor.{Divisor}
use Rattle.interval.specs.Part.{of_part, spans, of_divisor, divisor_spans}

abbrev start_of : List meant.Interval → ℤ
start_of [] = pos 0
start_of (i ∷ r) = i.lo

abbrev end_of : List meant.Interval → ℤ
end_of [] = pos 0
end_of (i ∷ r) = i.hi

-- a part that is there is the one that the test asks for
pub part_some : (b : Bool) (x y : ℤ) {u v : ℤ} → span u v ≡ cond b (span x y) [] → (b ≡ true) × (u ≡ x) × (v ≡ y)
part_some true x y e = (refl, ap start_of e, ap end_of e)
part_some false x y e = absurd (cc)

pub part_none : (b : Bool) (x y : ℤ) → [] ≡ cond b (span x y) [] → b ≡ false
part_none true x y e = absurd (cc)
part_none false x y e = refl

pub each_single : (g : ℤ → ℤ → List meant.Interval) (a b : ℤ) → each g (span a b) ≡ g a b
unfolding each
each_single g a b = append-nil (g a b)

each_none : (g : ℤ → ℤ → List meant.Interval) → each g [] ≡ []
unfolding each
each_none g = refl

each_append : (g : ℤ → ℤ → List meant.Interval) (x y : List meant.Interval) → each g (x ++ y) ≡ each g x ++ each g y
unfolding each
each_append g [] y = refl
each_append g (i ∷ x) y = ap (λ (l : List meant.Interval). g i.lo i.hi ++ l) (each_append g x y) ∙ sym (append_assoc (g i.lo i.hi) (each g x) (each g y))

each_part : (g : ℤ → ℤ → List meant.Interval) (r : Option Interval) → of_part g r ≡ each g (spans r)
each_part g None = sym (each_none g)
each_part g (Some i) = sym (each_single g i.lo i.hi)

each_divisor : (g : ℤ → ℤ → List meant.Interval) (r : Option Divisor) → of_divisor g r ≡ each g (divisor_spans r)
each_divisor g None = sym (each_none g)
each_divisor g (Some d) = sym (each_single g d.numbers.lo d.numbers.hi)

each_cond : (g : ℤ → ℤ → List meant.Interval) (b : Bool) (x y : ℤ) → each g (cond b (span x y) []) ≡ cond b (g x y) []
each_cond g true x y = each_single g x y
each_cond g false x y = each_none g

-- what g gives of a part that is there by a test
pub part_is : (g : ℤ → ℤ → List meant.Interval) (r : Option Interval) (b : Bool) (x y : ℤ) → spans r ≡ cond b (span x y) [] → of_part g r ≡ cond b (g x y) []
part_is g r b x y e = each_part g r ∙ ap (each g) e ∙ each_cond g b x y

pub divisor_is : (g : ℤ → ℤ → List meant.Interval) (r : Option Divisor) (b : Bool) (x y : ℤ) → divisor_spans r ≡ cond b (span x y) [] → of_divisor g r ≡ cond b (g x y) []
divisor_is g r b x y e = each_divisor g r ∙ ap (each g) e ∙ each_cond g b x y

-- what g gives of the two parts on the sides of a number
pub each_cut : (g : ℤ → ℤ → List meant.Interval) (c s e : ℤ) → within s c e ≡ true
    → cond (lt_z s c) (g s (pred_ℤ c)) [] ++ cond (lt_z c e) (g (suc_ℤ c) e) [] ≡ each g (without c s e)
unfolding without
each_cut g c s e h =
    (λ i. sym (each_cond g (lt_z s c) s (pred_ℤ c)) i ++ sym (each_cond g (lt_z c e) (suc_ℤ c) e) i)
    ∙ sym (each_append g (cond (lt_z s c) (span s (pred_ℤ c)) []) (cond (lt_z c e) (span (suc_ℤ c) e) []))
    ∙ ap (each g) (λ i. cond (sym h i) (cond (lt_z s c) (span s (pred_ℤ c)) [] ++ cond (lt_z c e) (span (suc_ℤ c) e) []) (span s e))

-- an interval's ends are from MIN to MAX
pub proper : (i : Interval) → SFits w64 i.lo → SFits w64 i.hi → Proper i.lo i.hi
proper i f g = record { low = (fits_range f).above; ordered = i.ordered; high = (fits_range g).below }
