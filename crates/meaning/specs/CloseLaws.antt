-- What closing gaps (02, (v)) gives, for any limit of one or more. The theorem is `close_laws` of laws/proofs/CloseLaws.antt. Assumes nothing.
use Rattle.std.specs.Prelude.{ltb, ℤ, length, ◌≤ℤ◌, ◌<ℤ◌, ◌≡◌, cond, ◌⊎◌, ◌∷◌, ℕ, suc, ◌≤◌, ◌<◌, min}
use Rattle.meaning.specs.Interval.{Interval}
use Rattle.meaning.specs.NumberIntervals.{Set, ◌∈◌, Normal}
use Rattle.meaning.specs.Close.{missing, close_one, close}

-- an interval of the set ends at e, and the next one starts at f
pub data Gap (e f : ℤ) : Set → Type 0 where
  first : {i j : Interval} {s : Set} → i.hi ≡ e → j.lo ≡ f → Gap e f (i ∷ j ∷ s)
  later : {i : Interval} {s : Set} → Gap e f s → Gap e f (i ∷ s)

-- the order in which gaps are closed: the gap from c to d goes before that from e to f, as it has fewer missing numbers, or as many and lies lower
abbrev pub Before : ℤ → ℤ → ℤ → ℤ → Type 0
Before c d e f = (missing c d < missing e f) ⊎ ((missing c d ≡ missing e f) × (d ≤ℤ e))

-- z is one of the missing numbers between e and f
abbrev pub Missing : ℤ → ℤ → ℤ → Type 0
Missing e z f = (e <ℤ z) × (z <ℤ f)

-- ---- one closing

-- t is s with one gap closed, the one that goes before all others of s
pub record ClosedOne (s t : Set) : Type 0 where
  pub end : ℤ
  pub start : ℤ
  pub gap : Gap end start s
  pub soonest : (e f : ℤ) → Gap e f s → ((end ≡ e) × (start ≡ f)) ⊎ Before end start e f
  pub normal : Normal t
  -- just the members of s and the missing numbers of that gap
  pub keeps : (z : ℤ) → z ∈ s → z ∈ t
  pub fills : (z : ℤ) → Missing end z start → z ∈ t
  pub adds : (z : ℤ) → z ∈ t → (z ∈ s) ⊎ Missing end z start
  pub fewer : suc (length t) ≡ length s

-- ---- the closing to a limit

-- z is missing in a gap of s that goes before every gap of t
pub record InClosed (s t : Set) (z : ℤ) : Type 0 where
  pub end : ℤ
  pub start : ℤ
  pub gap : Gap end start s
  pub missed : Missing end z start
  pub goes : (e f : ℤ) → Gap e f t → Before end start e f

-- t is s with all but the limit − 1 last gaps in that order closed
pub record ClosedTo (limit : ℕ) (s t : Set) : Type 0 where
  pub few : length t ≡ min limit (length s)
  pub normal : Normal t
  -- every member is kept
  pub keeps : (z : ℤ) → z ∈ s → z ∈ t
  -- no gap is new, and one that is gone goes before every gap that stays
  pub kept : (e f : ℤ) → Gap e f t → Gap e f s
  pub ranked : (e f : ℤ) → Gap e f s → Gap e f t ⊎ ((c d : ℤ) → Gap c d t → Before e f c d)
  -- so nothing is new outside the gaps, and what is new lies in one that goes first
  pub adds : (z : ℤ) → z ∈ t → (z ∈ s) ⊎ InClosed s t z

pub record CloseLaws : Type 0 where
  -- while more than `limit` intervals remain, one gap is closed
  pub one_by_one : (limit : ℕ) (s : Set) → 1 ≤ limit → close limit s ≡ cond (ltb limit (length s)) (close limit (close_one s)) s
  pub one : (s : Set) → Normal s → 2 ≤ length s → ClosedOne s (close_one s)
  pub closes : (limit : ℕ) (s : Set) → 1 ≤ limit → Normal s → ClosedTo limit s (close limit s)
  -- nothing is altered where there are at most `limit`
  pub fits : (limit : ℕ) (s : Set) → length s ≤ limit → close limit s ≡ s
  pub again : (limit : ℕ) (s : Set) → 1 ≤ limit → close limit (close limit s) ≡ close limit s
