-- Terms of one map that are apart, that is have no day in common, and the keys by which terms are sorted so that neighbours tell it. Definitions only; assumes
-- nothing.
use Rattle.std.specs.Prelude.{ℕ, suc, ◌%◌, ◌≤◌, ◌<◌, ◌≡◌, false, List, length, get_or, None, Some, Result, Ok, Err}
use Rattle.definitions.specs.Refusals.{first_below_lem}
use Rattle.catalogue.specs.Terms.{Term, Days, term_at, days_of, term_fault}
use Rattle.pool_terms.specs.Contract.{sharing, first_in, end_in}
use Rattle.pool_faults.specs.declared.apart.NoRoom.{NoRoom}

-- term j is of another map than term i, or has no day in common with it
abbrev pub Apart : List ℕ → ℕ → ℕ → Type 0
Apart l i j = (d : Days) → days_of (term_at l i) ≡ Some d → sharing l (term_at l i).on_map d j ≡ false

-- the first n terms are apart
abbrev pub ApartTo : List ℕ → ℕ → Type 0
ApartTo l n = (i j : ℕ) → j < i → i < n → Apart l i j

-- a map's number is from low to high, where the last number of 64 bits says that there is no limit
abbrev pub Between : ℕ → ℕ → ℕ → Type 0
Between low high map = (low ≤ map) × ((high ≡ 18446744073709551615 → ⊥) → map ≤ high)

-- the first n terms whose maps are from low to high are apart
abbrev pub ApartBetween : List ℕ → ℕ → ℕ → ℕ → Type 0
ApartBetween l low high n = (i j : ℕ) → j < i → i < n → Between low high (term_at l i).on_map → Apart l i j

-- the first n terms have good dates and end later than they start
abbrev pub Sound : List ℕ → ℕ → Type 0
Sound l n = (i : ℕ) → i < n → first_in (days_of (term_at l i)) < end_in (days_of (term_at l i))

-- the first n terms break no rule
abbrev pub Faultless : List ℕ → ℕ → Type 0
Faultless l n = first_below_lem n (λ k. term_fault l k (days_of (term_at l k))) ≡ None

-- ---- neighbours

-- a term is of a map before that of another, or of the same, has a day, and is over when the other starts
pub record IsBefore (a b : Term) : Type 0 where
  pub ordered : a.on_map ≤ b.on_map
  pub over : a.on_map ≡ b.on_map → (first_in (days_of a) < end_in (days_of a)) × (end_in (days_of a) ≤ first_in (days_of b))

-- term i is before term j
abbrev pub Precedes : List ℕ → ℕ → ℕ → Type 0
Precedes l i j = IsBefore (term_at l i) (term_at l j)

-- the position that a key has in its lower half; the upper half is what it is sorted by
abbrev pub position_in : ℕ → ℕ
position_in key = key % 4294967296

abbrev pub Positions : List ℕ → ℕ → Type 0
Positions keys until = (k : ℕ) → k < length keys → position_in (get_or keys k 0) < until

-- each key has the position that it had
pub record SamePositions (old new : List ℕ) : Type 0 where
  pub as_long : length new ≡ length old
  pub same : (k : ℕ) → k < length old → position_in (get_or new k 0) ≡ position_in (get_or old k 0)

-- along the first n keys each term precedes the next
abbrev pub Following : List ℕ → List ℕ → ℕ → Type 0
Following l keys n = (k : ℕ) → suc k < n → Precedes l (position_in (get_or keys k 0)) (position_in (get_or keys (suc k) 0))

-- the terms of the keys are apart
abbrev pub AllApart : List ℕ → List ℕ → Type 0
AllApart l keys = (p q : ℕ) → p < length keys → q < length keys → (position_in (get_or keys p 0) ≡ position_in (get_or keys q 0) → ⊥)
    → Apart l (position_in (get_or keys p 0)) (position_in (get_or keys q 0))

-- ---- terms taken

-- the first n keys are of terms below `until`, and of all of them whose maps are from low to high
pub record Keys (l : List ℕ) (until low high : ℕ) (keys : List ℕ) (n : ℕ) : Type 0 where
  pub within : n ≤ length keys
  pub placed : (k : ℕ) → k < n → position_in (get_or keys k 0) < until
  pub found : (i : ℕ) → i < until → Between low high (term_at l i).on_map → (k : ℕ) × (k < n) × (position_in (get_or keys k 0) ≡ i)

abbrev pub Keyed : List ℕ → ℕ → ℕ → ℕ → List ℕ → Result ℕ NoRoom → Type 0
Keyed l until low high keys (Ok n) = Keys l until low high keys n
Keyed l until low high keys (Err no_room) = no_room.at < until
