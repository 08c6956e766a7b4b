-- The words of the contracts over the rows of pairs. Definitions only; assumes nothing.
use Rattle.std.specs.Prelude.{ℕ, ◌+◌, ◌*◌, ◌≤◌, ◌<◌, ◌≡◌, List, length, get_or}
use Rattle.definitions.specs.Limits.{max_entries, numbers_per_pair}
use Rattle.definitions.specs.Lists.{overwrite}
use Rattle.definitions.specs.Context.{Context}
use Rattle.definitions.specs.Verdict.{pair_rows_of}
use Rattle.laws.specs.ListLaws.Lists.{All}
pub use Rattle.region_pairs.specs.Forms.{pair_form, full_pair_of}

-- the list begins with the rows of C's pairs, which name two different regions, the smaller first, from 1 on
pub record PairRows (C : Context) (pairs : List ℕ) (rows count : ℕ) : Type 0 where
  pub counted : C.count ≡ count
  pub old : List ℕ
  pub filled : pairs ≡ overwrite (pair_rows_of C) old
  pub all : numbers_per_pair * rows ≡ length (pair_rows_of C)
  pub named : (i : ℕ) → i < C.count → All (λ p. (1 ≤ p.lo) × ((p.lo < p.hi) × (p.hi ≤ C.regions))) (C.pairs i)

-- the rows from `first` on up to r have this span, and row r has not
pub record SpanEnd (pairs : List ℕ) (rows first span r : ℕ) : Type 0 where
  pub from : first ≤ r
  pub upto : r ≤ rows
  pub same : (k : ℕ) → first ≤ k → k < r → get_or pairs (numbers_per_pair * k) 0 ≡ span
  pub other : r < rows → get_or pairs (numbers_per_pair * r) 0 ≡ span → ⊥

-- the rows of span i are in the list
pub record Stretch (pairs starts : List ℕ) (i : ℕ) : Type 0 where
  pub within : i < max_entries
  pub rising : get_or starts i 0 ≤ get_or starts (i + 1) 0
  pub long : numbers_per_pair * get_or starts (i + 1) 0 ≤ length pairs

-- row k is in the list, and its two regions are numbered from 1 to n
pub record NamedRow (pairs : List ℕ) (n k : ℕ) : Type 0 where
  pub inside : numbers_per_pair * k + 2 < length pairs
  pub lo-pos : 1 ≤ get_or pairs (numbers_per_pair * k + 1) 0
  pub lo-le : get_or pairs (numbers_per_pair * k + 1) 0 ≤ n
  pub hi-pos : 1 ≤ get_or pairs (numbers_per_pair * k + 2) 0
  pub hi-le : get_or pairs (numbers_per_pair * k + 2) 0 ≤ n

-- every row of the spans before `count`
pub record NamedRows (pairs starts : List ℕ) (count n : ℕ) : Type 0 where
  pub few : count ≤ max_entries
  pub stretch : (i : ℕ) → i < count → Stretch pairs starts i
  pub named : (i : ℕ) → i < count → (k : ℕ) → get_or starts i 0 ≤ k → k < get_or starts (i + 1) 0 → NamedRow pairs n k
