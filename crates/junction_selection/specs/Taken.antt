-- What the selection keeps: marks of removed and of reserved boundaries, and the rows taken. Definitions only; assumes nothing.
use Rattle.std.specs.Prelude.{Option, ℕ, ◌*◌, ◌≤◌, ◌<◌, ◌≡◌, Bool, false, List, [], length, get_or, eqb}
use Rattle.definitions.specs.Limits.{numbers_per_boundary}
use Rattle.definitions.specs.Scan.{any}
use Rattle.definitions.specs.Sort.{sort, select}
use Rattle.definitions.specs.Junctions.{Proposal}
use Rattle.junction_proposals.specs.declared.proposals.Candidate.{Candidate}
use Rattle.junction_proposals.specs.Rows.{max_proposals, row_at}
use Rattle.junction_selection.specs.Ranks.{ranks_at, order_of, allowed_of, reserves_at, conflict_at, Rows}
use Rattle.region_pairs.specs.declared.Pair as declared

-- row p is whole, and there is a mark for each boundary
pub record Within (rows : List Candidate) (removed reserved : List Bool) (count p : ℕ) : Type 0 where
  pub whole : p < length rows
  pub small : count ≤ 256
  pub removed-long : count ≤ length removed
  pub reserved_long : count ≤ length reserved
  pub index_in : (row_at rows p).index < count

-- rows whose boundaries have marks, and room for those taken
pub record Selecting (rows : List Candidate) (taken : List ℕ) (removed reserved : List Bool) (count : ℕ) : Type 0 where
  pub few : length rows ≤ max_proposals
  pub small : count ≤ 256
  pub removed-long : count ≤ length removed
  pub reserved_long : count ≤ length reserved
  pub room : max_proposals ≤ length taken
  pub below : (k : ℕ) → k < length rows → (row_at rows k).index < count

-- rows whose boundaries have marks
pub record Selectable (rows : List Candidate) (removed : List Bool) (count : ℕ) : Type 0 where
  pub few : length rows ≤ max_proposals
  pub small : count ≤ 256
  pub removed-long : count ≤ length removed
  pub below : (k : ℕ) → k < length rows → (row_at rows k).index < count

-- the first t taken rows are `chosen`, and the marks are those of the boundaries that they remove and reserve
pub record Standing (full : List (Option declared.Pair)) (rows : List Candidate) (taken : List ℕ) (removed reserved : List Bool) (count t : ℕ) (chosen : List Proposal) : Type 0 where
  pub are : order_of rows taken t ≡ chosen
  pub rows_in : Rows taken t (length rows)
  pub removed_at_lem : (j : ℕ) → j < count → get_or removed j false ≡ any (λ q. eqb j q.index) chosen
  pub reserved_at : (j : ℕ) → j < count → get_or reserved j false ≡ any (λ q. reserves_at full q j) chosen

-- rows with a verdict for each, and a mark for each boundary, none of which is set
pub record Judged (boundaries : List ℕ) (rows : List Candidate) (verdicts removed : List Bool) (count : ℕ) : Type 0 where
  pub few : length rows ≤ max_proposals
  pub long : numbers_per_boundary * count ≤ length boundaries
  pub small : count ≤ 256
  pub below : (k : ℕ) → k < length rows → (row_at rows k).index < count
  pub judged : length rows ≤ length verdicts
  pub removed-long : count ≤ length removed
  pub clear : (j : ℕ) → j < count → get_or removed j false ≡ false

-- what is removed of the rows that are allowed
unfoldable pub removed_at : List ℕ → List (Option declared.Pair) → List Candidate → List Bool → ℕ → ℕ → ℕ → Bool
unfolding any select conflict_at sort ranks_at allowed_of
removed_at boundaries full rows verdicts count n j =
    any (λ q. eqb j q.index) (select (conflict_at full count) [] (sort (ranks_at boundaries) (allowed_of rows verdicts n)))
