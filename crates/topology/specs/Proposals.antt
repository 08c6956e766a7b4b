-- The words of the contracts of `allow_proposals`, `allowed_proposals` and `remove_junction_boundaries`. Definitions only; assumes nothing.
use Rattle.std.specs.Prelude.{ℕ, ◌≤◌, ◌<◌, ◌≡◌, Bool, false, List, length, get_or, Option}
use Rattle.definitions.specs.Scan.{member, filter}
use Rattle.definitions.specs.Context.{Context}
use Rattle.definitions.specs.Junctions.{proposals, removed}
use Rattle.context.specs.declared.Region.{Region}
use Rattle.region_pairs.specs.declared.Pair.{Pair}
use Rattle.context.specs.Records.{Counted}
use Rattle.junction_proposals.specs.declared.lists.JunctionLists.{JunctionLists}
use Rattle.junction_proposals.specs.declared.proposals.Candidate.{Candidate}
use Rattle.junction_proposals.specs.Lent.{Shows}
use Rattle.junction_proposals.specs.Rows.{max_proposals, row_at, rows_of, RowFits, is_allowed}
use Rattle.junction_regions.specs.Asked.{Told}
use Rattle.topology.specs.Held.{HoldsRecords}

-- n rows name boundaries and regions of C, which the lists and the records show
pub record Allows (C : Context) (records : List Region) (boundaries marks : List ℕ) (rows : List Candidate) (n : ℕ) : Type 0 where
  pub held : HoldsRecords C records
  pub told : Told C boundaries marks
  pub few : n ≤ max_proposals
  pub whole : n ≤ length rows
  pub fits : (k : ℕ) → k < n → RowFits C.count C.regions (row_at rows k)

-- a mark for each of n rows says whether the records allow it
pub record Allowed (C : Context) (rows : List Candidate) (n : ℕ) (allowed : List Bool) : Type 0 where
  pub long : length allowed ≡ max_proposals
  pub at : (k : ℕ) → k < n → get_or allowed k false ≡ is_allowed C (row_at rows k)

-- the lists and the records show C, a context of a map
pub record Passes (C : Context) (records : List Region) (boundaries : List ℕ) (full : List (Option Pair)) (counts marks : List ℕ) (count regions : ℕ) : Type 0 where
  pub shown : Shows boundaries full counts marks count regions C
  pub held : HoldsRecords C records
  pub counted : (r : ℕ) → Counted (C.region r)

-- the same of the lists as a function takes them
abbrev pub PassesIn : Context → List Region → JunctionLists → Type 0
PassesIn C records l = Passes C records l.boundaries.now l.full.now l.counts.now l.marks.now l.count l.regions

-- n rows are what pass 3 proposes of C before records are asked, and the marks say which of them the records allow
pub record Proposed (C : Context) (count regions : ℕ) (rows : List Candidate) (allowed : List Bool) (n : ℕ) : Type 0 where
  pub few : n ≤ max_proposals
  pub fits : (k : ℕ) → k < n → RowFits count regions (row_at rows k)
  pub are : filter (is_allowed C) (rows_of rows n) ≡ proposals C
  pub judged : Allowed C rows n allowed

-- room for a mark of each boundary, and none is marked
pub record Unmarked (marked : List Bool) (count : ℕ) : Type 0 where
  pub long : count ≤ length marked
  pub clear : (j : ℕ) → j < count → get_or marked j false ≡ false

-- the marked boundaries are those that pass 3 removes
pub record Removes (C : Context) (count : ℕ) (marked : List Bool) : Type 0 where
  pub at : (j : ℕ) → j < count → get_or marked j false ≡ member j (removed C)
