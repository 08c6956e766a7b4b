-- The words of the contracts of the ranked junction list over rows of proposals: a row of the list as it is declared, what is asked of the lists, and the list that comes
-- of an order. Definitions only; assumes nothing.
use Rattle.std.specs.Prelude.{ℕ, ◌*◌, ◌≤◌, ◌<◌, Bool, not, length, get_or, eqb, Option}
use Rattle.std.specs.Option.{is_some, unwrap_or}
use mathlib.Core.List.{List, [], ◌∷◌}
use Rattle.definitions.specs.Limits.{max_entries, numbers_per_boundary}
use Rattle.definitions.specs.Scan.{bit}
use Rattle.definitions.specs.Sort.{sort}
use Rattle.definitions.specs.Junctions.{Proposal}
use Rattle.junction_proposals.specs.declared.proposals.Candidate.{Candidate}
use Rattle.junction_proposals.specs.Rows.{max_proposals, form, nothing, row_at}
use Rattle.junction_selection.specs.Ranks.{ranks_at, allowed_of, conflict_at}
use Rattle.ranked_list.specs.RankedList.{Listed, blocks, judged_after}
use Rattle.ranked_rows.specs.declared.RankedRow.{RankedRow}
use Rattle.region_pairs.specs.declared.Pair as declared

-- what a row stands for: it was taken where its number is 1
abbrev pub listed_form : RankedRow → Listed Proposal
listed_form r = record { item = form r.candidate; taken = eqb r.taken 1; by = r.refused_by }

-- the row of a proposal, and of the rank of what it was refused by: it was taken where there is none, and the rank is 0 then
abbrev pub judged_row : Candidate → Option ℕ → RankedRow
judged_row p found = record { candidate = p; taken = bit (not (is_some found)); refused_by = unwrap_or found 0 }

-- rows as the lent list holds them, whatever their numbers are: six numbers a row, in the order of `flat_ranked`
unfoldable pub row_numbers : List RankedRow → List ℕ
row_numbers [] = []
row_numbers (r ∷ l) = (form r.candidate).kind ∷ (form r.candidate).index ∷ r.candidate.first ∷ r.candidate.second ∷ r.taken ∷ r.refused_by ∷ row_numbers l

-- row k of a list; what is said beyond the last
abbrev pub no_row : RankedRow
no_row = record { candidate = nothing; taken = 0; refused_by = 0 }

abbrev pub row_of : List RankedRow → ℕ → RankedRow
row_of listed k = get_or listed k no_row

-- the boundary of each row is below `max_entries`
abbrev pub BelowEntries : List RankedRow → Type 0
BelowEntries listed = (r : ℕ) → r < length listed → (row_of listed r).candidate.index < max_entries

-- few boundaries, no more ranks than proposals, and a row for each rank
pub record Listing (count ranks listed : ℕ) : Type 0 where
  pub small : count ≤ 256
  pub few : ranks ≤ max_proposals
  pub room : ranks ≤ listed

-- rows with a verdict for each, their boundaries, and room for each in the list
pub record Allowed (boundaries : List ℕ) (rows : List Candidate) (verdicts : List Bool) (listed count : ℕ) : Type 0 where
  pub few : length rows ≤ max_proposals
  pub long : numbers_per_boundary * count ≤ length boundaries
  pub small : count ≤ 256
  pub below : (k : ℕ) → k < length rows → (row_at rows k).index < count
  pub judged : length rows ≤ length verdicts
  pub room : max_proposals ≤ listed

module _ (full : List (Option declared.Pair)) (count : ℕ) where
  -- the list that comes of proposals in rank order
  unfoldable pub listed_from : List Proposal → List (Listed Proposal)
  unfolding judged_after conflict_at
  listed_from l = judged_after (conflict_at full count) [] l

  -- a row was taken, and conflicts with what is proposed
  abbrev pub blocks_at : Candidate → RankedRow → Bool
  blocks_at p r = blocks (conflict_at full count) (form p) (listed_form r)

  -- the list of the rows that are allowed
  unfoldable pub allowed_list : List ℕ → List Candidate → List Bool → ℕ → List (Listed Proposal)
  unfolding listed_from sort ranks_at allowed_of
  allowed_list boundaries rows verdicts n = listed_from (sort (ranks_at boundaries) (allowed_of rows verdicts n))
