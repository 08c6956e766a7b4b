-- Proposals as the code has them: boundary, kind, first and second region. Definitions only; assumes nothing.
use Rattle.std.specs.Prelude.{ℕ, ◌≤◌, ◌<◌, Bool, ◌&&◌, List, get_or, eqb, Option, None, Some}
use Rattle.std.proofs.Math.Bool.{not, cond}
use Rattle.definitions.specs.Scan.{collect, only_if}
use Rattle.definitions.specs.Geometry.{center}
use Rattle.definitions.specs.RegionRecord.{has_ramp, strictly_flat}
use Rattle.definitions.specs.Context.{Context}
use Rattle.definitions.specs.Junctions.{Proposal, within_radius, union_regions}
use Rattle.definitions.specs.Grid.{Pair}
use Rattle.region_pairs.specs.declared.Pair as declared
use Rattle.junction_proposals.specs.Ports.{pair_of}
use Rattle.junction_proposals.specs.Unions.{shape_at}
use Rattle.junction_proposals.specs.Bridges.{is_bridge_at}
use Rattle.junction_proposals.specs.declared.lists.JunctionLists.{JunctionLists}
use Rattle.junction_proposals.specs.declared.proposals.Kind.{Kind}
use Rattle.junction_proposals.specs.declared.proposals.Candidate.{Candidate}

-- at most 256 unions, and 170 bridges: a pocket has three full pairs, and a full pair names two regions
abbrev pub max_proposals : ℕ
max_proposals = 426

-- the number of a kind: 0 is a union, every other a bridge
abbrev pub kind_of : Kind → ℕ
kind_of k = k.0

abbrev pub form : Candidate → Proposal
form c = record { index = c.index; kind = kind_of c.kind; first = c.first; second = c.second }

-- of a row that there may be
abbrev pub found_form : Option Candidate → Option Proposal
found_form None = None
found_form (Some c) = Some (form c)

-- what is said of a place beyond the last
abbrev pub nothing : Candidate
nothing = record { index = 0; kind = record { 0 = 0 }; first = 0; second = 0 }

abbrev pub row_at : List Candidate → ℕ → Proposal
row_at rows k = form (get_or rows k nothing)

-- the first n rows
unfoldable pub rows_of : List Candidate → ℕ → List Proposal
unfolding collect
rows_of rows n = collect n (λ k. Some (row_at rows k))

module _ (boundaries : List ℕ) (full : List (Option declared.Pair)) (counts marks : List ℕ) (count i : ℕ) where
  -- the union of a full pair that there may be at boundary i
  abbrev pub union_of : Option Pair → Option Proposal
  union_of None = None
  union_of (Some p) = only_if (shape_at boundaries full count i p counts marks) (record { index = i; kind = 0; first = p.lo; second = p.hi })

  -- the union at boundary i, if it is a full pair and has the shape of one
  unfoldable pub union_at : Option Proposal
  unfolding shape_at
  union_at = union_of (pair_of full i)

-- both of the lists as a function takes them
abbrev pub union_in : JunctionLists → ℕ → Option Proposal
union_in l i = union_at l.boundaries.now l.full.now l.counts.now l.marks.now l.count i

abbrev pub bridge_in : JunctionLists → ℕ → Option Proposal
bridge_in l r = is_bridge_at l.boundaries.now l.full.now l.marks.now r l.counts.now l.count

-- ---- what the records of regions have to say

module _ (C : Context) where
  -- of a bridge at boundary i, the part of `bridge_fits` that asks the pocket's record
  unfoldable pub bridge_region : ℕ → ℕ → Bool
  unfolding within_radius center strictly_flat
  bridge_region r i = not (has_ramp (C.region r)) && (within_radius (C.region r) (center (C.boundary i).endpoints) && strictly_flat (C.region r) (C.region r))

  unfoldable pub is_allowed : Proposal → Bool
  unfolding union_regions bridge_region
  is_allowed p = cond (eqb p.kind 0) (union_regions C p.index (record { lo = p.first; hi = p.second })) (bridge_region p.first p.index)

-- a row's boundary and regions are among those that there are
pub record RowFits (count regions : ℕ) (p : Proposal) : Type 0 where
  pub index_in : p.index < count
  pub kind_in_lem : p.kind ≤ 1
  pub first_from : 1 ≤ p.first
  pub first_to : p.first ≤ regions
  pub second_from : 1 ≤ p.second
  pub second_to : p.second ≤ regions
