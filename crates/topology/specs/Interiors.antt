-- The words of the contracts of `interior_fits`, `judge_interiors` and `collapse_ramp_interiors`. Definitions only; assumes nothing.
use Rattle.std.specs.Prelude.{ℕ, ◌≤◌, ◌<◌, ◌≡◌, Bool, false, List, length, get_or, Option}
use Rattle.definitions.specs.Scan.{member}
use Rattle.definitions.specs.Context.{Context}
use Rattle.definitions.specs.RampInteriors.{removed}
use Rattle.laws.specs.FloatLaws.Pixels.{PixelContext}
use Rattle.context.specs.declared.Region.{Region}
use Rattle.context.specs.Shown.{ShownBoundaries}
use Rattle.context.specs.declared.found_regions.FoundRegions.{FoundRegions}
use Rattle.interior_proposals.specs.declared.ports.Ports.{Ports}
use Rattle.interior_proposals.specs.Given.{Lent}
use Rattle.interior_regions.specs.declared.Interior.{Interior}
use Rattle.interior_regions.specs.Places.{AllReadable}
use Rattle.interior_regions.specs.Marks as interiors
use Rattle.topology.specs.Held.{HoldsRecords}

-- the lists and the records show C, and the places of the interior name regions of it
pub record Asks (C : Context) (records : List Region) (boundaries pairs names : List ℕ) (x : Interior) : Type 0 where
  pub held : HoldsRecords C records
  pub bounds : ShownBoundaries C boundaries
  pub pixels : PixelContext C
  pub long : C.regions ≤ length names
  pub rising : x.begin ≤ x.end
  pub readable : AllReadable pairs C.regions x.begin x.end
  pub first : x.ports.first < C.count
  pub second : x.ports.second < C.count

-- the lists hold what was found of the components of C, and the records are its records
pub record Judges (C : Context) (records : List Region) (boundaries pairs starts names : List ℕ) (owners : List FoundRegions) (found : List (Option Ports)) (count : ℕ) : Type 0 where
  pub held : HoldsRecords C records
  pub tallies : List ℕ
  pub interiors : interiors.Interiors C boundaries tallies pairs starts names owners found count

-- the lists and the records show C, a context of a map
pub record Collapses (C : Context) (records : List Region) (boundaries tallies pairs starts : List ℕ) (count regions : ℕ) (marks counts : List ℕ) : Type 0 where
  pub lent : Lent C boundaries tallies pairs starts count regions marks counts
  pub held : HoldsRecords C records
  pub pixels : PixelContext C

-- the marked boundaries are those that pass 2 removes
pub record Collapsed (C : Context) (count : ℕ) (marked : List Bool) : Type 0 where
  pub at : (j : ℕ) → j < count → get_or marked j false ≡ member j (removed C)
