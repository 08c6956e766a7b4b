-- What the functions on records ask of them, and of what a context has that `is_allowed` reads. Definitions only; assumes nothing.
use Rattle.std.specs.Prelude.{ℕ, ◌≡◌, List}
use Rattle.definitions.specs.RegionRecord as def
use Rattle.definitions.specs.Context.{Context}
use Rattle.laws.specs.FloatLaws.Pixels.{PixelRegion, PixelContext}
use Rattle.context.specs.declared.Region.{Region}
use Rattle.context.specs.Records.{record_of, Counted}
use Rattle.context.specs.Shown.{ShownBoundaries, ShownAnchored}
use Rattle.junction_proposals.specs.declared.proposals.Candidate.{Candidate}
use Rattle.junction_proposals.specs.Rows.{form, RowFits}

-- the record of a region of a map
pub record OnMap (s : def.Region) : Type 0 where
  pub edges : PixelRegion s
  pub counted : Counted s

-- the lists show what C says of boundaries and anchors, and C is a context of a map
pub record Told (C : Context) (boundaries marks : List ℕ) : Type 0 where
  pub bounds : ShownBoundaries C boundaries
  pub anchored : ShownAnchored C marks
  pub pixels : PixelContext C
  pub counted : (r : ℕ) → Counted (C.region r)

-- the records are those of a proposal's regions
pub record Asked (C : Context) (boundaries marks : List ℕ) (row : Candidate) (first second : Region) : Type 0 where
  pub told : Told C boundaries marks
  pub fits : RowFits C.count C.regions (form row)
  pub first_is : record_of first ≡ C.region row.first
  pub second_is : record_of second ≡ C.region row.second
