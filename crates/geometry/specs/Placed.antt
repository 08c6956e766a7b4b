-- A boundary of a lent list, and one whose endpoints are on a map: what its readers ask for. Definitions only; assumes nothing.
use Rattle.std.specs.Prelude.{ℕ, ◌+◌, ◌*◌, ◌<◌, List, length}
use Rattle.definitions.specs.Limits.{numbers_per_boundary}
use Rattle.definitions.specs.Grid.{segment_at}
use Rattle.laws.specs.FloatLaws.Pixels.{PixelSegment}

-- boundary i stands in the list
abbrev pub HasBoundary : List ℕ → ℕ → Type 0
HasBoundary boundaries i = numbers_per_boundary * i + 8 < length boundaries

-- the same, with its endpoints on a map
pub record Placed (boundaries : List ℕ) (i : ℕ) : Type 0 where
  pub whole : HasBoundary boundaries i
  pub pixels : PixelSegment (segment_at boundaries (numbers_per_boundary * i))
