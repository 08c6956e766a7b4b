-- The grid of the lent bytes, and the eight directions by number. Definitions only; assumes nothing.
use Rattle.std.specs.Prelude.{ℕ, List, [], get_or}
use Rattle.definitions.specs.Grid.{Map, Position, at, directions}

-- the map of the lent bytes: steps and walkable cells depend on nothing else
abbrev pub grid_of : ℕ → ℕ → List ℕ → Map
grid_of w h cells = record { width = w; height = h; cells = cells; spans = []; boundaries = []; anchors = [] }

-- direction d, for d below 8
abbrev pub direction_at : ℕ → Position
direction_at d = get_or directions d (at 0 0)
