-- THE ISLAND OF A RUN TO REST (document 02, request 4): "An island edited by itself must still leave its neighbour's final rows alike, as 01 has it for
-- demand 3, and in the same order, under the mission's premises for the starting map, taken in row order with canonical endpoints". The two runs may need
-- different numbers of rounds; rounds beyond the last change nothing, so that both are what a number of rounds that is enough for both leaves
-- (`rested-iterate`), and after equally many passes what is kept of the island is the same (`IslandPasses`). Assumes `Alike` of the starting maps.
use Rattle.std.specs.Prelude.{ℕ}
use mathlib.Core.List.{List, map}
use Rattle.definitions.specs.Grid.{Map, boundary_of}
use Rattle.definitions.specs.Rows.{Row}
use Rattle.rest_definitions.specs.Rest.{rested}

-- the row at a place of a map in row order: the place for its number, and its endpoints, which are canonical
abbrev pub row_at : Map → ℕ → Row
row_at N k = record { number = k; line = (boundary_of N k).endpoints }

-- the final rows of a map in row order, by place
abbrev pub final_rows : Map → List Row
final_rows N = map (row_at N) (rested N).places
