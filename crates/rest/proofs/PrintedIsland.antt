-- The island of a run to rest over the printed rows, with the premises in row order: a printed row bears a number of the list as lent, by which its place in
-- the starting list is found (`place_of`), for each boundary stands there once (`numbers-once`). Two printed rows are alike when their endpoints agree and
-- their boundaries have the same rank, in row order, among those cutting the island. Assumes `Alike` of the starting maps.
use Prim.Native.Nat.{ℕ}
use Rattle.std.specs.Prelude.{◌≡◌}
use Rattle.std.proofs.Math.Path.{sym}
use Rattle.std.proofs.Common.{◌∙◌}
use Rattle.std.proofs.Math.Bool.{Bool}
use Rattle.definitions.specs.Grid.{Map}
use Rattle.island.specs.Premises.{Alike}
use Rattle.rest_definitions.specs.RowOrder.{start_map}
use Rattle.rest_definitions.specs.Rest.{rest_rows}
use Rattle.rest.proofs.IslandRest.{rest-island}
use Rattle.rest.specs.PrintedIsland.{printed_island, printed-final}

-- "An island edited by itself must still leave its neighbour's final rows alike, as 01 has it for demand 3, and in the same order, under the mission's
-- premises for the starting map, taken in row order with canonical endpoints"
pub rest-island-printed : (M M' : Map) (isl : ℕ → Bool) → Alike (start_map M) (start_map M') isl
    → printed_island M isl (rest_rows M) ≡ printed_island M' isl (rest_rows M')
rest-island-printed M M' isl A = printed-final M isl ∙ rest-island M M' isl A ∙ sym (printed-final M' isl)
