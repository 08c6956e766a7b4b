-- The kept graph (document 02, request 14): "the map partitioned again by its kept boundaries alone, as written, in list order". Quotations are of the request.
-- Definitions only; assumes nothing.
use Rattle.std.specs.Prelude.{ℕ, ◌/◌, List, length}
use Rattle.definitions.specs.Limits.{numbers_per_pair}
use Rattle.definitions.specs.Scan.{collect, only_if}
use Rattle.definitions.specs.Grid.{Map}
use Rattle.definitions.specs.Partition.{region_count}
use Rattle.definitions.specs.Context.{context_of}
use Rattle.definitions.specs.Rows.{is_kept}
use Rattle.definitions.specs.Verdict.{pair_rows_of}
use Rattle.rest_definitions.specs.Rest.{kept_map}
use Rattle.game.specs.Game.{Game}
use Rattle.game.specs.Graph.{edges_in, graph_of}

-- the numbers of the boundaries that the pass keeps, in list order
unfoldable pub kept_numbers : ℕ → Map → List ℕ
unfolding collect is_kept
kept_numbers pass M = collect (length M.boundaries) (λ i. only_if (is_kept pass M i) i)

-- the map of these boundaries as written, which serve as spans
unfoldable pub graph_map : ℕ → Map → Map
unfolding kept_map kept_numbers
graph_map pass M = kept_map M (kept_numbers pass M)

-- The regions of this second partition, "and an edge for each pair of a kept boundary"; the goal is one of its regions.
unfoldable pub kept_game : ℕ → Map → ℕ → Game
unfolding graph_map region_count pair_rows_of context_of edges_in graph_of
kept_game pass M goal =
    let K = graph_map pass M in
    let rows = pair_rows_of (context_of K) in
    graph_of (region_count K) (edges_in rows (length rows / numbers_per_pair)) goal
