-- `neighbours::find_neighbours` meets its contract. The loop's invariant (`Joined`): the first edges are joined, and every region is to itself. Assumes
-- nothing.
use Rattle.std.proofs.Common.{◌-◌, length}
use Rattle.game_search.specs.Edges.{number_in}
use Rattle.game_search.proofs.Stepping.{Joined}
use Rattle.game_search.proofs.neighbours.find_neighbours.Given as goal

abbrev pub invariant-loop-edge : goal.invariant-loop-edge
invariant-loop-edge g l =
    Joined l.regions (length l.edges) (number_in l.edges (g.row.N - 2)) (number_in l.edges (g.row.N - 1)) l.edge-index l.near
