-- `solve_edges` meets its contract: the ranks of the game of these steps, and from these its verdicts. Assumes nothing.
use Rattle.std.proofs.Common.{refl, ◌-◌, arith}
use Rattle.game_search.specs.Edges.{graph_by, last_two}
use Rattle.game_verdicts.proofs.Reading.{solved}
use Rattle.game_solver.proofs.solve_edges.Goals as goal

pub returns : goal.returns
unfolding graph_by
returns g c =
    let a = c.args in
    let sizes = c.requires.sizes in
    solved (last_two g.row.N a.regions a.edges.now a.goal) _ _ a.verdicts.now _ a.regions (a.goal - 1) sizes.0 (omega (arith, sizes.1, sizes.2)) sizes.3
    (record { regions_are = refl; goal_is = omega (arith, sizes.1); steps = c.find_neighbours.ensures a.goal }) c.search-ranks.ensures c.put_verdicts.ensures
