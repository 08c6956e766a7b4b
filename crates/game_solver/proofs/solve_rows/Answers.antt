-- `solve_rows` meets its contract: a row is a list of three numbers. Assumes nothing.
use Rattle.std.proofs.Common.{ap, ◌∙◌}
use Rattle.definitions.specs.Lists.{overwrite}
use Rattle.game.specs.Graph.{place_count, verdict_numbers}
use Rattle.game_solver.proofs.Edges.{rows_graph}
use Rattle.game_solver.proofs.solve_rows.Goals as goal

pub returns : goal.returns
returns c =
    let a = c.args in
    c.solve_edges.ensures
    ∙ ap (λ G. overwrite (verdict_numbers G (place_count a.regions)) a.verdicts.now) (rows_graph a.regions a.rows.now a.goal c.as_chunks.ensures.front c.as_chunks.ensures.front_len)
