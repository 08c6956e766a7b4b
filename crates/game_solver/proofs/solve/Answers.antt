-- `solve` meets its contract: a pair is a list of two numbers. Assumes nothing.
use Rattle.std.proofs.Common.{ap, ◌∙◌}
use Rattle.definitions.specs.Lists.{overwrite}
use Rattle.game.specs.Graph.{place_count, verdict_numbers}
use Rattle.game_solver.proofs.Edges.{pairs_graph}
use Rattle.game_solver.proofs.solve.Goals as goal

pub returns : goal.returns
returns c =
    let a = c.args in
    c.solve_edges.ensures
    ∙ ap (λ G. overwrite (verdict_numbers G (place_count a.regions)) a.verdicts.now) (pairs_graph a.regions a.pairs.now a.goal c.as_chunks.ensures.front c.as_chunks.ensures.front_len)
