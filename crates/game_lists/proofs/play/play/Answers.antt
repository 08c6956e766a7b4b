-- `game_lists::play::play` meets its contract: a graph that neither check refuses is solved, and otherwise the verdicts are as they were. Assumes nothing.
use native.Mathlib.Omega.{arith}
use mathlib.Core.Path.{◌≡◌, refl, ap, ◌∙◌}
use Rattle.std.proofs.Common.{rules}
use Rattle.std.specs.Prelude.{Err}
use Rattle.refusals.proofs.Steps.{positive}
use Rattle.definitions.specs.Lists.{overwrite}
use Rattle.game.specs.Graph.{graph_of, place_count, verdict_numbers}
use Rattle.game_solver.proofs.Edges.{front_edges}
use Rattle.game_solver.proofs.Answering.{at_refusal, at_success}
use Rattle.game_lists.proofs.play.play.Goals as goal

pub returns-in_err-check_graph-clause-verdicts : goal.returns-in_err-check_graph-clause-verdicts
returns-in_err-check_graph-clause-verdicts c =
    let x = c.in_err-check_graph.field-0.0 in
    let r : c.from_residual.result ≡ Err x = search rules in
    rw r (at_refusal _ _ _ (λ z. omega (arith, z, positive x.cause)))

pub returns-clause-verdicts : goal.returns-clause-verdicts
unfolding graph_of
returns-clause-verdicts c =
    let a = c.args in
    at_success _ _ _ _ refl
    (c.solve_rows.ensures
    ∙ ap (λ e. overwrite (verdict_numbers (graph_of a.regions e a.goal) (place_count a.regions)) a.verdicts.now) (front_edges a.rows.now a.count c.requires.0))
