-- `solve_game` meets its contract: an accepted call is solved, and a refused one leaves the verdicts as they were. Assumes nothing.
use Rattle.std.proofs.Common.{rules, refl, sym, ap, ◌≡◌, ◌∙◌, arith}
use Rattle.std.specs.Prelude.{Err}
use Rattle.definitions.specs.Verdict.{Answer}
use Rattle.refusals.specs.Answers.{answer_of}
use Rattle.refusals.proofs.Steps.{positive}
use Rattle.game.specs.Graph.{graph_of}
use Rattle.game_search.proofs.Stepping.{region-parts}
use Rattle.game_solver.proofs.Answering.{is_accepted, at_success, at_refusal}
use Rattle.game_solver.proofs.solve_game.Goals as goal

pub returns-in_err-count : goal.returns-in_err-count
returns-in_err-count c =
    let a = c.args in
    let given : c.from_residual.result ≡ Err c.in_err-count.field-0.0 = search rules in
    record {
      answer = ap answer_of given ∙ c.in_err-count.ensures a.pairs.now refl;
      at_exit = at_refusal (graph_of a.regions a.pairs.now a.goal) a.verdicts.now _
          (λ z. omega (arith, positive c.in_err-count.field-0.0.cause, ap (λ r. (answer_of r).number) given, z));
    }

pub solve-requires : goal.solve-requires
solve-requires c =
    let a = c.args in
    let accepted = is_accepted a.regions a.pairs.now a.goal _ (ap (λ (x : Answer). x.number) (sym (c.in_ok-count.ensures a.pairs.now refl))) in
    let inside = region-parts a.regions a.goal accepted.inside in
    (accepted.few, inside.0, inside.1, accepted.roomy)

pub returns : goal.returns
unfolding graph_of
returns c =
    let a = c.args in
    record {
      answer = c.in_ok-count.ensures a.pairs.now refl;
      at_exit = at_success (graph_of a.regions a.pairs.now a.goal) a.verdicts.now _ 0 refl c.solve.ensures;
    }
