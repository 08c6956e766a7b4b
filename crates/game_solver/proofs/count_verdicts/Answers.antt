-- `count_verdicts` meets its contract: the four checks, in the definition's order. Assumes nothing.
use Rattle.std.proofs.Common.{rules, refl, sym, ap, ◌≡◌, ◌∙◌, ℕ, ◌%◌, List, length, eqb}
use Rattle.std.specs.Prelude.{Option, None, Some, Err}
use mathlib.Core.List.{[], ◌∷◌}
use Rattle.definitions.specs.Refusals.{Refusal, or_else}
use Rattle.definitions.specs.Verdict.{refusal, first_refusal}
use Rattle.game.specs.Graph.{place_count, graph_fault, goal_fault, solve_answer}
use Rattle.refusals.specs.Answers.{answer_of}
use Rattle.refusals.proofs.Steps.{stopped, passed, ensured}
use Rattle.game_solver.proofs.count_verdicts.Goals as goal

-- of the list, or of its length
whole : (list : List ℕ) {pairs : ℕ} → length list ≡ pairs → eqb (pairs % 2) 0 ≡ eqb (length list % 2) 0
whole list l = ap (λ n. eqb (n % 2) 0) (sym l)

-- two checks that are one step
joined : (a b : Option Refusal) (l : List (Option Refusal)) (n : ℕ) → first_refusal (or_else a b ∷ l) n ≡ first_refusal (a ∷ b ∷ l) n
joined None b l n = refl
joined (Some r) b l n = refl

pub returns-in_err-ensure : goal.returns-in_err-ensure
unfolding solve_answer
returns-in_err-ensure c =
    λ list l.
    let given : c.from_residual.result ≡ Err c.in_err-ensure.field-0.0 = search rules in
    ap answer_of given ∙ stopped _ _ _ (ensured 3 (whole list l) c.in_err-ensure.ensures)

pub returns-in_err-ensure-2 : goal.returns-in_err-ensure-2
unfolding solve_answer
returns-in_err-ensure-2 c =
    λ list l.
    let given : c.from_residual-in_err-ensure-2.result ≡ Err c.in_err-ensure-2.field-0.0 = search rules in
    ap answer_of given ∙ passed _ _ (ensured 3 (whole list l) c.in_ok-ensure.ensures) (stopped _ _ _ (ensured 10 refl c.in_err-ensure-2.ensures))

pub returns-in_err-check_graph : goal.returns-in_err-check_graph
unfolding solve_answer
returns-in_err-check_graph c =
    λ list l.
    let given : c.from_residual-in_err-check_graph.result ≡ Err c.in_err-check_graph.field-0.0 = search rules in
    ap answer_of given
    ∙ passed _ _ (ensured 3 (whole list l) c.in_ok-ensure.ensures)
    (passed _ _ (ensured 10 refl c.in_ok-ensure-2.ensures) (stopped [] _ _ (sym c.in_err-check_graph.ensures) ∙ joined (refusal 23 (graph_fault c.args.regions)) (refusal 24 (goal_fault c.args.regions c.args.goal)) [] (place_count c.args.regions)))

pub returns : goal.returns
unfolding solve_answer
returns c =
    λ list l. rw c.place_count.ensures
    (passed _ _ (ensured 3 (whole list l) c.in_ok-ensure.ensures)
    (passed _ _ (ensured 10 refl c.in_ok-ensure-2.ensures) (passed [] _ (sym c.in_ok-check_graph.ensures) refl ∙ joined (refusal 23 (graph_fault c.args.regions)) (refusal 24 (goal_fault c.args.regions c.args.goal)) [] (place_count c.args.regions))))
