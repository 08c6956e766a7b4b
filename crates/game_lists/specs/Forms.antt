-- The answer behind 12. Definitions only; assumes nothing.
use Rattle.std.specs.Prelude.{ℕ, [], ◌∷◌}
use Rattle.definitions.specs.Verdict.{refusal, first_refusal}
use Rattle.game.specs.Graph.{graph_fault, goal_fault}
use Rattle.game_calls.specs.GameVerdict as verdict

-- 23, 24, or success with so many rows and regions
abbrev pub late_answer : ℕ → ℕ → ℕ → verdict.GameAnswer
late_answer kept regions goal = verdict.with_regions (first_refusal (refusal 23 (graph_fault regions) ∷ refusal 24 (goal_fault regions goal) ∷ []) kept) regions
