-- `result_writer::RunResult::keeps_rules` meets its contract: the first rule that is broken is one. Assumes nothing.
use Rattle.std.proofs.Common.{sym, ap, ◌∙◌}
use Rattle.definitions.specs.Refusals.{unless}
use Rattle.result_writer.proofs.Ascending.{as_pairs}
use Rattle.result_writer.proofs.Answering.{rules-labels, rules-pairs, rules-rows}
use Rattle.result_writer.proofs.RunResult.keeps_rules.Goals as goal
use Rattle.result_writer.proofs.RunResult.keeps_rules.Goals.{then-in_turn, else-in_turn}

pub returns-then-entries_ascend : goal.returns-then-entries_ascend
returns-then-entries_ascend c =
    elim c.if-in_turn.branch [
      | then-in_turn w ↦ rules-rows _ _ c.in_turn.ensures w.if-in_turn.true _ (as_pairs _ ∙ w.entries_ascend.ensures) (sym w.value-is ∙ c.if-entries_ascend.true) _ c.entries_ascend-then-entries_ascend.ensures
      | else-in_turn w ↦ absurd (cc)
    ]

pub returns-else-entries_ascend : goal.returns-else-entries_ascend
returns-else-entries_ascend c =
    elim c.if-in_turn.branch [
      | then-in_turn w ↦ rules-pairs _ _ c.in_turn.ensures w.if-in_turn.true _ (as_pairs _ ∙ w.entries_ascend.ensures) (sym w.value-is ∙ c.if-entries_ascend.false)
          ∙ ap unless (sym c.if-entries_ascend.false)
      | else-in_turn w ↦ rules-labels _ _ c.in_turn.ensures w.if-in_turn.false ∙ ap unless (sym c.if-entries_ascend.false)
    ]
