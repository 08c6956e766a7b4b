-- `mouth_pass::replace_ramp_mouths` meets its contract. The invariant: what is known of every context that is shown; the measure is the weight of what is
-- left. Assumes nothing.
use mathlib.Core.Path.{◌≡◌}
use lib.ListN.{length}
use Rattle.definitions.specs.Context.{Context}
use Rattle.mouth_selection.specs.Selecting.{Progress, weight}
use Rattle.topology.specs.Mouths.{PassReplaces}
use Rattle.topology.proofs.mouth_pass.replace_ramp_mouths.Given as goal

abbrev pub invariant-loop-a : goal.invariant-loop-a
invariant-loop-a l =
    (l.taken.marks.ghost_name ≡ l.initial.taken.marks.ghost_name) × ((l.taken.removed.ghost_name ≡ l.initial.taken.removed.ghost_name)
    × ((length l.taken.marks.now ≡ length l.initial.taken.marks.now) × ((C : Context) → PassReplaces C l.records l.context l.initial.taken.marks.now l.counts → Progress C l.taken.marks.now l.taken.removed.now l.taken.ramp_ends l.bests l.context.count)))

abbrev pub decreases-loop-a : goal.decreases-loop-a
decreases-loop-a l = weight l.context.pairs.now l.context.starts.now l.context.count l.taken.marks.now l.taken.removed.now l.taken.ramp_ends l.bests
