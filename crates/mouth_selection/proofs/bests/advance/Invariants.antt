-- `bests::advance` meets its contract. The invariant: what is known of every context that is shown, and what has not risen; the measure is how many boundaries are not
-- removed. A turn takes the least of the bests, which is the least of all that is left. Assumes nothing.
use Prim.Native.Nat.{◌≤◌}
use mathlib.Core.Path.{◌≡◌}
use mathlib.Core.Bool.{false, not}
use lib.ListN.{length, get_or}
use Rattle.definitions.specs.Scan.{count_below}
use Rattle.definitions.specs.Context.{Context}
use Rattle.mouth_selection.specs.Selecting.{Lists, Progress, weight}
use Rattle.mouth_selection.proofs.bests.advance.Given as goal

abbrev pub invariant-loop-best : goal.invariant-loop-best
invariant-loop-best l =
    ((l.taken.marks.ghost_name ≡ l.initial.taken.marks.ghost_name) × ((length l.taken.marks.now ≡ length l.initial.taken.marks.now)
    × (l.taken.removed.ghost_name ≡ l.initial.taken.removed.ghost_name)))
    × ((weight l.context.pairs.now l.context.starts.now l.context.count l.taken.marks.now l.taken.removed.now l.taken.ramp_ends l.bests
    ≤ weight l.context.pairs.now l.context.starts.now l.context.count l.initial.taken.marks.now l.initial.taken.removed.now l.initial.taken.ramp_ends l.initial.bests)
    × ((C : Context) → Lists l.context.boundaries.now l.context.pairs.now l.context.starts.now l.context.count C
    → Progress C l.initial.taken.marks.now l.initial.taken.removed.now l.initial.taken.ramp_ends l.initial.bests l.context.count
    → Progress C l.taken.marks.now l.taken.removed.now l.taken.ramp_ends l.bests l.context.count))

abbrev pub decreases-loop-best : goal.decreases-loop-best
decreases-loop-best l = count_below l.context.count (λ i. not (get_or l.taken.removed.now i false))
