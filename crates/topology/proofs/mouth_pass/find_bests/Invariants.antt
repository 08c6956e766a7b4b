-- `mouth_pass::find_bests` meets its contract. The invariant: of every context that is shown, the bests of the ramps passed are known. Assumes nothing.
use Prim.Native.Nat.{ℕ}
use mathlib.Core.Path.{◌≡◌}
use mathlib.Core.List.{List}
use lib.ListN.{length}
use Rattle.definitions.specs.Context.{Context}
use Rattle.mouth_selection.specs.Selecting.{Progress}
use Rattle.topology.specs.Mouths.{PassReplaces}
use Rattle.topology.proofs.mouth_pass.find_bests.Given as goal

abbrev pub invariant-loop-a : goal.invariant-loop-a
invariant-loop-a l =
    (length l.best-items ≡ l.context.count) × ((C : Context) (marks₀ : List ℕ) → PassReplaces C l.records l.context marks₀ l.counts
    → Progress C l.taken.marks.now l.taken.removed.now l.taken.ramp_ends l.fn.bests 0 → Progress C l.taken.marks.now l.taken.removed.now l.taken.ramp_ends l.best-items l.a)
