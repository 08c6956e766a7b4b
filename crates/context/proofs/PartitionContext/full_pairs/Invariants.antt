-- `PartitionContext::full_pairs` meets its contract. The invariant: of every context that the lists show, the full pairs of the boundaries passed are stored. Assumes nothing.
use mathlib.Core.Path.{◌≡◌}
use lib.ListN.{length}
use Rattle.definitions.specs.Context.{Context}
use Rattle.context.specs.Shown.{ShownTallies, ShownPairs}
use Rattle.context.proofs.FullPairs.{Stored}
use Rattle.context.proofs.PartitionContext.full_pairs.Given as goal

abbrev pub invariant-loop-i : goal.invariant-loop-i
invariant-loop-i l =
    (length l.pair-items ≡ l.self.count)
    × ((C : Context) → C.count ≡ l.self.count → ShownTallies C l.self.tallies.now → ShownPairs C l.self.pairs.now l.self.starts.now → Stored C l.pair-items l.i)
