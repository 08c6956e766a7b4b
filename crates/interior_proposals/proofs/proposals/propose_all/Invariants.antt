-- `proposals::propose_all` meets its contract. The invariant: the boundaries passed are done, and what was found is stored. Assumes nothing.
use Prim.Native.Nat.{ℕ}
use mathlib.Core.Path.{◌≡◌}
use mathlib.Core.List.{List}
use lib.ListN.{length}
use Rattle.definitions.specs.Context.{Context}
use Rattle.interior_proposals.specs.Proposals.{Progress, Owning, FoundAll}
use Rattle.interior_proposals.proofs.proposals.propose_all.Given as goal

abbrev pub invariant-loop-i : goal.invariant-loop-i
invariant-loop-i l =
    (length l.names ≡ length l.initial.names) × (length l.marks ≡ length l.initial.marks) × (length l.ports-items ≡ l.context.count)
    × ((C : Context) (was wasMarks : List ℕ) → Owning C l.context.boundaries.now l.context.tallies.now l.context.pairs.now l.context.starts.now l.owners l.context.count → Progress C l.owners was l.initial.names wasMarks l.initial.marks 0 → Progress C l.owners was l.names wasMarks l.marks l.i × FoundAll C l.owners l.ports-items l.i)
