-- `owners::find_owners` meets its contract. The invariant: the owners of the boundaries passed are stored. Assumes nothing.
use mathlib.Core.Path.{◌≡◌}
use lib.ListN.{length}
use Rattle.definitions.specs.Context.{Context}
use Rattle.interior_proposals.specs.Given.{Kept}
use Rattle.interior_proposals.specs.Owners.{nobody, Owned}
use Rattle.interior_proposals.proofs.Stored.{Filled}
use Rattle.interior_proposals.proofs.owners.find_owners.Given as goal

abbrev pub invariant-loop-i : goal.invariant-loop-i
invariant-loop-i l = (length l.owner-items ≡ l.context.count) × ((C : Context) → Kept C l.context.boundaries.now l.context.tallies.now l.context.pairs.now l.context.starts.now l.names → C.count ≡ l.context.count → Filled (Owned C) nobody l.owner-items l.i)
