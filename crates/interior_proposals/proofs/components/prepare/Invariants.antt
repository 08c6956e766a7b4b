-- `components::prepare` meets its contract. The invariant: the marks of the regions passed are stored. Assumes nothing.
use mathlib.Core.Path.{◌≡◌}
use lib.ListN.{length}
use Rattle.interior_proposals.proofs.Stored.{Stored}
use Rattle.interior_proposals.proofs.Preparing.{flags_at}
use Rattle.interior_proposals.proofs.components.prepare.Given as goal

abbrev pub invariant-loop-k : goal.invariant-loop-k
invariant-loop-k l = (length l.mark-items ≡ l.regions) × Stored (flags_at l.initial.mark-items l.counts) l.initial.mark-items l.mark-items l.k
