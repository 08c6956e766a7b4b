-- Of every context that is shown, the marks of the first `k` rows say which are allowed.
use Rattle.std.proofs.Common.{◌≤◌, ◌≡◌, length}
use Rattle.definitions.specs.Context.{Context}
use Rattle.junction_proposals.specs.Rows.{max_proposals}
use Rattle.topology.specs.Proposals.{Allows, Allowed}
use Rattle.topology.proofs.junction_pass.allow_proposals.Given as goal

abbrev pub invariant-loop-k : goal.invariant-loop-k
invariant-loop-k l =
    (l.k ≤ length l.rows) × (length l.allowed ≡ max_proposals)
    × ((C : Context) → Allows C l.records l.boundaries l.marks l.rows (length l.rows) → Allowed C l.rows l.k l.allowed)
