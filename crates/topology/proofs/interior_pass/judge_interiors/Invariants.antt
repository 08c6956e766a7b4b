-- Of every context that is shown, the edges of what is accepted at the boundaries before `i` are marked.
use Rattle.std.proofs.Common.{◌≤◌, ◌≡◌, length}
use Rattle.definitions.specs.Limits.{max_entries}
use Rattle.definitions.specs.Context.{Context}
use Rattle.topology.specs.Interiors.{Judges}
use Rattle.topology.proofs.InteriorLoops.{Judging}
use Rattle.topology.proofs.interior_pass.judge_interiors.Given as goal

abbrev pub invariant-loop-i : goal.invariant-loop-i
invariant-loop-i l =
    (l.i ≤ l.context.count) × (length l.removed ≡ max_entries)
    × ((C : Context) → Judges C l.records l.context.boundaries.now l.context.pairs.now l.context.starts.now l.names l.owners l.found l.context.count
    → Judging C l.owners l.removed l.context.count l.i)
