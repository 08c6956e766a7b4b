-- The boundaries before `j` are marked besides where the component owns them, and the others are as they were.
use Rattle.std.proofs.Common.{◌≡◌, ℕ, ◌≤◌, ◌<◌, ◌||◌, false, length, get_or}
use Rattle.definitions.specs.Limits.{max_entries}
use Rattle.interior_proposals.specs.Owners.{owned_by, owner_at}
use Rattle.interior_regions.proofs.mark_edges.Given as goal

abbrev pub invariant-loop-j : goal.invariant-loop-j
invariant-loop-j l =
    (l.j ≤ l.count) × (length l.removed ≡ max_entries)
    × ((k : ℕ) → k < l.j → get_or l.removed k false ≡ (get_or l.initial.removed k false || owned_by l.name (owner_at l.owners k)))
    × ((k : ℕ) → l.j ≤ k → get_or l.removed k false ≡ get_or l.initial.removed k false)
