-- A stretch begins at cell c, each region's record is that of its cells before c, and the others are as they were: those that `clear_records` left.
use Rattle.std.proofs.Common.{◌-◌, ◌≡◌, length}
use Rattle.definitions.specs.Grid.{Map}
use Rattle.topology.specs.Filled.{Fills}
use Rattle.topology.proofs.Filling.{Filling}
use Rattle.topology.proofs.records.fill.Given as goal

abbrev pub invariant-loop-c : goal.invariant-loop-c
invariant-loop-c l =
    (length l.records ≡ length l.initial.records)
    × ((M : Map) → Fills M (length l.initial.records) l.regions l.grid.width l.grid.cells.now l.labels l.queue → Filling M l.queue l.c l.initial.records l.records)

abbrev pub decreases-loop-c : goal.decreases-loop-c
decreases-loop-c l = l.end - l.c
