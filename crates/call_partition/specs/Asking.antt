-- What a call is asked, as it stands behind `Asked`. Definitions only; assumes nothing.
use Rattle.std.specs.Prelude.{ℕ, List}
use Rattle.grid_steps.specs.declared.grid.TerrainGrid.{TerrainGrid}
use Rattle.call_partition.specs.declared.asked.Asked.{Asked}

-- P of width, height, cells, spans, boundaries and anchors, in this order
abbrev pub of_asked {ℓ} : {A : Type ℓ} → (ℕ → ℕ → List ℕ → List ℕ → List ℕ → List ℕ → A) → Asked → A
of_asked P x = P x.width x.height x.cells.now x.spans.now x.boundaries.now x.anchors.now

-- its map's grid
abbrev pub grid_in : Asked → TerrainGrid
grid_in x = record { width = x.width; height = x.height; cells = x.cells }
