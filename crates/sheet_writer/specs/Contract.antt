-- Words of the crate's contracts. Definitions only; assumes nothing.
use Rattle.std.specs.Prelude.{ℕ, List, ◌++◌}
use Rattle.definitions.specs.Sheet.{Sheet}
use Rattle.results.specs.Shortest.{shortest}
use Rattle.map_sheets.specs.Writing.{stating}
use Rattle.sheet_writer.specs.declared.Map.{Map}

-- what a sheet of kind 3 begins with
unfoldable pub opening : ℕ → ℕ → ℕ → List ℕ
unfolding shortest
opening pass width height = shortest 3 ++ shortest pass ++ shortest width ++ shortest height

-- what the struct of a map stands for
abbrev pub stated : Map → Sheet
stated m = stating m.pass m.width m.height m.cells.now m.boundaries.now m.anchors.now
