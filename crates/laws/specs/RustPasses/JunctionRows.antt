-- `remove_junction_boundaries` of junctions.rs from the map to the boundaries that it returns, as the Rust writes it: it returns the definitions' rows of pass 3.
-- Assumes that every width is finite and its sign clear, as the table of refusals has it.
use Rattle.std.specs.Prelude.{List}
use Rattle.definitions.specs.Grid.{Map}
use Rattle.definitions.specs.Context.{context_of}
use Rattle.definitions.specs.Rows.{Row}
use Rattle.laws.specs.RustJunctions.JunctionsAsRust.{removed_set}
use Rattle.laws.specs.RustPasses.PassOutput.{output_of}

-- (it asks `boundaries.len() != ctx.partition.boundaries().len()`, which `output_of` has the other way round)
unfoldable pub remove_junction_boundaries_lem : Map → List Row
remove_junction_boundaries_lem M = output_of M (removed_set (context_of M))
