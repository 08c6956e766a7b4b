-- `remove_junction_boundaries` of junctions.rs from the map to the boundaries that it returns, as the Rust writes it: it returns the definitions' rows of pass 3.
-- Assumes that every width is finite and its sign clear, as the table of refusals has it.
use Rattle.std.specs.Prelude.{◌≡◌}
use Rattle.definitions.specs.Grid.{Map}
use Rattle.definitions.specs.Context.{context_of}
use Rattle.definitions.specs.Rows.{removed_by, rows_of}
use Rattle.laws.specs.ListLaws.Lists.{All}
use Rattle.laws.specs.RustContext.SoundMaps.{FiniteWidth, map-sound}
use Rattle.laws.specs.RustJunctions.JunctionsAsRust.{removed_set}
use Rattle.laws.proofs.RustJunctions.JunctionsAsRust.{removed-member}
use Rattle.laws.specs.RustPasses.PassOutput.{output-rows}
use Rattle.laws.specs.RustPasses.JunctionRows.{remove_junction_boundaries_lem}

pub junction-rows : (M : Map) → All FiniteWidth M.boundaries → remove_junction_boundaries_lem M ≡ rows_of 3 M
unfolding remove_junction_boundaries_lem removed_by
junction-rows M finite = output-rows 3 M (removed_set (context_of M)) (removed-member (context_of M) (map-sound M finite))
