-- `replace_ramp_mouths` and `collapse_ramp_interiors` of ramp_boundaries.rs from the map to the boundaries that they return, as the Rust writes them: they return the
-- definitions' rows of passes 1 and 2. Assumes of the map what the table of refusals has: a width of at most 1,024 cells, widths of boundaries finite with
-- their sign clear, kinds up to 2 and elevations up to 7.
use Rattle.std.specs.Prelude.{List}
use Rattle.definitions.specs.Grid.{Map}
use Rattle.definitions.specs.Context.{context_of}
use Rattle.definitions.specs.Rows.{Row}
use Rattle.laws.specs.RustMouths.MouthsAsRust
use Rattle.laws.specs.RustInteriors.InteriorLoop
use Rattle.laws.specs.RustPasses.PassOutput.{output_of}

-- ---- as the Rust writes it

unfoldable pub replace_ramp_mouths_lem : Map → List Row
replace_ramp_mouths_lem M = output_of M (MouthsAsRust.removed_set (context_of M))

unfoldable pub collapse_ramp_interiors_lem : Map → List Row
collapse_ramp_interiors_lem M = output_of M (InteriorLoop.removed_set (context_of M))
