-- `replace_ramp_mouths` and `collapse_ramp_interiors` of ramp_boundaries.rs from the map to the boundaries that they return, as the Rust writes them: they return the
-- definitions' rows of passes 1 and 2. Assumes of the map what the table of refusals has: a width of at most 1,024 cells, widths of boundaries finite with
-- their sign clear, kinds up to 2 and elevations up to 7.
use Rattle.std.specs.Prelude.{◌≤◌, ◌≡◌}
use Rattle.definitions.specs.Grid.{Map}
use Rattle.definitions.specs.Context.{context_of}
use Rattle.definitions.specs.Rows.{removed_by, rows_of}
use Rattle.laws.specs.ListLaws.Lists.{All}
use Rattle.laws.specs.RegionLaws.PairLaws.{pairs_ascending}
use Rattle.laws.specs.RustContext.SoundMaps.{FiniteWidth, map-sound}
use Rattle.laws.specs.RustContext.CheckedMaps.{CheckedBoundary, map-checked}
use Rattle.laws.specs.RustMouths.MouthsAsRust
use Rattle.laws.proofs.RustInteriors.InteriorsAsRust
use Rattle.laws.specs.RustInteriors.InteriorLoop
use Rattle.laws.specs.RustPasses.PassOutput.{output-rows}
use Rattle.laws.specs.RustPasses.RampRows.{replace_ramp_mouths_lem, collapse_ramp_interiors_lem}

-- ---- and that it is the same

module _ (M : Map) (narrow : M.width ≤ 1024) (finite : All FiniteWidth M.boundaries) (checked : All CheckedBoundary M.boundaries) where
  pub mouth-rows : replace_ramp_mouths_lem M ≡ rows_of 1 M
  unfolding replace_ramp_mouths_lem removed_by
  mouth-rows = output-rows 1 M (MouthsAsRust.removed_set (context_of M)) (MouthsAsRust.removed-member (context_of M) (map-sound M finite) (map-checked M narrow checked) (pairs_ascending M))

  pub interior-rows : collapse_ramp_interiors_lem M ≡ rows_of 2 M
  unfolding collapse_ramp_interiors_lem removed_by
  interior-rows = output-rows 2 M (InteriorLoop.removed_set (context_of M)) (InteriorsAsRust.removed-member (context_of M) (map-sound M finite) (map-checked M narrow checked))
