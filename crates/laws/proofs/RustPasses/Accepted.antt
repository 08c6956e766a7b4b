-- The three passes as the Rust writes them return the definitions' rows, and no distance that a pass asks for is out of the hypotenuse's range, for every call that is answered
-- with number 0. The argument: what RampRows, JunctionRows and PassRange assume of the map, checks 1 and 7 of the table of refusals found. Assumes nothing.
use Rattle.std.specs.Prelude.{◌≡◌}
use Rattle.definitions.specs.Rows.{rows_of}
use Rattle.definitions.specs.Verdict.{Lent, map_in, verdict}
use Rattle.laws.specs.RustPasses.RampRows.{replace_ramp_mouths_lem, collapse_ramp_interiors_lem}
use Rattle.laws.proofs.RustPasses.RampRows.{mouth-rows, interior-rows}
use Rattle.laws.specs.RustPasses.JunctionRows.{remove_junction_boundaries_lem}
use Rattle.laws.proofs.RustPasses.JunctionRows.{junction-rows}
use Rattle.laws.specs.RustPasses.Accepted.{accepted-narrow, accepted-finite, accepted-checked}

-- ---- the passes

module _ (L : Lent) (success : (verdict L).number ≡ 0) where
  pub accepted-mouths : replace_ramp_mouths_lem (map_in L) ≡ rows_of 1 (map_in L)
  accepted-mouths = mouth-rows (map_in L) (accepted-narrow L success) (accepted-finite L success) (accepted-checked L success)

  pub accepted-interiors : collapse_ramp_interiors_lem (map_in L) ≡ rows_of 2 (map_in L)
  accepted-interiors = interior-rows (map_in L) (accepted-narrow L success) (accepted-finite L success) (accepted-checked L success)

  pub accepted-junctions : remove_junction_boundaries_lem (map_in L) ≡ rows_of 3 (map_in L)
  accepted-junctions = junction-rows (map_in L) (accepted-finite L success)
