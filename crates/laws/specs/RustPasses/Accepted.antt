-- The three passes as the Rust writes them return the definitions' rows, and no distance that a pass asks for is out of the hypotenuse's range, for every call that is answered
-- with number 0. The argument: what RampRows, JunctionRows and PassRange assume of the map, checks 1 and 7 of the table of refusals found. Assumes nothing.
use Rattle.std.specs.Prelude.{ℕ, ◌^◌, ◌≤◌, ◌≡◌, true, ◌&&◌, leb, ltb}
use Rattle.std.proofs.Common.{arith, leb-true}
use Rattle.definitions.specs.Grid.{Boundary, map_of}
use Rattle.definitions.specs.Context.{context_of}
use Rattle.definitions.specs.Refusals.{ramp_fits, boundary_fits}
use Rattle.definitions.specs.Verdict.{Lent, map_in, verdict}
use Rattle.laws.specs.ListLaws.Tests.{both}
use Rattle.laws.specs.ListLaws.Lists.{All, all_map}
use Rattle.laws.specs.TableLaws.AcceptedCalls.{accepted, boundaries-fit, fits-parts}
use Rattle.laws.specs.FloatLaws.MapPixels.{OnMap, lent-on_map, side-bounds}
use Rattle.laws.specs.FloatLaws.PassRange.{PassInRange, pass-in_range}
use Rattle.laws.specs.FloatLaws.WidthBits.{width-finite}
use Rattle.laws.specs.RustContext.SoundMaps.{FiniteWidth}
use Rattle.laws.specs.RustContext.CheckedMaps.{CheckedBoundary}

-- ---- what check 7 says of one boundary

fits-finite : (w h : ℕ) (b : Boundary) → boundary_fits w h b ≡ true → FiniteWidth b
fits-finite w h b k = width-finite b.width_bits (fits-parts w h b k).1

ramp-checked : (b : Boundary) → ramp_fits b ≡ true → CheckedBoundary b
ramp-checked b k =
    let uppers = both (leb b.kind 2 && ltb b.ramp_id (2 ^ 32) && leb b.lower 7) (leb b.upper 7) (both _ _ k).0 in
    let lowers = both (leb b.kind 2 && ltb b.ramp_id (2 ^ 32)) (leb b.lower 7) uppers.0 in
    let kinds = both (leb b.kind 2) (ltb b.ramp_id (2 ^ 32)) lowers.0 in
    record {
      kind = leb-true b.kind 2 kinds.0;
      lower = omega (arith, leb-true b.lower 7 lowers.1);
      upper = omega (arith, leb-true b.upper 7 uppers.1);
    }

fits-checked : (w h : ℕ) (b : Boundary) → boundary_fits w h b ≡ true → CheckedBoundary b
fits-checked w h b k = ramp-checked b (fits-parts w h b k).2

-- ---- of a call

module _ (L : Lent) (success : (verdict L).number ≡ 0) where
  pub accepted-on_map : OnMap (map_in L)
  unfolding map_in
  accepted-on_map = lent-on_map L.width L.height L.cells L.spans L.boundaries L.anchors (accepted L success).sides (accepted L success).boundaries

  pub accepted-narrow : (map_in L).width ≤ 1024
  accepted-narrow = (side-bounds (map_in L).width accepted-on_map.wide).1

  pub accepted-fits : All (λ b. boundary_fits L.width L.height b ≡ true) (map_in L).boundaries
  unfolding map_in map_of
  accepted-fits = boundaries-fit L.width L.height L.boundaries (accepted L success).boundaries

  pub accepted-finite : All FiniteWidth (map_in L).boundaries
  accepted-finite = all_map (fits-finite L.width L.height) accepted-fits

  pub accepted-checked : All CheckedBoundary (map_in L).boundaries
  accepted-checked = all_map (fits-checked L.width L.height) accepted-fits

  pub accepted-in_range : PassInRange (context_of (map_in L))
  accepted-in_range = pass-in_range accepted-on_map
