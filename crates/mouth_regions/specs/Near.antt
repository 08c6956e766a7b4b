-- What `corners_near_lem` of RampMouths.antt asks of one inner region. Definitions only; assumes nothing.
use Rattle.std.specs.Prelude.{ℕ, Bool, ◌&&◌, ◌||◌}
use Rattle.std.specs.Float.Ieee.{le}
use Rattle.definitions.specs.Scan.{all}
use Rattle.definitions.specs.Geometry.{Point, center, distance}
use Rattle.definitions.specs.RegionRecord.{Region, corners}
use Rattle.definitions.specs.Context.{Context}
use Rattle.definitions.specs.RampMouths.{max_approach_radius}

-- c is within the radius of the ramp's centre or, for a broad two-port approach, of the mouth's
unfoldable pub corner_near : Point → Point → Bool → Point → Bool
unfolding le distance max_approach_radius
corner_near ramp mouth broad c = le (distance c ramp) max_approach_radius || broad && le (distance c mouth) max_approach_radius

unfoldable pub region_near : Context → ℕ → ℕ → Bool → Region → Bool
unfolding all corner_near center corners
region_near C m a broad R = all (corner_near (center (C.boundary a).endpoints) (center (C.boundary m).endpoints) broad) (corners R)
