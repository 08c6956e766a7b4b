-- The literal of `MAX_APPROACH_RADIUS` is the limit of the definitions, and the code's test of two points by it is the definitions'. Assumes nothing.
use mathlib.Core.Path.{◌≡◌, refl, ap}
use mathlib.Core.Bool.{Bool}
use lib.Ieee.{binary64, le, of_bits, of_int}
use Rattle.definitions.specs.Geometry.{float, Point, distance}
use Rattle.definitions.specs.RampMouths.{max_approach_radius}
use Rattle.definitions.specs.Junctions.{within_distance}

radius_is : of_bits binary64 0x4080000000000000 ≡ max_approach_radius
unfolding max_approach_radius float of_int of_bits
radius_is = refl

-- the code's test of two points
abbrev pub within : Point → Point → Bool
within p q = within_distance p q (of_bits binary64 0x4080000000000000)

pub within_is : (p q : Point) → within p q ≡ le (distance p q) max_approach_radius
unfolding within_distance
within_is p q = ap (le (distance p q)) radius_is
