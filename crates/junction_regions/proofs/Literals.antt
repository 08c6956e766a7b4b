-- The float literal of the code is the limit of the definitions. Assumes nothing.
use mathlib.Core.Path.{◌≡◌, refl}
use lib.Ieee.{binary64, of_bits, of_int}
use Rattle.definitions.specs.Geometry.{float}
use Rattle.definitions.specs.Junctions.{max_union_radius_pixels}

pub radius_is : of_bits binary64 0x4080000000000000 ≡ max_union_radius_pixels
unfolding max_union_radius_pixels float of_int of_bits
radius_is = refl
