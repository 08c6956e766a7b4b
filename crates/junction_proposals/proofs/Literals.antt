-- The float literals of the code are the limits of the definitions. Assumes nothing.
use mathlib.Core.Path.{◌≡◌, refl}
use lib.Ieee.{binary64, of_bits, of_int}
use Rattle.definitions.specs.Geometry.{float}
use Rattle.definitions.specs.Junctions.{max_port_distance_pixels}

pub port-limit_is : of_bits binary64 0x4078000000000000 ≡ max_port_distance_pixels
unfolding max_port_distance_pixels float of_int of_bits
port-limit_is = refl
