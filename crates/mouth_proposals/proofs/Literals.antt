-- The float literals of the code are the limits of the definitions. Assumes nothing.
use mathlib.Core.Path.{◌≡◌, refl}
use lib.Ieee.{binary64, of_bits, of_int, div}
use Rattle.definitions.specs.Geometry.{float}
use Rattle.definitions.specs.RampMouths.{max_mouth_distance, max_overlay_width_ratio}

pub ratio_is : of_bits binary64 0x3FF8000000000000 ≡ max_overlay_width_ratio
unfolding max_overlay_width_ratio float of_int of_bits div
ratio_is = refl

pub mouth-distance_is : of_bits binary64 0x406C000000000000 ≡ max_mouth_distance
unfolding max_mouth_distance float of_int of_bits
mouth-distance_is = refl
