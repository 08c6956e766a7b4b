-- The literals of the code, which the machine reads from their bits, as the definitions write them. Assumes nothing.
use mathlib.Core.Path.{◌≡◌, refl}
use lib.Ieee.{binary64, of_bits}
use Rattle.definitions.specs.Geometry.{float}
use Rattle.definitions.specs.RampGeometry.{max_representative_offset, max_overlay_normal_offset, min_overlay_fraction, min_parallel_cosine}

pub zero_is : of_bits binary64 0x0000000000000000 ≡ float 0
unfolding of_bits float
zero_is = refl

pub one_is : of_bits binary64 0x3FF0000000000000 ≡ float 1
unfolding of_bits float
one_is = refl

pub two_is : of_bits binary64 0x4000000000000000 ≡ float 2
unfolding of_bits float
two_is = refl

-- 32.0
pub max_representative_offset_is : of_bits binary64 0x4040000000000000 ≡ max_representative_offset
unfolding of_bits max_representative_offset
max_representative_offset_is = refl

-- 64.0
pub max_overlay_normal_offset_is : of_bits binary64 0x4050000000000000 ≡ max_overlay_normal_offset
unfolding of_bits max_overlay_normal_offset
max_overlay_normal_offset_is = refl

-- 0.75
pub min_overlay_fraction_is : of_bits binary64 0x3FE8000000000000 ≡ min_overlay_fraction
unfolding of_bits min_overlay_fraction
min_overlay_fraction_is = refl

-- cos(PI / 12)
pub min_parallel_cosine_is : of_bits binary64 4606875505927962389 ≡ min_parallel_cosine
unfolding min_parallel_cosine
min_parallel_cosine_is = refl
