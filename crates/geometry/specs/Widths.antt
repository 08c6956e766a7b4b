-- A boundary of a lent list whose width is read as a double: what that asks for, and when one is twice another. Definitions only; assumes nothing.
use Rattle.std.specs.Prelude.{ℕ, ◌+◌, ◌*◌, ◌^◌, ◌<◌, Bool, List, length, get_or}
use Rattle.std.specs.Float.{Float, binary64}
use Rattle.std.specs.Float.Ieee.{le, mul, of_bits}
use Rattle.definitions.specs.Limits.{numbers_per_boundary}
use Rattle.definitions.specs.Geometry.{float}

-- boundary i stands in the list; its width is finite, and the sign bit clear
pub record HasWidth (boundaries : List ℕ) (i : ℕ) : Type 0 where
  pub whole : numbers_per_boundary * i + 8 < length boundaries
  pub finite : get_or boundaries (numbers_per_boundary * i + 4) 0 < 2047 * 2 ^ 52

abbrev pub width_of : List ℕ → ℕ → Float
width_of boundaries i = of_bits binary64 (get_or boundaries (numbers_per_boundary * i + 4) 0)

-- i is twice as wide as k, or wider
unfoldable pub is_twice_as_wide : List ℕ → ℕ → ℕ → Bool
unfolding le mul float
is_twice_as_wide boundaries i k = le (mul binary64 (float 2) (width_of boundaries k)) (width_of boundaries i)
