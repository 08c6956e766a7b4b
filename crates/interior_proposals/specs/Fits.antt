-- What is asked of two ports and of a region's record. Definitions only; assumes nothing.
use Rattle.std.specs.Prelude.{ℕ, ◌+◌, ◌*◌, ◌<◌, ◌≡◌, Bool, not, ◌||◌, List, length, eqb}
use Rattle.std.specs.Float.Ieee.{le}
use Rattle.definitions.specs.Limits.{tallies_per_span}
use Rattle.definitions.specs.Geometry.{Point, center, distance}
use Rattle.definitions.specs.RegionRecord.{has_bit}
use Rattle.definitions.specs.Context.{Context}
use Rattle.definitions.specs.RampMouths.{max_approach_radius}
use Rattle.geometry.specs.Forms.{point_form}
use Rattle.geometry.specs.Placed.{HasBoundary}
use Rattle.interior_proposals.specs.declared.fits.Reach.{Reach}

-- boundary i and its tallies stand in the lists
pub record Listed (boundaries tallies : List ℕ) (i : ℕ) : Type 0 where
  pub whole : HasBoundary boundaries i
  pub tallied : tallies_per_span * i + 1 < length tallies

-- a reach is that of the ports a and b
pub record Aimed (C : Context) (a b : ℕ) (t : Reach) : Type 0 where
  pub lower : t.lower ≡ (C.boundary a).lower
  pub upper : t.upper ≡ (C.boundary a).upper
  pub first : point_form t.first ≡ center (C.boundary a).endpoints
  pub second : point_form t.second ≡ center (C.boundary b).endpoints

-- elevation e is one of two where the mask has it
abbrev pub elevation_fits : ℕ → ℕ → ℕ → ℕ → Bool
elevation_fits mask lower upper e = not (has_bit mask e) || (eqb e lower || eqb e upper)

-- a point is near one of two
unfoldable pub is_within : Point → Point → Point → Bool
unfolding le distance max_approach_radius
is_within first second c = le (distance c first) max_approach_radius || le (distance c second) max_approach_radius
