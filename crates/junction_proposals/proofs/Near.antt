-- Distances between centers of boundaries: they are in the hypotenuse's range where endpoints lie on a map. Assumes nothing.
use mathlib.Core.Path.{◌≡◌, sym, ap₂, ◌∙◌, subst}
use mathlib.Core.Bool.{Bool}
use lib.Ieee.{Float}
use Rattle.definitions.specs.Grid.{Segment}
use Rattle.definitions.specs.Geometry.{Point, center}
use Rattle.definitions.specs.Junctions.{within_distance}
use Rattle.laws.specs.FloatLaws.DistanceRange.{DistanceInRange}
use Rattle.laws.specs.FloatLaws.Pixels.{PixelSegment}
use Rattle.laws.specs.FloatLaws.PassRange.{centers_in_range}

-- r is what `within_distance` returned of a and b
pub centers_within : (limit : Float) {a b : Point} {s t : Segment} {r : Bool} → PixelSegment s → PixelSegment t → a ≡ center s → b ≡ center t → (DistanceInRange a b → r ≡ within_distance a b limit) → r ≡ within_distance (center s) (center t) limit
centers_within limit {a} {b} {s} {t} hs ht e d h =
    h (subst (λ (x : Point). DistanceInRange x b) (sym e) (subst (λ (y : Point). DistanceInRange (center s) y) (sym d) (centers_in_range hs ht)))
    ∙ ap₂ (λ x y. within_distance x y limit) e d
