-- Endpoints within the limits, as the two predicates on them say it, and that they stay so when made canonical. Assumes nothing.
use mathlib.Core.Path.{◌≡◌, subst⁻¹}
use Rattle.definitions.specs.Grid.{Segment, canonical}
use Rattle.laws.specs.FloatLaws.Pixels as pixels
use Rattle.span_geometry.specs.declared.PixelPosition.{PixelPosition}
use Rattle.span_geometry.specs.Shapes.{InLimits, point_of}

pub pixel : {p : PixelPosition} → InLimits p → pixels.PixelPosition (point_of p)
pixel h = record { x-le = h.x_in; y-le = h.y_in }

pub limits : {p : PixelPosition} → pixels.PixelPosition (point_of p) → InLimits p
limits h = record { x_in = h.x-le; y_in = h.y-le }

pub made-canonical : {s t : Segment} → t ≡ canonical s → pixels.PixelSegment s → pixels.PixelSegment t
made-canonical e h = subst⁻¹ pixels.PixelSegment e (pixels.canonical-pixel h)
