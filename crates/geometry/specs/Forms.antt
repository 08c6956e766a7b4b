-- What the crate's structs stand for. Assumes nothing.
use Rattle.definitions.specs.Grid as grid
use Rattle.definitions.specs.Geometry as geometry
use Rattle.span_geometry.specs.declared.PixelPosition.{PixelPosition}
use Rattle.span_geometry.specs.Shapes.{point_of}
use Rattle.geometry.specs.declared.Point.{Point}
pub use Rattle.span_geometry.specs.Shapes.{segment_form}

abbrev pub point_form : Point → geometry.Point
point_form p = record { px = p.x; py = p.y }

abbrev pub segment_from : PixelPosition → PixelPosition → grid.Segment
segment_from a b = record { a = point_of a; b = point_of b }
