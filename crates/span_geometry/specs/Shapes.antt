-- What the crate's structs stand for, and what its functions ask of them. Assumes nothing.
use Rattle.std.specs.Prelude.{ℕ, ◌*◌, ◌≤◌, min, max, ◌≡◌}
use Rattle.definitions.specs.Limits.{max_side}
use Rattle.definitions.specs.Grid.{Position, at, Segment, canonical}
use Rattle.definitions.specs.Spans.{pixels_per_walk_cell}
use Rattle.span_geometry.specs.declared.PixelPosition.{PixelPosition}
use Rattle.span_geometry.specs.declared.Segment as ends
use Rattle.span_geometry.specs.declared.SpanGeometry.{SpanGeometry}

abbrev pub point_of : PixelPosition → Position
point_of p = at p.x p.y

abbrev pub segment_form : ends.Segment → Segment
segment_form s = record { a = point_of s.a; b = point_of s.b }

abbrev pub segment_of : SpanGeometry → Segment
segment_of g = segment_form g.ends

-- the greatest coordinate of a span's endpoint on the largest map
abbrev pub max_pixel : ℕ
max_pixel = pixels_per_walk_cell * max_side

pub record InLimits (p : PixelPosition) : Type 0 where
  pub x_in : p.x ≤ max_pixel
  pub y_in : p.y ≤ max_pixel

-- what `new` makes
pub record Sound (g : SpanGeometry) : Type 0 where
  pub a_in : InLimits g.ends.a
  pub b_in : InLimits g.ends.b
  pub ordered : g.ends.a.x ≤ g.ends.b.x
  pub min-x : g.min_x ≡ min g.ends.a.x g.ends.b.x
  pub max-x : g.max_x ≡ max g.ends.a.x g.ends.b.x
  pub min-y : g.min_y ≡ min g.ends.a.y g.ends.b.y
  pub max-y : g.max_y ≡ max g.ends.a.y g.ends.b.y

pub record Made (s : Segment) (g : SpanGeometry) : Type 0 where
  pub segment : segment_of g ≡ canonical s
  pub sound : Sound g
