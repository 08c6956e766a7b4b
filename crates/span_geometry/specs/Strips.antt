-- What `CandidateRange` and `Strip` stand for, and what the functions over them ask. Assumes nothing.
use Rattle.std.specs.Prelude.{ℕ, ◌≤◌, ◌<◌, ◌≡◌, Bool, true, false, cond, List, leb}
use Rattle.definitions.specs.Grid.{Position, Segment}
use Rattle.definitions.specs.Spans.{range_inclusive, line_at, middle_of, distance_between}
use Rattle.span_geometry.specs.declared.strips.CandidateRange.{CandidateRange}
use Rattle.span_geometry.specs.declared.strips.Strip.{Strip}
use Rattle.span_geometry.specs.Shapes.{max_pixel}

-- the range's numbers are those of the list, and are below the limit
pub record Walks (r : CandidateRange) (l : List ℕ) (limit : ℕ) : Type 0 where
  pub numbers : range_inclusive r.first r.last ≡ l
  pub inside : r.last < limit

-- x is the major axis
abbrev pub by_columns : Segment → Bool
by_columns s = leb (distance_between s.a.y s.b.y) (distance_between s.a.x s.b.x)

abbrev pub lower_of : Segment → Position
lower_of s = cond (leb s.a.y s.b.y) s.a s.b

abbrev pub upper_of : Segment → Position
upper_of s = cond (leb s.a.y s.b.y) s.b s.a

abbrev pub strip_by_columns : Segment → Strip
strip_by_columns s = record { columns = true; major0 = s.a.x; minor0 = s.a.y; major1 = s.b.x; minor1 = s.b.y }

abbrev pub strip_by_rows : Segment → Strip
strip_by_rows s = record { columns = false; major0 = (lower_of s).y; minor0 = (lower_of s).x; major1 = (upper_of s).y; minor1 = (upper_of s).x }

-- the endpoints of a canonical segment, the coordinate along the major axis first, in the order of that coordinate
abbrev pub strip_of : Segment → Strip
strip_of s = cond (by_columns s) (strip_by_columns s) (strip_by_rows s)

abbrev pub line_of : Strip → ℕ → ℕ
line_of t k = line_at t.major0 t.minor0 t.major1 t.minor1 (middle_of k)

-- what `Strip::new` makes of a span whose endpoints differ
pub record Usable (t : Strip) : Type 0 where
  pub forward : t.major0 < t.major1
  pub major_in : t.major1 ≤ max_pixel
  pub minor0_in : t.minor0 ≤ max_pixel
  pub minor1_in : t.minor1 ≤ max_pixel
