-- No pass leaves the range of the hypotenuse (SPECIFICATION 6), so that number 13 cannot come from one: `pass-in_range` says it of every map that
-- passes checks 1 and 7, for each place at which a definition of a pass asks how far two points are apart or how long a segment is. The coordinates there are
-- pixels and half pixels up to 8,192 (MapPixels), for which DistanceRange has it. Assumes nothing.
use Rattle.std.specs.Prelude.{ℕ}
use Rattle.definitions.specs.Grid.{Position, Segment, Map, canonical}
use Rattle.definitions.specs.Geometry.{Point, point, center}
use Rattle.definitions.specs.RampGeometry.{difference}
use Rattle.definitions.specs.RegionRecord.{corners}
use Rattle.definitions.specs.Context.{Context, context_of}
use Rattle.laws.specs.ListLaws.Lists.{All, all_map}
use Rattle.laws.specs.FloatLaws.InRange.{BothInRange}
use Rattle.laws.specs.FloatLaws.Pixels.{PixelPoint, PixelPosition, PixelSegment, PixelContext, pixel-half, point-pixel, center-half, canonical-pixel, corners-pixel}
use Rattle.laws.specs.FloatLaws.MapPixels.{OnMap, map-pixel}
use Rattle.laws.specs.FloatLaws.DistanceRange.{DistanceInRange, distance-in_range, differences_in_range, nearest_point, point-segment-in_range}

-- ---- between what a pass measures

-- `distance (point p) (point q)`
pub positions_in_range : {p q : Position} → PixelPosition p → PixelPosition q → DistanceInRange (point p) (point q)
positions_in_range {p} {q} hp hq = distance-in_range (point p) (point q) (pixel-half (point-pixel hp)) (pixel-half (point-pixel hq))

-- `distance (center s) (center t)`
pub centers_in_range : {s t : Segment} → PixelSegment s → PixelSegment t → DistanceInRange (center s) (center t)
centers_in_range {s} {t} hs ht = distance-in_range (center s) (center t) (center-half hs) (center-half ht)

-- the length of a segment
abbrev pub LengthInRange : Segment → Type 0
LengthInRange s = BothInRange (difference s.b.x s.a.x) (difference s.b.y s.a.y)

pub length-in_range : {s : Segment} → PixelSegment s → LengthInRange s
length-in_range {s} h = differences_in_range s.b.x s.a.x s.b.y s.a.y h.second.x-le h.first.x-le h.second.y-le h.first.y-le

-- `point_segment_distance p (point t.a) (point t.b)`
abbrev pub SegmentInRange : Point → Segment → Type 0
SegmentInRange p t = DistanceInRange p (nearest_point p (point t.a) (point t.b))

pub segment-in_range : {p : Point} {t : Segment} → PixelPoint p → PixelSegment t → SegmentInRange p t
segment-in_range {p} {t} hp ht = point-segment-in_range p (point t.a) (point t.b) hp (point-pixel ht.first) (point-pixel ht.second)

-- the four distances of which `segment_distance s t` takes the least
pub record SeparationInRange (s t : Segment) : Type 0 where
  pub first : SegmentInRange (point s.a) t
  pub second : SegmentInRange (point s.b) t
  pub third : SegmentInRange (point t.a) s
  pub fourth : SegmentInRange (point t.b) s

pub separation-in_range : {s t : Segment} → PixelSegment s → PixelSegment t → SeparationInRange s t
separation-in_range hs ht =
    record {
      first = segment-in_range (point-pixel hs.first) ht;
      second = segment-in_range (point-pixel hs.second) ht;
      third = segment-in_range (point-pixel ht.first) hs;
      fourth = segment-in_range (point-pixel ht.second) hs;
    }

-- what `is_nearby_parallel_representative` and `overlapping_ramp_representative` ask of canonical segments s and t
pub record RepresentativeInRange (s t : Segment) : Type 0 where
  pub left_length : LengthInRange s
  pub right_length : LengthInRange t
  pub first_ends : DistanceInRange (point s.a) (point t.a)
  pub second_ends : DistanceInRange (point s.b) (point t.b)

pub representative_in_range : {s t : Segment} → PixelSegment s → PixelSegment t → RepresentativeInRange s t
representative_in_range hs ht =
    record {
      left_length = length-in_range hs;
      right_length = length-in_range ht;
      first_ends = positions_in_range hs.first ht.first;
      second_ends = positions_in_range hs.second ht.second;
    }

-- ---- all that a pass asks, of a context

pub record PassInRange (C : Context) : Type 0 where
  -- `segment_distance`, in `separation_of`
  pub separations : (m a : ℕ) → SeparationInRange (C.boundary m).endpoints (C.boundary a).endpoints
  -- `nearby_representative` and `overlay_representative`
  pub representatives : (m a : ℕ) → RepresentativeInRange (canonical (C.boundary m).endpoints) (canonical (C.boundary a).endpoints)
  -- `is_near_port`
  pub ports : (i j : ℕ) → DistanceInRange (center (C.boundary i).endpoints) (center (C.boundary j).endpoints)
  -- `corners_near_lem`, `region_fits` and `within_radius`
  pub corners_to_center : (r i : ℕ) → All (λ c. DistanceInRange c (center (C.boundary i).endpoints)) (corners (C.region r))
  -- `within_span_radius`
  pub corners_to_span : (r i : ℕ) → All (λ c. SegmentInRange c (C.boundary i).endpoints) (corners (C.region r))

pub context-in_range : {C : Context} → PixelContext C → PassInRange C
context-in_range {C} h =
    record {
      separations = λ m a. separation-in_range (h.ends m) (h.ends a);
      representatives = λ m a. representative_in_range (canonical-pixel (h.ends m)) (canonical-pixel (h.ends a));
      ports = λ i j. centers_in_range (h.ends i) (h.ends j);
      corners_to_center = λ r i.
          all_map (λ c k. distance-in_range c (center (C.boundary i).endpoints) (pixel-half k) (center-half (h.ends i))) (corners-pixel (h.edges r));
      corners_to_span = λ r i. all_map (λ c k. segment-in_range k (h.ends i)) (corners-pixel (h.edges r));
    }

pub pass-in_range : {M : Map} → OnMap M → PassInRange (context_of M)
pass-in_range h = context-in_range (map-pixel h)
