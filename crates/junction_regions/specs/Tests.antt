-- What pass 3 asks of records: `union_regions` of Junctions.antt and `bridge_region` of Rows.antt, with records, endpoints and anchors in place of the context.
-- Definitions only; assumes nothing.
use Rattle.std.specs.Prelude.{ℕ, Option, Bool, not, ◌&&◌, ◌||◌, cond}
use Rattle.std.specs.Float.Ieee.{le}
use Rattle.definitions.specs.Scan.{only_if}
use Rattle.definitions.specs.Grid.{Segment}
use Rattle.definitions.specs.Geometry.{Point, center, point_segment_distance}
use Rattle.definitions.specs.RegionRecord.{Region, has_ramp, dominance, accepts, same_dominance, strictly_flat}
use Rattle.definitions.specs.Junctions.{within_distance, within_radius, within_span_radius, max_union_radius_pixels}

-- ---- of a corner

unfoldable pub near_middle : Point → Point → Bool
unfolding within_distance max_union_radius_pixels
near_middle middle corner = within_distance corner middle max_union_radius_pixels

unfoldable pub near_span : Point → Point → Point → Bool
unfolding le point_segment_distance max_union_radius_pixels
near_span a b corner = le (point_segment_distance corner a b) max_union_radius_pixels

-- ---- of a region

-- the elevation of most cells, if its share is accepted
unfoldable pub accepted_of : Region → Option ℕ
unfolding dominance
accepted_of s = only_if (accepts (dominance s).share) (dominance s).elevation

-- ---- of regions; `one` says that exactly one of two is anchored

unfoldable pub is_local : Region → Region → Segment → Bool → Bool
unfolding within_span_radius within_radius center
is_local s t ends one = cond one (within_span_radius s ends && within_span_radius t ends) (within_radius s (center ends) && within_radius t (center ends))

unfoldable pub union_of : Region → Region → Segment → Bool → Bool
unfolding is_local strictly_flat same_dominance
union_of s t ends one =
    not (has_ramp s) && not (has_ramp t) && is_local s t ends one && (strictly_flat s t || one && same_dominance s t)

unfoldable pub bridge_of : Region → Segment → Bool
unfolding within_radius center strictly_flat
bridge_of s ends = not (has_ramp s) && (within_radius s (center ends) && strictly_flat s s)
