-- The geometry of ramp_boundaries.rs: how far two boundaries are apart, and when one represents the other. Every float operation is IEEE 754's,
-- rounded once, in the order in which the Rust writes it. Assumes nothing.
use Rattle.std.specs.Prelude.{ℕ, zero, suc, Bool, false, not, ◌&&◌, ◌||◌, cond, eqb, ℤ, pos, negsuc, Float}
use Rattle.std.specs.Float.{nan, inf, fin, binary64}
use Rattle.std.specs.Float.Ieee.{add, sub, mul, div, lt, le, eq, of_bits}
use Rattle.definitions.specs.Grid.{Position, Segment, canonical}
use Rattle.definitions.specs.Spans.{cross, on_segment, is_zero}
use Rattle.definitions.specs.Hypotenuse.{hypot_of}
use Rattle.definitions.specs.Geometry.{float, point, distance, point_segment_distance}

-- ---- constants of ramp_boundaries.rs

unfoldable pub max_representative_offset : Float
unfolding float
max_representative_offset = float 32

unfoldable pub max_overlay_normal_offset : Float
unfolding float
max_overlay_normal_offset = float 64

-- 0.75
unfoldable pub min_overlay_fraction : Float
unfolding div float
min_overlay_fraction = div binary64 (float 3) (float 4)

-- cos (pi / 12), the bits of the Rust's literal 0.965_925_826_289_068_3
unfoldable pub min_parallel_cosine : Float
unfolding of_bits
min_parallel_cosine = of_bits binary64 4606875505927962389

-- ---- `abs`, `min` and `max`, of numbers. (Where a NaN could stand, in `overlapping_ramp_representative` with a length of 0, the result is false already.)

unfoldable pub fabs : Float → Float
fabs nan = nan
fabs (inf s) = inf false
fabs (fin s m e) = fin false m e

unfoldable pub fmin : Float → Float → Float
unfolding lt
fmin a b = cond (lt b a) b a

unfoldable pub fmax : Float → Float → Float
unfolding lt
fmax a b = cond (lt a b) b a

-- ---- `intersects`, over unbounded whole numbers in place of i128

-- `signum`, moved by 1
abbrev pub signum : ℤ → ℕ
signum (pos zero) = 1
signum (pos (suc n)) = 2
signum (negsuc n) = 0

unfoldable pub intersects : Segment → Segment → Bool
unfolding cross on_segment
intersects s t =
    let leftRightStart = cross s.a s.b t.a in
    let leftRightEnd = cross s.a s.b t.b in
    let rightLeftStart = cross t.a t.b s.a in
    let rightLeftEnd = cross t.a t.b s.b in
    is_zero leftRightStart && on_segment s.a s.b t.a || is_zero leftRightEnd && on_segment s.a s.b t.b
    || is_zero rightLeftStart && on_segment t.a t.b s.a || is_zero rightLeftEnd && on_segment t.a t.b s.b
    || not (eqb (signum leftRightStart) (signum leftRightEnd)) && not (eqb (signum rightLeftStart) (signum rightLeftEnd))

-- the separation of two boundaries, from their endpoints as written
unfoldable pub segment_distance : Segment → Segment → Float
unfolding intersects float fmin point_segment_distance point
segment_distance s t =
    cond (intersects s t) (float 0)
    (fmin
    (fmin
    (fmin (point_segment_distance (point s.a) (point t.a) (point t.b)) (point_segment_distance (point s.b) (point t.a) (point t.b)))
    (point_segment_distance (point t.a) (point s.a) (point s.b)))
    (point_segment_distance (point t.b) (point s.a) (point s.b)))

-- ---- representatives, from canonical endpoints

unfoldable pub difference : ℕ → ℕ → Float
unfolding sub float
difference m n = sub binary64 (float m) (float n)

unfoldable pub is_nearby_parallel_representative : Segment → Segment → Bool
unfolding canonical difference mul hypot_of lt float distance point le min_parallel_cosine max_representative_offset div fabs add
is_nearby_parallel_representative left right =
    let s = canonical left in
    let t = canonical right in
    let leftX = difference s.b.x s.a.x in
    let leftY = difference s.b.y s.a.y in
    let rightX = difference t.b.x t.a.x in
    let rightY = difference t.b.y t.a.y in
    let lengths = mul binary64 (hypot_of leftX leftY) (hypot_of rightX rightY) in
    not (lt max_representative_offset (distance (point s.a) (point t.a))) && not (lt max_representative_offset (distance (point s.b) (point t.b)))
    && lt (float 0) lengths && le min_parallel_cosine (div binary64 (fabs (add binary64 (mul binary64 leftX rightX) (mul binary64 leftY rightY))) lengths)

-- `overlapping_ramp_representative(..).is_some()`
unfoldable pub overlapping_ramp_representative : Segment → Segment → Bool
unfolding canonical difference hypot_of div fabs sub mul add fmin fmax float eq lt min_parallel_cosine max_overlay_normal_offset min_overlay_fraction le
overlapping_ramp_representative candidate ramp =
    let s = canonical candidate in
    let t = canonical ramp in
    let dx = difference t.b.x t.a.x in
    let dy = difference t.b.y t.a.y in
    let rampLength = hypot_of dx dy in
    let candidateDx = difference s.b.x s.a.x in
    let candidateDy = difference s.b.y s.a.y in
    let candidateLength = hypot_of candidateDx candidateDy in
    let normal_offset : Position → Float =
    λ p. div binary64 (fabs (sub binary64 (mul binary64 (difference p.x t.a.x) dy) (mul binary64 (difference p.y t.a.y) dx))) rampLength in
    let project : Position → Float =
    λ p. div binary64 (add binary64 (mul binary64 (difference p.x t.a.x) dx) (mul binary64 (difference p.y t.a.y) dy)) rampLength in
    let candidateMin = fmin (project s.a) (project s.b) in
    let candidateMax = fmax (project s.a) (project s.b) in
    let overlap = fmax (sub binary64 (fmin rampLength candidateMax) (fmax (float 0) candidateMin)) (float 0) in
    not (eq rampLength (float 0)) && not (eq candidateLength (float 0))
    && not (lt (div binary64 (fabs (add binary64 (mul binary64 dx candidateDx) (mul binary64 dy candidateDy))) (mul binary64 rampLength candidateLength)) min_parallel_cosine)
    && not (lt max_overlay_normal_offset (fmax (normal_offset s.a) (normal_offset s.b)))
    && le (mul binary64 min_overlay_fraction (fmin rampLength candidateLength)) overlap
