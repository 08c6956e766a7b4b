-- The steps that a span cuts: `candidate_positions`, `SpanGeometry::cuts` and what they call, of areas.rs, over unbounded whole numbers.
-- (Within the limits every number of the Rust is below 2 ^ 28, so that its i64 never wraps.) Assumes nothing.
use Rattle.std.specs.Prelude.{ℕ, suc, ◌+◌, ◌-◌, ◌*◌, ◌/◌, min, max, Bool, false, not, ◌&&◌, ◌||◌, cond, List, map, eqb, leb, ℤ, pos, negsuc, ◌+ℤ◌, ◌-ℤ◌, ◌*ℤ◌}
use Rattle.std.specs.Bool.{beq}
use Rattle.std.specs.Int.Signed.{lt_z, non_neg, shr_z}
use Rattle.definitions.specs.Scan.{filter, concat_map, run}
use Rattle.definitions.specs.Grid.{Map, Position, at, Segment, canonical, Pair, edge, onward, span_of}

abbrev pub pixels_per_walk_cell : ℕ
pixels_per_walk_cell = 8

abbrev pub candidate_margin_pixels : ℕ
candidate_margin_pixels = 16

abbrev pub candidate_minor_radius_cells : ℕ
candidate_minor_radius_cells = 3

-- ---- a segment against a step

abbrev pub diff : ℕ → ℕ → ℤ
diff m n = pos m -ℤ pos n

-- `cross` of areas.rs; `orientation` of ramp_boundaries.rs is the same number
unfoldable pub cross : Position → Position → Position → ℤ
cross a b p = diff b.x a.x *ℤ diff p.y a.y -ℤ diff b.y a.y *ℤ diff p.x a.x

abbrev pub is_zero : ℤ → Bool
is_zero (pos n) = eqb n 0
is_zero (negsuc n) = false

abbrev pub strictly_opposite : ℤ → ℤ → Bool
strictly_opposite l r = (lt_z l (pos 0) && lt_z (pos 0) r) || (lt_z (pos 0) l && lt_z r (pos 0))

-- `on_segment`, of a point on the segment's line
unfoldable pub on_segment : Position → Position → Position → Bool
on_segment a b p = leb (min a.x b.x) p.x && leb p.x (max a.x b.x) && leb (min a.y b.y) p.y && leb p.y (max a.y b.y)

unfoldable pub segments_intersect : Position → Position → Position → Position → Bool
unfolding cross on_segment
segments_intersect a b c d =
    (strictly_opposite (cross a b c) (cross a b d) && strictly_opposite (cross c d a) (cross c d b)) || (is_zero (cross a b c) && on_segment a b c)
    || (is_zero (cross a b d) && on_segment a b d) || (is_zero (cross c d a) && on_segment c d a) || (is_zero (cross c d b) && on_segment c d b)

-- pixel x * 8 + 4, y * 8 + 4
abbrev pub middle_of : ℕ → ℕ
middle_of k = k * pixels_per_walk_cell + pixels_per_walk_cell / 2

abbrev pub cell_center : Position → Position
cell_center p = at (middle_of p.x) (middle_of p.y)

-- Of a canonical segment: the two centres lie on different sides, a side value of zero counting with the positive side, and the segments meet.
unfoldable pub cuts : Segment → Position → Position → Bool
unfolding cross segments_intersect
cuts s p q =
    not (beq (non_neg (cross s.a s.b (cell_center p))) (non_neg (cross s.a s.b (cell_center q))))
    && segments_intersect s.a s.b (cell_center p) (cell_center q)

-- ---- the cells near a segment, in the Rust's order

-- from first to last; none where last is before first
unfoldable pub range_inclusive : ℕ → ℕ → List ℕ
unfolding run
range_inclusive first last = run first (suc last - first)

-- A difference of naturals is 0 where it would be negative: the Rust's `.max(0)`.
unfoldable pub candidate_axis_range : ℕ → ℕ → ℕ → List ℕ
unfolding range_inclusive
candidate_axis_range minimum maximum limit =
    range_inclusive ((minimum - candidate_margin_pixels) / pixels_per_walk_cell) (min ((maximum + candidate_margin_pixels) / pixels_per_walk_cell) (limit - 1))

unfoldable pub candidate_minor_range : ℕ → ℕ → List ℕ
unfolding range_inclusive
candidate_minor_range reference limit =
    range_inclusive (reference / pixels_per_walk_cell - candidate_minor_radius_cells) (min (reference / pixels_per_walk_cell + candidate_minor_radius_cells) (limit - 1))

abbrev pub nat_of : ℤ → ℕ
nat_of (pos n) = n
nat_of (negsuc n) = 0

abbrev pub distance_between : ℕ → ℕ → ℕ
distance_between m n = (m - n) + (n - m)

-- Where the segment from (p, u) to (q, v), p < q, is at first coordinate t: (u * (q - p) + (v - u) * (t - p)) / (q - p), with t clamped to the segment,
-- rounded down (`shr_z`, the Rust's div_euclid by a positive number). The value lies between u and v, so it is not negative and `nat_of` cuts nothing off. Equal endpoints are refused (number 6).
abbrev pub line_at : ℕ → ℕ → ℕ → ℕ → ℕ → ℕ
line_at p u q v t = nat_of (shr_z (pos (u * (q - p)) +ℤ diff v u *ℤ diff (max p (min t q)) p) (q - p))

-- `candidate_positions` of a canonical segment
unfoldable pub candidate_positions : ℕ → ℕ → Segment → List Position
unfolding concat_map candidate_minor_range candidate_axis_range
candidate_positions w h s =
    let a = s.a in
    let b = s.b in
    cond (leb (distance_between a.y b.y) (distance_between a.x b.x))
    (concat_map (λ x. map (λ y. at x y) (candidate_minor_range (line_at a.x a.y b.x b.y (middle_of x)) h)) (candidate_axis_range (min a.x b.x) (max a.x b.x) w))
    (let lower = cond (leb a.y b.y) a b in
    let upper = cond (leb a.y b.y) b a in
    concat_map (λ y. map (λ x. at x y) (candidate_minor_range (line_at lower.y lower.x upper.y upper.x (middle_of y)) w)) (candidate_axis_range (min a.y b.y) (max a.y b.y) h))

-- The steps that span s cuts: the cell of smaller number is among the candidate positions, and `cuts` holds.
unfoldable pub cut_steps : Map → ℕ → List Pair
unfolding canonical span_of concat_map filter cuts onward candidate_positions
cut_steps M s =
    let g = canonical (span_of M s) in
    concat_map (λ p. map (edge M p) (filter (cuts g p) (onward M p))) (candidate_positions M.width M.height g)
