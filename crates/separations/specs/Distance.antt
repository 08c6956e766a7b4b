-- How far two segments are apart, exactly, and how far a double may be off (document 02, request 10). No real numbers here: a point of a segment is a mean of
-- its ends with whole weights, a squared distance is a fraction of whole numbers, and 'within 2 ^ -32' is a comparison of squares. Definitions only. Assumes
-- nothing.
use Rattle.std.specs.Prelude.{◌≡◌, ℕ, ◌+◌, ◌-◌, ◌*◌, ◌^◌, ◌≤◌, ◌<◌, Bool, false, cond, leb, eqb, ℤ, nat_abs, ◌+ℤ◌, ◌*ℤ◌, Float}
use Rattle.std.specs.Float.{fin}
use Rattle.definitions.specs.Grid.{Position, Segment}
use Rattle.definitions.specs.Spans.{diff, nat_of, distance_between, cross}
use Rattle.definitions.specs.Hypotenuse.{magnitude}
use Rattle.definitions.specs.RampGeometry.{intersects}

-- ---- a point of a segment

-- (first * a + second * b) / (first + second): every rational point between a and b, the ends included, and no other. Where a and b are one point, so is every
-- mean.
pub record Weights : Type 0 where
  pub first : ℕ
  pub second : ℕ
  pub some : 0 < first + second

abbrev pub total : Weights → ℕ
total u = u.first + u.second

-- its coordinates, times `total`
abbrev pub along_x : Segment → Weights → ℕ
along_x s u = u.first * s.a.x + u.second * s.b.x

abbrev pub along_y : Segment → Weights → ℕ
along_y s u = u.first * s.a.y + u.second * s.b.y

abbrev pub squares : ℕ → ℕ → ℕ
squares x y = x * x + y * y

-- ---- two points, one of each segment

-- their squared distance is `apart` / `whole` ^ 2
abbrev pub whole : Weights → Weights → ℕ
whole u v = total u * total v

abbrev pub apart : Segment → Weights → Segment → Weights → ℕ
apart s u t v =
    squares (distance_between (along_x s u * total v) (along_x t v * total u)) (distance_between (along_y s u * total v) (along_y t v * total u))

-- they are one point
abbrev pub Same : Segment → Weights → Segment → Weights → Type 0
Same s u t v = (along_x s u * total v ≡ along_x t v * total u) × (along_y s u * total v ≡ along_y t v * total u)

-- ---- the exact distance of two segments

-- "the segments share a point"
pub record SharePoint (s t : Segment) : Type 0 where
  pub on_first : Weights
  pub on_second : Weights
  pub same : Same s on_first t on_second

-- "the exact distance of the two segments, with the exact square written as a fraction of whole numbers": num / den is the square. Two points are that far
-- apart, and none are nearer.
pub record ExactSquare (s t : Segment) (num den : ℕ) : Type 0 where
  pub positive : 0 < den
  pub on_first : Weights
  pub on_second : Weights
  pub reached : apart s on_first t on_second * den ≡ num * (whole on_first on_second * whole on_first on_second)
  pub least : (u v : Weights) → num * (whole u v * whole u v) ≤ apart s u t v * den

-- ---- the same, computed

pub record Fraction : Type 0 where
  pub num : ℕ
  pub den : ℕ

abbrev pub fraction_le : Fraction → Fraction → Bool
fraction_le f g = leb (f.num * g.den) (g.num * f.den)

abbrev pub lesser : Fraction → Fraction → Fraction
lesser f g = cond (fraction_le f g) f g

-- the square of a segment's length
abbrev pub length_square : Segment → ℕ
length_square t = squares (distance_between t.b.x t.a.x) (distance_between t.b.y t.a.y)

-- the square of the distance of two positions
abbrev pub end_square : Position → Position → ℕ
end_square p q = squares (distance_between p.x q.x) (distance_between p.y q.y)

-- How far along t, in parts of `length_square`, the foot of the perpendicular from p lies: the product of the ways from t's first end to p and to its second
-- end, and 0 for a foot before the first end.
abbrev pub along : Position → Segment → ℕ
along p t = nat_of (diff p.x t.a.x *ℤ diff t.b.x t.a.x +ℤ diff p.y t.a.y *ℤ diff t.b.y t.a.y)

-- From p to t: to an end where the foot is not between the ends, and else along the perpendicular. On a map numerator and denominator are at most 2 ^ 54 and 2
-- ^ 27 (`small-square`).
unfoldable pub point_square : Position → Segment → Fraction
unfolding cross
point_square p t =
    let n = length_square t in
    let k = along p t in
    let c = nat_abs (cross t.a t.b p) in
    cond (eqb k 0) (record { num = end_square p t.a; den = 1 })
    (cond (leb n k) (record { num = end_square p t.b; den = 1 })
    (record { num = c * c; den = n }))

unfoldable pub exact_square : Segment → Segment → Fraction
unfolding intersects point_square
exact_square s t =
    cond (intersects s t) (record { num = 0; den = 1 })
    (lesser (lesser (lesser (point_square s.a t) (point_square s.b t)) (point_square t.a s)) (point_square t.b s))

-- ---- how far a double is off

-- a pixel, and 2 ^ -32 of one, in smallest doubles
abbrev pub pixel : ℕ
pixel = 2 ^ 1074

abbrev pub allowed : ℕ
allowed = 2 ^ (1074 - 32)

-- "within 2^-32 pixel of the exact distance", of which num / den is the square. The double is finite and its sign is clear; the root of num / den is at most x
-- + 2 ^ -32, and at least x - 2 ^ -32 where that is above zero (`-` stops at 0).
pub record Within (x : Float) (num den : ℕ) : Type 0 where
  pub unsigned : (m : ℕ) × (e : ℤ) × (x ≡ fin false m e)
  pub above : num * (pixel * pixel) ≤ (magnitude x + allowed) * (magnitude x + allowed) * den
  pub below : (magnitude x - allowed) * (magnitude x - allowed) * den ≤ num * (pixel * pixel)
