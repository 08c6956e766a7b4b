-- Where points of a map are asked how far they are apart, the arguments of the hypotenuse are in its range: differences of pixels and half pixels are numbers
-- of halves, and between a point and a segment they are differences as in Differences.antt. So number 13 cannot come, and the answer is `distance`, whose sign
-- is clear. Assumes coordinates of at most 8,192 pixels, as Pixels.antt has it.
use Rattle.std.specs.Prelude.{◌≡◌, ℕ, ◌^◌, ◌≤◌, true, cond, T, Float}
use Rattle.std.proofs.Math.Path.{refl}
use Rattle.std.proofs.Common.{lit≤, lit<}
use Rattle.std.specs.Float.Ieee.{binary64, add, sub, mul, div, eq, fits}
use Rattle.definitions.specs.Hypotenuse.{in_range, hypot_value}
use Rattle.definitions.specs.Geometry.{Point, float, distance, clamp01, point_segment_distance}
use Rattle.definitions.specs.RampGeometry.{difference}
use Rattle.laws.specs.FloatLaws.Patterns.{SignClear}
use Rattle.laws.specs.FloatLaws.Hypotenuse.{hypot_of-fits, hypot_of-clear}
use Rattle.laws.specs.FloatLaws.WholeDoubles.{Whole, signed, whole_halves, difference_dyadic, add_dyadic, mul_dyadic}
use Rattle.laws.specs.FloatLaws.InRange.{BothInRange, halves_in_range, range-value}
use Rattle.laws.specs.FloatLaws.Differences.{Part, difference-in_range}
use Rattle.laws.specs.FloatLaws.Clamped.{segment-part}
use Rattle.laws.specs.FloatLaws.Pixels.{max_pixel, Pixel, HalfPixel, PixelPoint, HalfPixelPoint, float-pixel}

-- ---- the distance of two points

-- the arguments that `distance p q` gives the hypotenuse
abbrev pub DistanceInRange : Point → Point → Type 0
DistanceInRange p q = BothInRange (sub binary64 p.px q.px) (sub binary64 p.py q.py)

half-difference : {x y : Float} → HalfPixel x → HalfPixel y → in_range (sub binary64 x y) ≡ true
half-difference p q = halves_in_range (lit≤ tt) (difference_dyadic (lit≤ tt) (lit< tt) p q)

pub distance-in_range : (p q : Point) → HalfPixelPoint p → HalfPixelPoint q → DistanceInRange p q
distance-in_range p q hp hq = (half-difference hp.on_x hq.on_x, half-difference hp.on_y hq.on_y)

module _ (p q : Point) (h : DistanceInRange p q) where
  pub distance-value : hypot_value (sub binary64 p.px q.px) (sub binary64 p.py q.py) ≡ distance p q
  unfolding distance
  distance-value = range-value (sub binary64 p.px q.px) (sub binary64 p.py q.py) h

  pub distance-clear : SignClear (distance p q)
  unfolding distance
  distance-clear = hypot_of-clear (sub binary64 p.px q.px) (sub binary64 p.py q.py) h.0 h.1

pub distance-fits : (p q : Point) → T (fits binary64 (distance p q))
unfolding distance
distance-fits p q = hypot_of-fits (sub binary64 p.px q.px) (sub binary64 p.py q.py)

-- the two differences whose hypotenuse is a segment's length
pub differences_in_range : (m n k l : ℕ) → m ≤ max_pixel → n ≤ max_pixel → k ≤ max_pixel → l ≤ max_pixel → BothInRange (difference m n) (difference k l)
unfolding difference
differences_in_range m n k l hm hn hk hl = (of m n hm hn, of k l hk hl)
  where
    of : (m n : ℕ) → m ≤ max_pixel → n ≤ max_pixel → in_range (sub binary64 (float m) (float n)) ≡ true
    of m n hm hn = half-difference (whole_halves (float-pixel m hm)) (whole_halves (float-pixel n hn))

-- ---- the distance of a point and a segment

whole-difference : {x y : Float} → Pixel x → Pixel y → Whole max_pixel (sub binary64 x y)
whole-difference u v = difference_dyadic (lit≤ tt) (lit< tt) u v

products : {u v x y : Float} → Whole max_pixel u → Whole max_pixel v → Whole max_pixel x → Whole max_pixel y
    → Whole (2 ^ 27) (add binary64 (mul binary64 u v) (mul binary64 x y))
products hu hv hx hy = add_dyadic (mul_dyadic hu hv (lit≤ tt) (lit< tt)) (mul_dyadic hx hy (lit≤ tt) (lit< tt)) (lit≤ tt) (lit< tt)

module _ (p a b : Point) where
  abbrev along_x : Float
  along_x = sub binary64 b.px a.px

  abbrev along_y : Float
  along_y = sub binary64 b.py a.py

  -- the part of the segment that lies before the nearest point: t of `point_segment_distance`
  abbrev pub part_before : Float
  part_before =
      let n = add binary64 (mul binary64 along_x along_x) (mul binary64 along_y along_y) in
      cond (eq n (float 0)) (float 0)
      (clamp01 (div binary64 (add binary64 (mul binary64 (sub binary64 p.px a.px) along_x) (mul binary64 (sub binary64 p.py a.py) along_y)) n))

  abbrev pub nearest_point : Point
  nearest_point = record { px = add binary64 a.px (mul binary64 part_before along_x); py = add binary64 a.py (mul binary64 part_before along_y) }

  pub point-segment_is : point_segment_distance p a b ≡ distance p nearest_point
  unfolding point_segment_distance
  point-segment_is = refl

  pub point-segment-in_range : PixelPoint p → PixelPoint a → PixelPoint b → DistanceInRange p nearest_point
  point-segment-in_range hp ha hb =
      let x = whole-difference hb.on_x ha.on_x in
      let y = whole-difference hb.on_y ha.on_y in
      let t : Part part_before = segment-part (products (whole-difference hp.on_x ha.on_x) x (whole-difference hp.on_y ha.on_y) y) (products x x y y) in
      (difference-in_range (signed hp.on_x) (signed ha.on_x) t x, difference-in_range (signed hp.on_y) (signed ha.on_y) t y)
