-- Coordinates of a map as doubles: whole numbers of pixels, and half pixels as centres have, up to 8,192, the largest coordinate of a map of the largest side.
-- Endpoints, centres and corners of regions have such coordinates. Assumes nothing.
use Rattle.std.proofs.Common.{sym, subst, le_trans, add-le-add, lit≤, lit<}
use Rattle.std.specs.Prelude.{ℕ, ◌+◌, ◌*◌, ◌^◌, ◌≤◌, Bool, true, false, cond, Float}
use Rattle.std.specs.Float.{binary64}
use Rattle.std.specs.Float.Ieee.{add, div}
use Rattle.definitions.specs.Limits.{max_side}
use Rattle.definitions.specs.Grid.{Position, Segment, position_lt, canonical}
use Rattle.definitions.specs.Spans.{pixels_per_walk_cell}
use Rattle.definitions.specs.Geometry.{Point, float, point, center}
use Rattle.definitions.specs.RegionRecord.{Region, corners}
use Rattle.definitions.specs.Context.{Context}
use Rattle.laws.specs.ListLaws.Lists.{All, done, more}
use Rattle.laws.specs.FloatLaws.WholeDoubles.{Unsigned, whole_halves, add-float, float-unsigned, half-float}

-- ---- numbers and points

-- 8,192
abbrev pub max_pixel : ℕ
max_pixel = pixels_per_walk_cell * max_side

-- a whole number of pixels, and of half pixels, on such a map
abbrev pub Pixel : Float → Type 0
Pixel x = Unsigned 0 max_pixel x

abbrev pub HalfPixel : Float → Type 0
HalfPixel x = Unsigned 1 (max_pixel * 2) x

pub record PixelPoint (p : Point) : Type 0 where
  pub on_x : Pixel p.px
  pub on_y : Pixel p.py

pub record HalfPixelPoint (p : Point) : Type 0 where
  pub on_x : HalfPixel p.px
  pub on_y : HalfPixel p.py

pub record PixelPosition (p : Position) : Type 0 where
  pub x-le : p.x ≤ max_pixel
  pub y-le : p.y ≤ max_pixel

pub record PixelSegment (s : Segment) : Type 0 where
  pub first : PixelPosition s.a
  pub second : PixelPosition s.b

-- the four edges of a region
pub record PixelRegion (R : Region) : Type 0 where
  pub left : Pixel R.min_x_lem
  pub top : Pixel R.min_y_lem
  pub right : Pixel R.max_x_lem
  pub bottom : Pixel R.max_y_lem

-- all that a pass measures
pub record PixelContext (C : Context) : Type 0 where
  pub ends : (i : ℕ) → PixelSegment (C.boundary i).endpoints
  pub edges : (r : ℕ) → PixelRegion (C.region r)

-- ---- of endpoints and regions

pub pixel-half : {p : Point} → PixelPoint p → HalfPixelPoint p
pixel-half h = record { on_x = whole_halves h.on_x; on_y = whole_halves h.on_y }

pub float-pixel : (n : ℕ) → n ≤ max_pixel → Pixel (float n)
float-pixel n h = float-unsigned max_pixel n (lit≤ tt) h

pub point-pixel : {p : Position} → PixelPosition p → PixelPoint (point p)
unfolding point
point-pixel {p} h = record { on_x = float-pixel p.x h.x-le; on_y = float-pixel p.y h.y-le }

pub center-half : {s : Segment} → PixelSegment s → HalfPixelPoint (center s)
unfolding center
center-half {s} h =
    record { on_x = middle s.a.x s.b.x h.first.x-le h.second.x-le; on_y = middle s.a.y s.b.y h.first.y-le h.second.y-le }
  where
    middle : (m n : ℕ) → m ≤ max_pixel → n ≤ max_pixel → HalfPixel (div binary64 (add binary64 (float m) (float n)) (float 2))
    middle m n hm hn =
        subst (λ (x : Float). HalfPixel (div binary64 x (float 2))) (sym (add-float m n (small hm) (small hn)))
        (half-float (max_pixel * 2) (m + n) (lit< tt) (add-le-add hm hn))
      where
        small : {k : ℕ} → k ≤ max_pixel → k ≤ 2 ^ 53
        small h = le_trans h (lit≤ tt)

pub canonical-pixel : {s : Segment} → PixelSegment s → PixelSegment (canonical s)
unfolding canonical
canonical-pixel {s} h = go (position_lt s.b s.a)
  where
    go : (t : Bool) → PixelSegment (cond t (record { a = s.b; b = s.a }) s)
    go true = record { first = h.second; second = h.first }
    go false = h

pub corners-pixel : {R : Region} → PixelRegion R → All PixelPoint (corners R)
unfolding corners
corners-pixel h =
    more (record { on_x = h.left; on_y = h.top })
    (more (record { on_x = h.left; on_y = h.bottom }) (more (record { on_x = h.right; on_y = h.top }) (more (record { on_x = h.right; on_y = h.bottom }) done)))
