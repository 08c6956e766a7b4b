-- The float geometry of context.rs. Every operation is IEEE 754's (lib.Ieee), rounded once, in the order in which the Rust writes it. Assumes nothing.
use Rattle.std.specs.Prelude.{ℕ, cond, pos, Float}
use Rattle.std.specs.Float.{binary64}
use Rattle.std.specs.Float.Ieee.{add, sub, mul, div, lt, eq, of_int}
use Rattle.definitions.specs.Grid.{Position, Segment}
use Rattle.definitions.specs.Hypotenuse.{hypot_of}

pub record Point : Type 0 where
  pub px : Float
  pub py : Float

-- `f64::from`; exact for every number that a map holds
unfoldable pub float : ℕ → Float
unfolding of_int
float n = of_int binary64 (pos n)

unfoldable pub point : Position → Point
unfolding float
point p = record { px = float p.x; py = float p.y }

-- of the endpoints as written; turning them round changes nothing, as a sum is commutative
unfoldable pub center : Segment → Point
unfolding div add float
center s =
    record {
      px = div binary64 (add binary64 (float s.a.x) (float s.b.x)) (float 2);
      py = div binary64 (add binary64 (float s.a.y) (float s.b.y)) (float 2);
    }

-- the arguments never leave the range of the hypotenuse within a pass (SPECIFICATION 6), so that 13 cannot arise there
unfoldable pub distance : Point → Point → Float
unfolding hypot_of sub
distance p q = hypot_of (sub binary64 p.px q.px) (sub binary64 p.py q.py)

-- `clamp(0.0, 1.0)` of a number
unfoldable pub clamp01 : Float → Float
unfolding lt float
clamp01 t = cond (lt t (float 0)) (float 0) (cond (lt (float 1) t) (float 1) t)

unfoldable pub point_segment_distance : Point → Point → Point → Float
unfolding sub add mul eq float clamp01 div distance
point_segment_distance p a b =
    let dx = sub binary64 b.px a.px in
    let dy = sub binary64 b.py a.py in
    let n = add binary64 (mul binary64 dx dx) (mul binary64 dy dy) in
    let t =
    cond (eq n (float 0)) (float 0)
    (clamp01 (div binary64 (add binary64 (mul binary64 (sub binary64 p.px a.px) dx) (mul binary64 (sub binary64 p.py a.py) dy)) n)) in
    distance p (record { px = add binary64 a.px (mul binary64 t dx); py = add binary64 a.py (mul binary64 t dy) })
