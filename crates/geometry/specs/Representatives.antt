-- The parts of `is_nearby_parallel_representative` and `overlapping_ramp_representative` that have a function of their own, of canonical segments. Definitions only.
use Rattle.std.specs.Prelude.{Float}
use Rattle.std.specs.Float.{binary64}
use Rattle.std.specs.Float.Ieee.{add, sub, mul, div}
use Rattle.definitions.specs.Grid.{Position, Segment}
use Rattle.definitions.specs.Geometry.{float}
use Rattle.definitions.specs.Hypotenuse.{hypot_of}
use Rattle.definitions.specs.RampGeometry.{difference, fabs, fmin, fmax}

abbrev pub dx_of : Segment → Float
dx_of s = difference s.b.x s.a.x

abbrev pub dy_of : Segment → Float
dy_of s = difference s.b.y s.a.y

abbrev pub length_of : Segment → Float
length_of s = hypot_of (dx_of s) (dy_of s)

-- the product of two directions
abbrev pub dot_of : Segment → Segment → Float
dot_of s t = add binary64 (mul binary64 (dx_of s) (dx_of t)) (mul binary64 (dy_of s) (dy_of t))

-- t is the ramp, n its length
abbrev pub normal_offset : Segment → Float → Position → Float
normal_offset t n p =
    div binary64 (fabs (sub binary64 (mul binary64 (difference p.x t.a.x) (dy_of t)) (mul binary64 (difference p.y t.a.y) (dx_of t)))) n

-- `project`
abbrev pub projection : Segment → Float → Position → Float
projection t n p =
    div binary64 (add binary64 (mul binary64 (difference p.x t.a.x) (dx_of t)) (mul binary64 (difference p.y t.a.y) (dy_of t))) n

-- s is the candidate
abbrev pub max_offset : Segment → Segment → Float → Float
max_offset s t n = fmax (normal_offset t n s.a) (normal_offset t n s.b)

abbrev pub overlap_of : Segment → Segment → Float → Float
overlap_of s t n =
    let first = projection t n s.a in
    let second = projection t n s.b in
    fmax (sub binary64 (fmin n (fmax first second)) (fmax (float 0) (fmin first second))) (float 0)
