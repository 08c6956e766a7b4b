-- The map: what is lent (flat lists, SPECIFICATION 3) and what a reader thinks of (records); its cells; and the steps between them
-- (`neighbors` of lib.rs). Assumes nothing: every test is total, and what the table of refusals excludes is excluded there.
use Rattle.std.specs.Prelude.{ℕ, ◌+◌, ◌-◌, ◌*◌, ◌/◌, ◌%◌, Bool, ◌&&◌, ◌||◌, cond, List, [], ◌∷◌, map, length, get_or, eqb, ltb, leb}
use Rattle.definitions.specs.Scan.{filter, run}

-- ---- positions and segments

-- of a cell in cells (WalkPosition of lib.rs), of a point in pixels (PixelPosition of bases/mod.rs)
pub record Position : Type 0 where
  pub x : ℕ
  pub y : ℕ

abbrev pub at : ℕ → ℕ → Position
at x y = record { x = x; y = y }

-- positions compare by x, then y
abbrev pub position_lt : Position → Position → Bool
position_lt p q = ltb p.x q.x || (eqb p.x q.x && ltb p.y q.y)

pub record Segment : Type 0 where
  pub a : Position
  pub b : Position

-- `canonical` of context.rs, and the order of endpoints in SpanGeometry::new of areas.rs: the lesser endpoint first
unfoldable pub canonical : Segment → Segment
canonical s = cond (position_lt s.b s.a) (record { a = s.b; b = s.a }) s

-- ---- two numbers, the smaller first: the two cells of a step, the labels of two regions

pub record Pair : Type 0 where
  pub lo : ℕ
  pub hi : ℕ

abbrev pub pair_lt : Pair → Pair → Bool
pair_lt p q = ltb p.lo q.lo || (eqb p.lo q.lo && ltb p.hi q.hi)

abbrev pub pair_eq : Pair → Pair → Bool
pair_eq p q = eqb p.lo q.lo && eqb p.hi q.hi

abbrev pub contains : ℕ → Pair → Bool
contains r p = eqb p.lo r || eqb p.hi r

-- ---- the map

-- TopologyBoundary of topology/mod.rs, as the nine numbers of SPECIFICATION 2. Kind 0 has no ramp, 1 is the Lower end of one, 2 the Upper.
pub record Boundary : Type 0 where
  pub endpoints : Segment
  pub width_bits : ℕ
  pub kind : ℕ
  pub ramp_id : ℕ
  pub lower : ℕ
  pub upper : ℕ

-- an anchor is its cell's number, row by row
pub record Map : Type 0 where
  pub width : ℕ
  pub height : ℕ
  pub cells : List ℕ
  pub spans : List Segment
  pub boundaries : List Boundary
  pub anchors : List ℕ

-- four numbers for a span, nine for a boundary, two for an anchor
abbrev pub segment_at : List ℕ → ℕ → Segment
segment_at l k = record { a = at (get_or l k 0) (get_or l (k + 1) 0); b = at (get_or l (k + 2) 0) (get_or l (k + 3) 0) }

abbrev pub boundary_at : List ℕ → ℕ → Boundary
boundary_at l k =
    record {
      endpoints = segment_at l k;
      width_bits = get_or l (k + 4) 0;
      kind = get_or l (k + 5) 0;
      ramp_id = get_or l (k + 6) 0;
      lower = get_or l (k + 7) 0;
      upper = get_or l (k + 8) 0;
    }

-- the map that a call is lent: sides, cells, spans, boundaries, anchors
unfoldable pub map_of : ℕ → ℕ → List ℕ → List ℕ → List ℕ → List ℕ → Map
unfolding run
map_of w h cells spans boundaries anchors =
    record {
      width = w;
      height = h;
      cells = cells;
      spans = map (λ i. segment_at spans (4 * i)) (run 0 (length spans / 4));
      boundaries = map (λ i. boundary_at boundaries (9 * i)) (run 0 (length boundaries / 9));
      anchors = map (λ i. get_or anchors (2 * i + 1) 0 * w + get_or anchors (2 * i) 0) (run 0 (length anchors / 2));
    }

-- what stands for a span or a boundary beyond the lists; no definition's result turns on it
abbrev pub no_segment : Segment
no_segment = record { a = at 0 0; b = at 0 0 }

abbrev pub no_boundary : Boundary
no_boundary = record { endpoints = no_segment; width_bits = 0; kind = 0; ramp_id = 0; lower = 0; upper = 0 }

unfoldable pub span_count : Map → ℕ
span_count M = length M.spans

unfoldable pub span_of : Map → ℕ → Segment
span_of M s = get_or M.spans s no_segment

unfoldable pub boundary_of : Map → ℕ → Boundary
boundary_of M i = get_or M.boundaries i no_boundary

-- ---- cells. A byte is 1 for walkable, plus 2 for ramp, plus 4 times the elevation.

unfoldable pub cell_count : Map → ℕ
cell_count M = M.height * M.width

abbrev pub index : Map → Position → ℕ
index M p = p.y * M.width + p.x

abbrev pub position_of : Map → ℕ → Position
position_of M c = at (c % M.width) (c / M.width)

abbrev pub cell_at : Map → ℕ → ℕ
cell_at M c = get_or M.cells c 0

abbrev pub is_walkable : ℕ → Bool
is_walkable c = eqb (c % 2) 1

abbrev pub is_ramp : ℕ → Bool
is_ramp c = eqb (c / 2 % 2) 1

abbrev pub elevation : ℕ → ℕ
elevation c = c / 4

-- the position is in the grid and its cell is walkable
unfoldable pub walkable : Map → Position → Bool
walkable M p = ltb p.x M.width && ltb p.y M.height && is_walkable (cell_at M (index M p))

-- ---- steps

-- the eight directions in the Rust's order, each moved by (1, 1) so that no number is negative: (0, -1) is `at 1 0`
abbrev pub directions : List Position
directions = at 1 0 ∷ at 0 1 ∷ at 2 1 ∷ at 1 2 ∷ at 0 0 ∷ at 2 0 ∷ at 0 2 ∷ at 2 2 ∷ []

-- the cell in direction d of p
abbrev pub toward : Position → Position → Position
toward p d = at (p.x + d.x - 1) (p.y + d.y - 1)

-- A step joins p and its neighbour in direction d, a place of the square of nine about p: neither coordinate would be below 0, and all four of the cells
-- that the two span are walkable. Of a straight step these are the two cells themselves; of a diagonal one they are the two and both side cells.
unfoldable pub is_step : Map → Position → Position → Bool
unfolding walkable
is_step M p d =
    let q = toward p d in
    leb d.x 2 && leb d.y 2 && leb 1 (p.x + d.x) && leb 1 (p.y + d.y) && walkable M q && walkable M p && walkable M (at q.x p.y) && walkable M (at p.x q.y)

-- `neighbors` of lib.rs
unfoldable pub neighbors : Map → Position → List Position
unfolding filter is_step
neighbors M p = map (toward p) (filter (is_step M p) directions)

-- those of larger number, so that each step is met once, from its smaller cell
unfoldable pub onward : Map → Position → List Position
unfolding filter neighbors
onward M p = filter (λ q. ltb (index M p) (index M q)) (neighbors M p)

-- a step as its two cells' numbers
abbrev pub edge : Map → Position → Position → Pair
edge M p q = record { lo = index M p; hi = index M q }
