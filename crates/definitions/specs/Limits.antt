-- The limits of SPECIFICATION 17. Assumes nothing.
use Rattle.std.specs.Prelude.{ℕ, Bool, ◌&&◌, leb}

-- "Width and height are 1 to 1,024 cells"
abbrev pub max_side : ℕ
max_side = 1024

abbrev pub is_side : ℕ → Bool
is_side side = leb 1 side && leb side max_side

-- "At most 256 spans, 256 boundaries and 256 anchors."
abbrev pub max_entries : ℕ
max_entries = 256

-- A span has four numbers, a boundary nine, an anchor two; the caller lends two tallies a span, three numbers a pair row and five an output row
abbrev pub numbers_per_span : ℕ
numbers_per_span = 4

abbrev pub numbers_per_boundary : ℕ
numbers_per_boundary = 9

abbrev pub numbers_per_anchor : ℕ
numbers_per_anchor = 2

abbrev pub tallies_per_span : ℕ
tallies_per_span = 2

abbrev pub numbers_per_pair : ℕ
numbers_per_pair = 3

abbrev pub numbers_per_row : ℕ
numbers_per_row = 5
