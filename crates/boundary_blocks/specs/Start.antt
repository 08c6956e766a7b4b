-- The starting list over flat lists, and the rows of what is kept. Definitions only; assumes nothing.
use Rattle.std.specs.Prelude.{ℕ, ◌+◌, ◌*◌, ◌≤◌, true, List, [], ◌∷◌, length, get_or, Some}
use Rattle.definitions.specs.Limits.{numbers_per_span, numbers_per_boundary}
use Rattle.definitions.specs.Scan.{collect, concat_map}
use Rattle.definitions.specs.Grid.{Boundary, segment_at, boundary_at}
use Rattle.definitions.specs.Rows.{Row, rows_from}
use Rattle.rest.specs.FlatLists.{flat_segment, flat_boundary}

-- the rows of the first boundaries of a list, all of them, in row order
unfoldable pub rows_of_all : List ℕ → ℕ → List Row
unfolding rows_from
rows_of_all boundaries count = rows_from count (λ i. boundary_at boundaries (numbers_per_boundary * i)) (λ i. true)

-- the list has the boundary that a row names
abbrev pub NamedIn : List ℕ → Row → Type 0
NamedIn boundaries r = numbers_per_boundary * r.number + numbers_per_boundary ≤ length boundaries

-- the boundary that a row names, with the row's endpoints
abbrev pub turned_in : List ℕ → Row → Boundary
turned_in boundaries r =
    let b = boundary_at boundaries (numbers_per_boundary * r.number) in
    record { endpoints = r.line; width_bits = b.width_bits; kind = b.kind; ramp_id = b.ramp_id; lower = b.lower; upper = b.upper }

-- of rows, their numbers, their endpoints, and the boundaries that they name, in flat lists
unfoldable pub numbers_of : List Row → List ℕ
unfolding concat_map
numbers_of rows = concat_map (λ r. r.number ∷ []) rows

unfoldable pub ends_of_lem : List Row → List ℕ
unfolding concat_map
ends_of_lem rows = concat_map (λ r. flat_segment r.line) rows

unfoldable pub turned_of : List ℕ → List Row → List ℕ
unfolding concat_map
turned_of boundaries rows = concat_map (λ r. flat_boundary (turned_in boundaries r)) rows

-- the rows of the first places of a list: their numbers, and their endpoints in the list of spans
abbrev pub place_row : List ℕ → List ℕ → ℕ → Row
place_row numbers spans k = record { number = get_or numbers k 0; line = segment_at spans (numbers_per_span * k) }

unfoldable pub rows_at : List ℕ → List ℕ → ℕ → List Row
unfolding collect
rows_at numbers spans kept = collect kept (λ k. Some (place_row numbers spans k))
