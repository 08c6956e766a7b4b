-- Case J (SPECIFICATION 18), computed: labels, pairs, kept rows, and what `keptlist` prints for its sheet.
use Rattle.std.specs.Prelude.{ℕ, ◌≡◌, refl, [], ◌∷◌, map}
use Rattle.definitions.specs.Scan.{run}
use Rattle.definitions.specs.Grid.{Map, map_of, at, Pair}
use Rattle.definitions.specs.Spans.{cut_steps}
use Rattle.definitions.specs.Partition.{labels, region_count, pairs_of}
use Rattle.definitions.specs.Rows.{Row, rows_of}
use Rattle.definitions.specs.Printed.{keptlist, text}
use Rattle.definitions.specs.SheetExamples.{bytes_j, sheet_j}

unfoldable pub map_j : Map
unfolding map_of
map_j = map_of sheet_j.width sheet_j.height sheet_j.cells sheet_j.spans sheet_j.boundaries sheet_j.anchors

pub labels_j : labels map_j ≡ 0 ∷ 1 ∷ 0 ∷ 0 ∷ 2 ∷ 3 ∷ 4 ∷ 5 ∷ 0 ∷ 0 ∷ 6 ∷ 0 ∷ []
unfolding labels map_j
labels_j = refl

pub regions_j : region_count map_j ≡ 6
unfolding region_count map_j
regions_j = refl

abbrev pub pair : ℕ → ℕ → Pair
pair a b = record { lo = a; hi = b }

pub pairs_j : map (λ s. pairs_of (labels map_j) (cut_steps map_j s)) (run 0 5) ≡ (pair 3 4 ∷ []) ∷ (pair 2 3 ∷ []) ∷ (pair 1 3 ∷ []) ∷ (pair 4 5 ∷ []) ∷ (pair 4 6 ∷ []) ∷ []
unfolding labels pairs_of cut_steps run map_j
pairs_j = refl

abbrev pub row : ℕ → ℕ → ℕ → ℕ → ℕ → Row
row i a b c d = record { number = i; line = record { a = at a b; b = at c d } }

pub rows_j : rows_of 3 map_j ≡ row 1 8 8 8 16 ∷ row 2 8 8 16 8 ∷ row 4 16 16 24 16 ∷ row 3 24 8 24 16 ∷ []
unfolding rows_of map_j
rows_j = refl

pub printed_j : keptlist bytes_j ≡ text "kept 4 of 5\n1 8 8 8 16\n2 8 8 16 8\n4 16 16 24 16\n3 24 8 24 16\n"
unfolding keptlist text
printed_j = refl
