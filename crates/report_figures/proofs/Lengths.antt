-- Squared lengths: of two pixels, and of rows. Assumes nothing.
use Rattle.std.proofs.Common.{◌≡◌, ℕ, ◌+◌, ◌*◌, ◌≤◌, List, [], ◌∷◌, map, refl, ap, ◌∙◌, mul-le-mul}
use Rattle.std.specs.List.{sum, sum_by}
use Rattle.std.proofs.lemmas.List.Sums.{sum-map, sum_by-cons}
use Rattle.laws.specs.FloatLaws.Pixels.{max_pixel}
use Rattle.laws.specs.ListLaws.FlatRows.{row_at, rows_held}
use Rattle.report.specs.Runs.{squared_length, squared_lengths}

pub square-few : {n : ℕ} → n ≤ max_pixel → n * n ≤ max_pixel * max_pixel
square-few h = mul-le-mul h h

lengths_by : (rows : List (List ℕ)) → sum_by (λ row. squared_length (row_at row 0).line) rows ≡ squared_lengths (rows_held rows)
unfolding squared_lengths
lengths_by [] = refl
lengths_by (row ∷ rows) = sum_by-cons (λ r. squared_length (row_at r 0).line) row rows ∙ ap (λ n. squared_length (row_at row 0).line + n) (lengths_by rows)

pub lengths_held : (rows : List (List ℕ)) → sum (map (λ row. squared_length (row_at row 0).line) rows) ≡ squared_lengths (rows_held rows)
lengths_held rows = sum-map (λ row. squared_length (row_at row 0).line) rows ∙ lengths_by rows
