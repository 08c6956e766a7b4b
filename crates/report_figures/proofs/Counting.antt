-- Numbers that rows have. Assumes nothing.
use Rattle.std.proofs.Common.{◌≡◌, ℕ, not, ◌||◌, eqb, List, [], ◌∷◌, length, refl, ap}
use Rattle.std.specs.List.{list_any, filter, range_with_len}
use Rattle.definitions.specs.Scan.{any}
use Rattle.definitions.specs.Rows.{Row}
use Rattle.laws.specs.ListLaws.FlatRows.{row_at, rows_held}
use Rattle.range_laws.specs.Ranges.{counted_range}
use Rattle.report.specs.ReportLaws.Named.{named, unnamed_below}

pub named_held : (i : ℕ) (rows : List (List ℕ)) → list_any (λ row. eqb (row_at row 0).number i) rows ≡ named (rows_held rows) i
unfolding named any
named_held i [] = refl
named_held i (row ∷ rows) = ap (λ b. eqb (row_at row 0).number i || b) (named_held i rows)

-- ---- numbers that no row has

pub unnamed_range : (rows : List Row) (count : ℕ) → length (filter (λ i. not (named rows i)) (range_with_len 0 count)) ≡ unnamed_below count rows
unfolding unnamed_below
unnamed_range rows count = counted_range (λ i. not (named rows i)) count
