-- What the declared types say, in the words of the report, and what is asked of rows. Definitions only; assumes nothing.
use Rattle.std.specs.Prelude.{ℕ, ◌*◌, ◌<◌, ◌≤◌, true, false, List, [], ◌∷◌, length, get_or, Option, None, Some}
use Rattle.definitions.specs.Limits.{max_entries, numbers_per_row}
use Rattle.laws.specs.FloatLaws.Pixels.{PixelSegment}
use Rattle.laws.specs.ListLaws.FlatRows.{row_at}
use Rattle.report.specs.Runs as def
use Rattle.report.specs.Report as def'
use Rattle.report_figures.specs.declared.Figures.{Figures}
use Rattle.report_figures.specs.declared.Report.{Report}
use Rattle.report_figures.specs.declared.Mean.{Mean}

abbrev pub figures_form : Figures → def.Figures
figures_form f = record { accepted = f.accepted; boundaries = f.boundaries; kept = f.kept; removed = f.removed }

abbrev pub report_form : Report → def'.Report
report_form r =
    record {
      runs = r.runs;
      refused = r.refused;
      passes = figures_form r.pass_1 ∷ figures_form r.pass_2 ∷ figures_form r.pass_3 ∷ [];
      squared = r.squared;
    }

-- a mean as quotient and remainder
abbrev pub mean_in : Option (ℕ × ℕ) → Option def'.Mean
mean_in None = None
mean_in (Some (quotient, remainder)) = Some (record { quotient = quotient; remainder = remainder })

-- 0 where there is no mean
abbrev pub mean_form : Option def'.Mean → Mean
mean_form None = record { has_mean = false; quotient = 0; remainder = 0 }
mean_form (Some m) = record { has_mean = true; quotient = m.quotient; remainder = m.remainder }

-- the list begins with so many rows, no more than a map has boundaries, and their lines lie on a map
pub record RowsOnMap (kept : ℕ) (output : List ℕ) : Type 0 where
  pub few : kept ≤ max_entries
  pub held : numbers_per_row * kept ≤ length output
  pub lines : (k : ℕ) → k < kept → PixelSegment (row_at output (numbers_per_row * k)).line

-- the same of such rows: no more than a map has boundaries, and their lines lie on a map
pub record HeldOnMap (rows : List (List ℕ)) : Type 0 where
  pub few : length rows ≤ max_entries
  pub lines : (k : ℕ) (none : List ℕ) → k < length rows → PixelSegment (row_at (get_or rows k none) 0).line
