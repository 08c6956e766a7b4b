-- Computed examples of request 13: what case J (SPECIFICATION 18) adds, runs added in two orders, a run beyond the last, means, lengths, and sums that wrap.
-- Assumes nothing.
use Rattle.std.specs.Prelude.{ℕ, ◌-◌, ◌^◌, ◌≡◌, refl, List, [], ◌∷◌, map, replicate, None, Some}
use Rattle.definitions.specs.Grid.{Segment, at}
use Rattle.definitions.specs.SheetExamples.{Example, ◌gives◌, bytes_j}
use Rattle.report.specs.Runs.{Figures, Run, refused_run, accepted_run, square_apart, squared_lengths, figures_from, sheet_run}
use Rattle.report.specs.Report.{Report, no_figures, empty_report, add_run, add_runs, mean_kept, max_runs}

abbrev pub figures : ℕ → ℕ → ℕ → ℕ → Figures
figures accepted boundaries kept removed = record { accepted = accepted; boundaries = boundaries; kept = kept; removed = removed }

-- ---- runs

-- pass 3 of case J keeps four of five boundaries, each a cell's side long
pub sheet-J : sheet_run bytes_j ≡ accepted_run 3 (figures 1 5 4 1) 256
unfolding sheet_run
sheet-J = refl

-- bytes that are no sheet
pub no_sheet : sheet_run (2 ∷ []) ≡ refused_run 14
unfolding sheet_run
no_sheet = refl

-- the removed are counted by themselves, each number once, and are not what is left of the boundaries
pub counted : figures_from 5 1 (3 ∷ 0 ∷ 3 ∷ []) ≡ figures 1 5 1 2
unfolding figures_from
counted = refl

pub apart : map (square_apart 8) (8 ∷ 0 ∷ 8192 ∷ []) ≡ 0 ∷ 64 ∷ 66977856 ∷ []
apart = refl

-- one row from (0, 8) to (16, 0), and one of no length
abbrev line : ℕ → ℕ → ℕ → ℕ → Segment
line x y u v = record { a = at x y; b = at u v }

pub lengths : squared_lengths (record { number = 0; line = line 0 8 16 0 } ∷ record { number = 1; line = line 8 8 8 8 } ∷ []) ≡ 320
unfolding squared_lengths
lengths = refl

-- ---- reports

-- two runs of pass 3, one of pass 1, one refused 14 and one refused 3
abbrev pub five : List Run
five =
    accepted_run 3 (figures 1 5 4 1) 256 ∷ refused_run 14 ∷ accepted_run 1 (figures 1 2 2 0) 128 ∷ accepted_run 3 (figures 1 4 1 3) 64 ∷ refused_run 3 ∷ []

abbrev pub turned : List Run
turned =
    refused_run 3 ∷ accepted_run 3 (figures 1 4 1 3) 64 ∷ accepted_run 3 (figures 1 5 4 1) 256 ∷ accepted_run 1 (figures 1 2 2 0) 128 ∷ refused_run 14 ∷ []

abbrev pub reported : Report
reported =
    record {
      runs = 5;
      refused = 0 ∷ 0 ∷ 0 ∷ 1 ∷ 0 ∷ 0 ∷ 0 ∷ 0 ∷ 0 ∷ 0 ∷ 0 ∷ 0 ∷ 0 ∷ 0 ∷ 1 ∷ replicate 10 0;
      passes = figures 1 2 2 0 ∷ no_figures ∷ figures 2 9 5 4 ∷ [];
      squared = 448;
    }

-- so many runs, all refused as 1
abbrev pub refused_as1 : ℕ → Report
refused_as1 n = record { runs = n; refused = 0 ∷ n ∷ replicate 23 0; passes = replicate 3 no_figures; squared = 0 }

-- a report of any content: sums are modulo 2^64
abbrev pub largest : ℕ
largest = 2 ^ 64 - 1

abbrev pub brimful : Report
brimful = record { runs = 7; refused = replicate 25 largest; passes = replicate 3 (figures largest largest largest largest); squared = largest }

abbrev pub wrapped : Report
wrapped =
    record {
      runs = 8;
      refused = replicate 25 largest;
      passes = figures largest largest largest largest ∷ figures 0 1 0 0 ∷ figures largest largest largest largest ∷ [];
      squared = 63;
    }

unfoldable pub report_examples : List (Example Report)
unfolding add_runs add_run empty_report
report_examples =
    add_runs empty_report five gives reported
    ∷ add_runs empty_report turned gives reported
    ∷ add_run (refused_as1 (max_runs - 1)) (refused_run 1) gives refused_as1 max_runs
    ∷ add_run (refused_as1 max_runs) (refused_run 1) gives refused_as1 max_runs
    ∷ add_run (refused_as1 max_runs) (accepted_run 1 (figures 1 1 1 0) 64) gives refused_as1 max_runs
    ∷ add_run brimful (accepted_run 2 (figures 1 2 1 1) 64) gives wrapped
    ∷ []

pub report_examples_lem : map (λ e. e.computed) report_examples ≡ map (λ e. e.expected) report_examples
unfolding report_examples
report_examples_lem = refl

-- of passes 0, 1, 2, 3 and 4: no pass; 2 in one run; no run; 5 in two runs; no pass
pub means : map (mean_kept reported) (0 ∷ 1 ∷ 2 ∷ 3 ∷ 4 ∷ [])
    ≡ None ∷ Some (record { quotient = 2; remainder = 0 }) ∷ None ∷ Some (record { quotient = 2; remainder = 1 }) ∷ None ∷ []
means = refl
