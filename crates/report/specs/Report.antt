-- Request 13: the year's figures, run by run. Quotations are of document 02, request 13. A report may hold any 64-bit numbers, so that sums are modulo 2^64;
-- of a report that runs were added to from the empty one no sum wraps (ReportLaws/Reached). Assumes nothing.
use Rattle.std.specs.Prelude.{ℕ, zero, suc, ◌+◌, ◌-◌, ◌/◌, ◌%◌, ◌^◌, replicate, ltb, Option, None, Some}
use Rattle.std.proofs.Math.Bool.{cond}
use mathlib.Core.List.{List, [], ◌∷◌}
use Rattle.report.specs.Runs.{Figures, Run, refused_run, accepted_run}

-- "up to 10,000 runs"
abbrev pub max_runs : ℕ
max_runs = 10_000

-- "For each pass": passes 1, 2 and 3
abbrev pub pass_count : ℕ
pass_count = 3

-- one count for each number of a refusal, 1 to 24, and one for 0 that stays as it is
abbrev pub refusal_numbers : ℕ
refusal_numbers = 25

-- all runs, refused ones by their number, the figures of each pass, and "the total of squared lengths of kept rows"
pub record Report : Type 0 where
  pub runs : ℕ
  pub refused : List ℕ
  pub passes : List Figures
  pub squared : ℕ

abbrev pub no_figures : Figures
no_figures = record { accepted = 0; boundaries = 0; kept = 0; removed = 0 }

-- "which starts empty"
unfoldable pub empty_report : Report
empty_report = record { runs = 0; refused = replicate refusal_numbers 0; passes = replicate pass_count no_figures; squared = 0 }

-- ---- a run more

-- a sum of 64-bit numbers
abbrev pub sum64 : ℕ → ℕ → ℕ
sum64 a b = (a + b) % 2 ^ 64

module _ (plus : ℕ → ℕ → ℕ) where
  -- one more at place i
  unfoldable pub count_at : ℕ → List ℕ → List ℕ
  count_at i [] = []
  count_at zero (n ∷ l) = plus n 1 ∷ l
  count_at (suc i) (n ∷ l) = n ∷ count_at i l

  abbrev pub with_figures : Figures → Figures → Figures
  with_figures f run =
      record {
        accepted = plus f.accepted run.accepted;
        boundaries = plus f.boundaries run.boundaries;
        kept = plus f.kept run.kept;
        removed = plus f.removed run.removed;
      }

  -- a run more at place i
  unfoldable pub figures_at : ℕ → Figures → List Figures → List Figures
  figures_at i run [] = []
  figures_at zero run (f ∷ l) = with_figures f run ∷ l
  figures_at (suc i) run (f ∷ l) = f ∷ figures_at i run l

  -- "Runs refused are counted by number"; an accepted run at the place of its pass, which is the pass less 1
  unfoldable pub added_by : Report → Run → Report
  unfolding count_at figures_at
  added_by R (refused_run number) = record { runs = plus R.runs 1; refused = count_at number R.refused; passes = R.passes; squared = R.squared }
  added_by R (accepted_run pass run squared) =
      record { runs = plus R.runs 1; refused = R.refused; passes = figures_at (pass - 1) run R.passes; squared = plus R.squared squared }

  -- "Runs refused are counted by number and within the 10,000; a run beyond them is refused as 3 and changes nothing."
  unfoldable pub add_run_by : Report → Run → Report
  unfolding added_by
  add_run_by R run = cond (ltb R.runs max_runs) (added_by R run) R

  -- "read one by one"
  unfoldable pub add_runs_by : Report → List Run → Report
  unfolding add_run_by
  add_runs_by R [] = R
  add_runs_by R (run ∷ l) = add_runs_by (add_run_by R run) l

-- in 64 bits
unfoldable pub add_run : Report → Run → Report
unfolding add_run_by
add_run = add_run_by sum64

unfoldable pub add_runs : Report → List Run → Report
unfolding add_runs_by
add_runs = add_runs_by sum64

-- with sums of any size
unfoldable pub exact_runs : Report → List Run → Report
unfolding add_runs_by
exact_runs = add_runs_by ◌+◌

-- ---- "the mean kept for an accepted run as quotient and exact remainder"; "A pass with no accepted run has no mean."

pub record Mean : Type 0 where
  pub quotient : ℕ
  pub remainder : ℕ

abbrev pub mean_of : ℕ → ℕ → Option Mean
mean_of zero kept = None
mean_of (suc n) kept = Some (record { quotient = kept / suc n; remainder = kept % suc n })

abbrev pub mean_at : ℕ → List Figures → Option Mean
mean_at i [] = None
mean_at zero (f ∷ l) = mean_of f.accepted f.kept
mean_at (suc i) (f ∷ l) = mean_at i l

-- of passes 1, 2 and 3; there is none of any other number
abbrev pub mean_kept : Report → ℕ → Option Mean
mean_kept R zero = None
mean_kept R (suc i) = mean_at i R.passes
