-- What is lent where no check before the partition refuses. Definitions only; assumes nothing.
use Rattle.std.specs.Prelude.{ℕ, ◌*◌, ◌/◌, ◌≤◌, List, length}
use Rattle.definitions.specs.Limits.{max_entries, numbers_per_span, tallies_per_span}
use Rattle.cut_steps.specs.Contract.{Checked}

-- labels, masks, queue and tallies are of these lengths
pub record Fit (w h : ℕ) (cells spans : List ℕ) (labels masks queue tallies : ℕ) : Type 0 where
  pub checked : Checked w h cells spans
  pub few : length spans / numbers_per_span ≤ max_entries
  pub labels_long : h * w ≤ labels
  pub masks_long : h * w ≤ masks
  pub queue_long_lem : h * w ≤ queue
  pub tallies_long : tallies_per_span * (length spans / numbers_per_span) ≤ tallies
