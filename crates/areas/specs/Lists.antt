-- The five lists that a partition fills, as they stand behind `PartitionLists`. Definitions only; assumes nothing.
use Rattle.std.specs.Prelude.{ℕ, ◌≡◌, List, length}
use Rattle.areas.specs.declared.lists.PartitionLists.{PartitionLists}

-- P of labels, masks, queue, tallies and pairs, in this order
abbrev pub of_lists {ℓ} : {A : Type ℓ} → (List ℕ → List ℕ → List ℕ → List ℕ → List ℕ → A) → PartitionLists → A
of_lists P x = P x.labels.now x.masks.now x.queue.now x.tallies.now x.pairs.now

-- P of the lengths of labels, masks, queue and tallies, in this order
abbrev pub of_lengths {ℓ} : {A : Type ℓ} → (ℕ → ℕ → ℕ → ℕ → A) → PartitionLists → A
of_lengths P x = P (length x.labels.now) (length x.masks.now) (length x.queue.now) (length x.tallies.now)

-- y refers to the lists of x, which are as long as they were
pub record SameLists (x y : PartitionLists) : Type 0 where
  pub labels : y.labels.ghost_name ≡ x.labels.ghost_name
  pub masks : y.masks.ghost_name ≡ x.masks.ghost_name
  pub queue : y.queue.ghost_name ≡ x.queue.ghost_name
  pub tallies : y.tallies.ghost_name ≡ x.tallies.ghost_name
  pub pairs : y.pairs.ghost_name ≡ x.pairs.ghost_name
  pub labels_long : length y.labels.now ≡ length x.labels.now
  pub masks_long : length y.masks.now ≡ length x.masks.now
  pub queue_long_lem : length y.queue.now ≡ length x.queue.now
  pub tallies_long : length y.tallies.now ≡ length x.tallies.now
  pub pairs_long : length y.pairs.now ≡ length x.pairs.now
