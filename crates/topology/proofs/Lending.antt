-- The lists that are lent are the same over calls one behind the other. Assumes nothing.
use mathlib.Core.Path.{refl, ◌∙◌}
use Rattle.areas.specs.Lists.{SameLists}
use Rattle.areas.specs.declared.lists.PartitionLists.{PartitionLists}
use Rattle.rest_lists.specs.declared.kept.KeptLists.{KeptLists}
use Rattle.rest_lists.specs.Together.{SameKept}

pub same_at_entry : (x : PartitionLists) → SameLists x x
same_at_entry x =
    record {
      labels = refl;
      masks = refl;
      queue = refl;
      tallies = refl;
      pairs = refl;
      labels_long = refl;
      masks_long = refl;
      queue_long_lem = refl;
      tallies_long = refl;
      pairs_long = refl;
    }

pub still_same : {x y z : PartitionLists} → SameLists x y → SameLists y z → SameLists x z
still_same s t =
    record {
      labels = t.labels ∙ s.labels;
      masks = t.masks ∙ s.masks;
      queue = t.queue ∙ s.queue;
      tallies = t.tallies ∙ s.tallies;
      pairs = t.pairs ∙ s.pairs;
      labels_long = t.labels_long ∙ s.labels_long;
      masks_long = t.masks_long ∙ s.masks_long;
      queue_long_lem = t.queue_long_lem ∙ s.queue_long_lem;
      tallies_long = t.tallies_long ∙ s.tallies_long;
      pairs_long = t.pairs_long ∙ s.pairs_long;
    }

pub kept_at_entry : (x : KeptLists) → SameKept x x
kept_at_entry x = record { numbers = refl; spans = refl; boundaries = refl; numbers_long = refl; spans_long = refl; boundaries_long = refl }

pub still_kept : {x y z : KeptLists} → SameKept x y → SameKept y z → SameKept x z
still_kept s t =
    record {
      numbers = t.numbers ∙ s.numbers;
      spans = t.spans ∙ s.spans;
      boundaries = t.boundaries ∙ s.boundaries;
      numbers_long = t.numbers_long ∙ s.numbers_long;
      spans_long = t.spans_long ∙ s.spans_long;
      boundaries_long = t.boundaries_long ∙ s.boundaries_long;
    }
