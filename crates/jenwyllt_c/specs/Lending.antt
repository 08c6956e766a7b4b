-- What C lends to a call over region records, and what the call leaves, list by list in the order of C's parameters. Definitions only; assumes nothing.
use Rattle.std.specs.Prelude.{ℕ, List}
use Rattle.context.specs.declared.Region.{Region}
use Rattle.topology.specs.Lent.{LentLists, LeftLists}

-- both sides, what the call reads, and what it fills
abbrev pub lends : ℕ → ℕ → List ℕ → List ℕ → List ℕ → List ℕ → List ℕ → List ℕ → List ℕ → List ℕ → List ℕ → List Region → List ℕ → LentLists
lends width height cells spans boundaries anchors labels masks queue tallies pairs records output =
    record {
      width = width;
      height = height;
      cells = cells;
      spans = spans;
      boundaries = boundaries;
      anchors = anchors;
      labels = labels;
      masks = masks;
      queue = queue;
      tallies = tallies;
      pairs = pairs;
      records = records;
      output = output;
    }

abbrev pub leaves : List ℕ → List ℕ → List ℕ → List ℕ → List ℕ → List Region → List ℕ → LeftLists
leaves labels masks queue tallies pairs records output =
    record {
      labels = labels;
      masks = masks;
      queue = queue;
      tallies = tallies;
      pairs = pairs;
      records = records;
      output = output;
    }
