-- The contract of the partition: the answer and every lent list at exit, for every input, by `partition_verdict` and `partition_exit`. Assumes nothing.
use Rattle.std.specs.Prelude.{ℕ, ◌*◌, ◌/◌, ◌≡◌, List, [], length, Option, Result}
use Rattle.definitions.specs.Limits.{numbers_per_span}
use Rattle.definitions.specs.Refusals.{Refusal, or_else, unless, sides_fault, cells_fault, is_whole, spans_refusal, partition_room}
use Rattle.definitions.specs.Verdict.{Lent, refusal, partition_verdict}
use Rattle.definitions.specs.AtExit.{partition_exit}
use Rattle.refusals.specs.declared.Refusal as code
use Rattle.refusals.specs.Answers.{answer_of}

-- what is lent to the partition alone
abbrev pub given : ℕ → ℕ → List ℕ → List ℕ → List ℕ → List ℕ → List ℕ → List ℕ → List ℕ → Lent
given w h cells spans labels masks queue tallies pairs =
    record {
      pass = 0;
      width = w;
      height = h;
      cells = cells;
      spans = spans;
      boundaries = [];
      anchors = [];
      labels = labels;
      masks = masks;
      queue = queue;
      tallies = tallies;
      pairs = pairs;
      records = [];
      output = [];
    }

-- The first refusal of checks 1, 2, 3, 5, 6 and 10: all that the partition alone can be refused with before it begins. Of labels, masks, queue and tallies only
-- the lengths matter.
unfoldable pub early_refusal : ℕ → ℕ → List ℕ → List ℕ → ℕ → ℕ → ℕ → ℕ → Option Refusal
unfolding spans_refusal
early_refusal w h cells spans labels masks queue tallies =
    or_else (refusal 1 (sides_fault w h))
    (or_else (refusal 2 (cells_fault w h cells))
    (or_else (refusal 3 (unless (is_whole numbers_per_span spans)))
    (or_else (spans_refusal w h spans) (refusal 10 (unless (partition_room (w * h) (length spans / numbers_per_span) labels masks queue tallies))))))

-- what was lent, the answer, and at exit labels l, masks m, queue q, tallies t and pairs p
pub record Ran (L : Lent) (r : Result ℕ code.Refusal) (l m q t p : List ℕ) : Type 0 where
  pub answer : answer_of r ≡ partition_verdict L
  pub labels : l ≡ (partition_exit L (answer_of r).number).labels
  pub masks : m ≡ (partition_exit L (answer_of r).number).masks
  pub queue : q ≡ (partition_exit L (answer_of r).number).queue
  pub tallies : t ≡ (partition_exit L (answer_of r).number).tallies
  pub pairs : p ≡ (partition_exit L (answer_of r).number).pairs
