-- The contract of the call that runs a pass: the answer and every lent list at exit, for every input, by `verdict` and `call_exit`. Assumes nothing.
use Rattle.std.specs.Prelude.{ℕ, ◌≡◌, List}
use Rattle.definitions.specs.RegionRecord.{Region}
use Rattle.definitions.specs.Verdict.{Lent, Answer, verdict}
use Rattle.definitions.specs.AtExit.{call_exit}

-- what is lent to the call
abbrev pub given : ℕ → ℕ → ℕ → List ℕ → List ℕ → List ℕ → List ℕ → List ℕ → List ℕ → List ℕ → List ℕ → List ℕ → List Region → List ℕ → Lent
given pass w h cells spans boundaries anchors labels masks queue tallies pairs records output =
    record {
      pass = pass;
      width = w;
      height = h;
      cells = cells;
      spans = spans;
      boundaries = boundaries;
      anchors = anchors;
      labels = labels;
      masks = masks;
      queue = queue;
      tallies = tallies;
      pairs = pairs;
      records = records;
      output = output;
    }

-- what was lent, the answer, and at exit labels l, masks m, queue q, tallies t, pairs p, records s and output o
pub record Ran (L : Lent) (a : Answer) (l m q t p : List ℕ) (s : List Region) (o : List ℕ) : Type 0 where
  pub answer : a ≡ verdict L
  pub labels : l ≡ (call_exit L a.number).labels
  pub masks : m ≡ (call_exit L a.number).masks
  pub queue : q ≡ (call_exit L a.number).queue
  pub tallies : t ≡ (call_exit L a.number).tallies
  pub pairs : p ≡ (call_exit L a.number).pairs
  pub records : s ≡ (call_exit L a.number).records
  pub output : o ≡ (call_exit L a.number).output
