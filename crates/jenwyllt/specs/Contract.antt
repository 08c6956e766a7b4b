-- The contracts of the exported partition and reader: those of `areas::partition` and `sheet::read_sheet`, with the answer as numbers. Definitions only;
-- assumes nothing.
use Rattle.std.specs.Prelude.{ℕ, ◌≡◌, List, Result, Ok, Err}
use Rattle.definitions.specs.Verdict.{Lent, partition_verdict}
use Rattle.definitions.specs.AtExit.{partition_exit}
use Rattle.definitions.specs.Refusals.{Refusal}
use Rattle.definitions.specs.Sheet.{Reading, at_exit}
use Rattle.sheet.specs.Contract.{answer_of}
use Rattle.sheet.specs.declared.Header.{Header}
use Rattle.refusals.specs.Answers.{answer_in}
use Rattle.refusals.specs.declared.answers.Answer as refusals
use Rattle.jenwyllt.specs.declared.JenwylltSheet.{JenwylltSheet}

-- what was lent, the answer, and at exit labels l, masks m, queue q, tallies t and pairs p
pub record Partitions (L : Lent) (r : refusals.Answer) (l m q t p : List ℕ) : Type 0 where
  pub answer : answer_in r ≡ partition_verdict L
  pub labels : l ≡ (partition_exit L r.number).labels
  pub masks : m ≡ (partition_exit L r.number).masks
  pub queue : q ≡ (partition_exit L r.number).queue
  pub tallies : t ≡ (partition_exit L r.number).tallies
  pub pairs : p ≡ (partition_exit L r.number).pairs

-- document 01's number and place of the reader's answer, and what the sheet opens with, which is 0 throughout where it is refused
abbrev pub sheet_in : Result Header Refusal → JenwylltSheet
sheet_in (Ok header) =
    record {
      number = 0;
      place = 0;
      pass = header.pass;
      width = header.width;
      height = header.height;
      spans = header.spans;
      boundaries = header.boundaries;
      anchors = header.anchors;
    }
sheet_in (Err refusal) = record { number = refusal.number; place = refusal.place; pass = 0; width = 0; height = 0; spans = 0; boundaries = 0; anchors = 0 }

-- what the bytes read as, the lists at entry, the answer, and the lists at exit
pub record Reads (reading : Reading) (cells spans boundaries anchors : List ℕ) (r : JenwylltSheet) (cells' spans' boundaries' anchors' : List ℕ) : Type 0 where
  pub answer : r ≡ sheet_in (answer_of reading)
  pub cells_left : cells' ≡ at_exit (λ s. s.cells) reading cells
  pub spans-left : spans' ≡ at_exit (λ s. s.spans) reading spans
  pub boundaries-left : boundaries' ≡ at_exit (λ s. s.boundaries) reading boundaries
  pub anchors-left : anchors' ≡ at_exit (λ s. s.anchors) reading anchors
