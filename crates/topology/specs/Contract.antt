-- The contract of the call that runs a pass, over the lent records as they are declared. Definitions only; assumes nothing.
use Rattle.std.specs.Prelude.{ℕ, zero, suc, min, ◌≡◌, List, map, drop, replicate}
use Rattle.definitions.specs.Partition.{region_count}
use Rattle.definitions.specs.RegionRecord.{empty_region}
use Rattle.definitions.specs.RegionRecord as def
use Rattle.definitions.specs.Verdict as verdict
use Rattle.context.specs.Records.{record_of}
use Rattle.call_partition.specs.Contract.{Ran}
use Rattle.topology.specs.Numbers.{with_records}
use Rattle.topology.specs.Lent.{LentLists, LeftLists, lent_map, lent_call}

-- how many records a call that answers with this number writes, of a map of n regions
abbrev pub written : ℕ → ℕ → ℕ
written zero n = n
written (suc number) n = 0

-- What was lent, the answer, and what was left. Records that are not written are as they were, not only as `record_of` shows them.
pub record RanOver (pass : ℕ) (L : LentLists) (a : verdict.Answer) (E : LeftLists) : Type 0 where
  pub ran : Ran (lent_call pass L) a E.labels E.masks E.queue E.tallies E.pairs (map record_of E.records) E.output
  pub beyond : drop (written a.number (region_count (lent_map L))) E.records ≡ drop (written a.number (region_count (lent_map L))) L.records

-- ---- the call with records of its own

-- it has so many
abbrev pub records_here : ℕ
records_here = 512

-- what is lent to it: of its records as many as there is `room` for, and `numbers`, in which it writes them
pub record LentHere : Type 0 where
  pub width : ℕ
  pub height : ℕ
  pub cells : List ℕ
  pub spans : List ℕ
  pub boundaries : List ℕ
  pub anchors : List ℕ
  pub labels : List ℕ
  pub masks : List ℕ
  pub queue : List ℕ
  pub tallies : List ℕ
  pub pairs : List ℕ
  pub room : ℕ
  pub output : List ℕ
  pub numbers : List ℕ

-- the lists that it fills, at exit
pub record LeftHere : Type 0 where
  pub labels : List ℕ
  pub masks : List ℕ
  pub queue : List ℕ
  pub tallies : List ℕ
  pub pairs : List ℕ
  pub output : List ℕ
  pub numbers : List ℕ

abbrev pub lends_here : (w h : ℕ) (cells spans boundaries anchors l m q t p : List ℕ) → ℕ → (o n : List ℕ) → LentHere
lends_here w h cells spans boundaries anchors l m q t p room o n =
    record {
      width = w;
      height = h;
      cells = cells;
      spans = spans;
      boundaries = boundaries;
      anchors = anchors;
      labels = l;
      masks = m;
      queue = q;
      tallies = t;
      pairs = p;
      room = room;
      output = o;
      numbers = n;
    }

abbrev pub leaves_here : (l m q t p o n : List ℕ) → LeftHere
leaves_here l m q t p o n = record { labels = l; masks = m; queue = q; tallies = t; pairs = p; output = o; numbers = n }

-- as the definitions have it: with `room` of its records, or all where it has no more, that are empty at entry
abbrev pub here_call : ℕ → LentHere → verdict.Lent
here_call pass L =
    record {
      pass = pass;
      width = L.width;
      height = L.height;
      cells = L.cells;
      spans = L.spans;
      boundaries = L.boundaries;
      anchors = L.anchors;
      labels = L.labels;
      masks = L.masks;
      queue = L.queue;
      tallies = L.tallies;
      pairs = L.pairs;
      records = replicate (min L.room records_here) empty_region;
      output = L.output;
    }

-- the records at exit are written in front of the numbers
pub record RanHere (pass : ℕ) (L : LentHere) (a : verdict.Answer) (E : LeftHere) : Type 0 where
  pub records : List def.Region
  pub ran : Ran (here_call pass L) a E.labels E.masks E.queue E.tallies E.pairs records E.output
  pub numbers : E.numbers ≡ with_records records L.numbers
