-- What is lent to a call over region records, and what it leaves, by name: the contracts of the calls take these two. Definitions only; assumes nothing.
use Rattle.std.specs.Prelude.{ℕ, List, map}
use Rattle.definitions.specs.Grid.{Map, map_of}
use Rattle.definitions.specs.Verdict as verdict
use Rattle.context.specs.declared.Region.{Region}
use Rattle.context.specs.Records.{record_of}

-- the sides, the lists that a call reads, and those that it fills, at entry
pub record LentLists : Type 0 where
  pub width : ℕ
  pub height : ℕ
  pub cells : List ℕ
  pub spans : List ℕ
  pub boundaries : List ℕ
  pub anchors : List ℕ
  pub labels : List ℕ
  pub masks : List ℕ
  pub queue : List ℕ
  pub tallies : List ℕ
  pub pairs : List ℕ
  pub records : List Region
  pub output : List ℕ

-- the lists that it fills, at exit
pub record LeftLists : Type 0 where
  pub labels : List ℕ
  pub masks : List ℕ
  pub queue : List ℕ
  pub tallies : List ℕ
  pub pairs : List ℕ
  pub records : List Region
  pub output : List ℕ

abbrev pub lent_map : LentLists → Map
lent_map L = map_of L.width L.height L.cells L.spans L.boundaries L.anchors

-- as the definitions have it: with a pass, and the records as `record_of` shows them
abbrev pub lent_call : ℕ → LentLists → verdict.Lent
lent_call pass L =
    record {
      pass = pass;
      width = L.width;
      height = L.height;
      cells = L.cells;
      spans = L.spans;
      boundaries = L.boundaries;
      anchors = L.anchors;
      labels = L.labels;
      masks = L.masks;
      queue = L.queue;
      tallies = L.tallies;
      pairs = L.pairs;
      records = map record_of L.records;
      output = L.output;
    }

-- ---- the same, of what is asked and the lists one by one, in this order

abbrev pub lends : (w h : ℕ) (cells spans boundaries anchors l m q t p : List ℕ) → List Region → List ℕ → LentLists
lends w h cells spans boundaries anchors l m q t p s o =
    record {
      width = w;
      height = h;
      cells = cells;
      spans = spans;
      boundaries = boundaries;
      anchors = anchors;
      labels = l;
      masks = m;
      queue = q;
      tallies = t;
      pairs = p;
      records = s;
      output = o;
    }

abbrev pub leaves : (l m q t p : List ℕ) → List Region → List ℕ → LeftLists
leaves l m q t p s o = record { labels = l; masks = m; queue = q; tallies = t; pairs = p; records = s; output = o }
