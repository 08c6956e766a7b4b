-- The contract of the call that runs the passes to rest, over the lent records as they are declared, and the words of its parts' contracts. Definitions only;
-- assumes nothing.
use Rattle.std.specs.Prelude.{ℕ, zero, suc, ◌≡◌, List, map, length, drop, replicate}
use Rattle.definitions.specs.Lists.{overwrite}
use Rattle.definitions.specs.Partition.{region_count}
use Rattle.definitions.specs.RegionRecord.{empty_region}
use Rattle.definitions.specs.Context.{context_of}
use Rattle.definitions.specs.AtExit.{records_of}
use Rattle.context.specs.declared.Region.{Region}
use Rattle.context.specs.Records.{record_of}
use Rattle.rest_definitions.specs.RowOrder.{start_map}
use Rattle.rest_definitions.specs.Rest.{rested}
use Rattle.rest_definitions.specs.RestVerdict as def
use Rattle.rest.specs.RestCalls.{RestRan}
use Rattle.rest_lists.specs.declared.kept.Standing.{Standing}
use Rattle.rest_lists.specs.Kept.{Origin, map_lent, kept_of, KeptLists}
use Rattle.call_answers.specs.declared.rest_answers.RestKept.{RestKept}
use Rattle.topology.specs.Lent.{LentLists, LeftLists, lent_map, lent_call}

-- how many records a run that answers with this number writes, whose first partition has n regions
abbrev pub rest_written : ℕ → ℕ → ℕ
rest_written zero n = n
rest_written (suc number) n = 0

-- What was lent, the answer, and what was left. Records that are not written are as they were, not only as `record_of` shows them.
pub record RestRanOver (L : LentLists) (a : def.RestAnswer) (E : LeftLists) : Type 0 where
  pub ran : RestRan (lent_call 1 L) a E.labels E.masks E.queue E.tallies E.pairs (map record_of E.records) E.output
  pub beyond :
      drop (rest_written a.number (region_count (start_map (lent_map L)))) E.records ≡ drop (rest_written a.number (region_count (start_map (lent_map L)))) L.records

-- ---- between the passes

-- The lists of a run. The last three have the numbers, spans and boundaries that are kept in front.
pub record RunLists : Type 0 where
  pub labels : List ℕ
  pub masks : List ℕ
  pub queue : List ℕ
  pub tallies : List ℕ
  pub pairs : List ℕ
  pub records : List Region
  pub numbers : List ℕ
  pub spans : List ℕ
  pub boundaries : List ℕ

abbrev pub run-lists : (l m q t p : List ℕ) → List Region → (n b d : List ℕ) → RunLists
run-lists l m q t p s n b d = record { labels = l; masks = m; queue = q; tallies = t; pairs = p; records = s; numbers = n; spans = b; boundaries = d }

-- The lists stand as `KeptLists` says, and the records, that were lent as s, are those of what is kept, then empty ones as far as the first partition filled
-- them.
pub record Stands (w h : ℕ) (cells anchors : List ℕ) (O : Origin) (s : List Region) (places : List ℕ) (first standing : Standing) (R : RunLists) : Type 0 where
  pub lists :
      KeptLists w h cells anchors O (map record_of s) places first standing R.labels R.masks R.queue R.tallies R.pairs R.numbers R.spans R.boundaries
  pub long : length R.records ≡ length s
  pub records :
      map record_of R.records
      ≡ overwrite (records_of (context_of (kept_of (map_lent w h cells anchors O) places))) (overwrite (replicate first.regions empty_region) (map record_of s))
  pub beyond : drop first.regions R.records ≡ drop first.regions s

-- ---- the run

-- what a run comes to, as its loop leaves it
pub record RanToRest (w h : ℕ) (cells anchors : List ℕ) (O : Origin) (s : List Region) (first : Standing) (a : RestKept) (R : RunLists) : Type 0 where
  pub standing : Standing
  pub value : a.kept ≡ standing.kept
  pub rounds : a.rounds ≡ (rested (start_map (map_lent w h cells anchors O))).rounds
  pub stands : Stands w h cells anchors O s (rested (start_map (map_lent w h cells anchors O))).places first standing R
