-- The contract of the call that plays on the kept graph, over the lent records as they are declared, and the words of its part behind the first partition.
-- Definitions only; assumes nothing.
use Rattle.std.specs.Prelude.{ℕ, ◌*◌, ◌≡◌, List, map, length, drop, replicate}
use Rattle.definitions.specs.Limits.{tallies_per_span, numbers_per_pair}
use Rattle.definitions.specs.Lists.{overwrite, zeroed}
use Rattle.definitions.specs.Grid.{span_count}
use Rattle.definitions.specs.Partition.{region_count}
use Rattle.definitions.specs.Partition as partition
use Rattle.definitions.specs.RegionRecord.{empty_region}
use Rattle.definitions.specs.Context.{context_of}
use Rattle.definitions.specs.Rows.{rows_of, flat_rows}
use Rattle.definitions.specs.Verdict.{pair_rows_of}
use Rattle.definitions.specs.AtExit.{Stage, untouched, labelled, tallied, complete, tallies_of, records_of}
use Rattle.context.specs.Records.{record_of}
use Rattle.game_calls.specs.KeptGraph.{graph_map}
use Rattle.game_calls.specs.GameVerdict.{GameAnswer}
use Rattle.game_calls.specs.GameExit.{game_stage, Played}
use Rattle.game_lists.specs.Prepared.{GameReady}
use Rattle.rest_lists.specs.declared.kept.Standing.{Standing}
use Rattle.topology.specs.Lent.{LentLists, LeftLists, lent_map, lent_call}

-- ---- the call

-- how many records are written, of a map of n regions
abbrev pub written_at : Stage → ℕ → ℕ
written_at untouched n = 0
written_at labelled n = 0
written_at tallied n = 0
written_at complete n = n

-- What was lent, with the goal and the verdicts as they `were`; the answer; and what was left, with the verdicts as they are. Records that are not written are
-- as they were, not only as `record_of` shows them.
pub record PlayedOver (pass : ℕ) (L : LentLists) (goal : ℕ) (were : List ℕ) (a : GameAnswer) (E : LeftLists) (verdicts : List ℕ) : Type 0 where
  pub played : Played (lent_call pass L) goal were a E.labels E.masks E.queue E.tallies E.pairs (map record_of E.records) E.output verdicts
  pub beyond :
      drop (written_at (game_stage a.number) (region_count (lent_map L))) E.records ≡ drop (written_at (game_stage a.number) (region_count (lent_map L))) L.records

-- ---- behind the first partition

-- the lists as they were lent, and how long the list of verdicts is
pub record Begun : Type 0 where
  pub verdicts : ℕ
  pub labels : List ℕ
  pub masks : List ℕ
  pub queue : List ℕ
  pub tallies : List ℕ
  pub pairs : List ℕ

-- L is what is lent behind the first partition
pub record RunsKept (B : Begun) (pass : ℕ) (L : LentLists) (regions rows : ℕ) : Type 0 where
  pub ready :
      GameReady pass L.width L.height L.cells L.spans L.boundaries L.anchors (length L.records) (length L.output) B.verdicts
      B.labels B.masks B.queue B.tallies B.pairs regions rows L.labels L.masks L.queue L.tallies L.pairs
  pub labels_long : length L.labels ≡ length B.labels
  pub masks_long : length L.masks ≡ length B.masks
  pub queue_long_lem : length L.queue ≡ length B.queue
  pub tallies_long : length L.tallies ≡ length B.tallies
  pub pairs_long : length L.pairs ≡ length B.pairs

-- records and output are filled, and the other lists are those of the second partition
pub record RanKept (B : Begun) (pass : ℕ) (L : LentLists) (r : Standing) (E : LeftLists) : Type 0 where
  pub kept : r.kept ≡ length (rows_of pass (lent_map L))
  pub regions : r.regions ≡ region_count (graph_map pass (lent_map L))
  pub rows : numbers_per_pair * r.rows ≡ length (pair_rows_of (context_of (graph_map pass (lent_map L))))
  pub labels : E.labels ≡ overwrite (partition.labels (graph_map pass (lent_map L))) B.labels
  pub masks : E.masks ≡ zeroed (L.height * L.width) B.masks
  pub queue : E.queue ≡ zeroed (L.height * L.width) B.queue
  pub tallies : E.tallies
      ≡ overwrite (tallies_of (context_of (graph_map pass (lent_map L)))) (zeroed (tallies_per_span * span_count (lent_map L)) B.tallies)
  pub pairs : E.pairs
      ≡ overwrite (pair_rows_of (context_of (graph_map pass (lent_map L)))) (zeroed (length (pair_rows_of (context_of (lent_map L)))) B.pairs)
  pub records : map record_of E.records
      ≡ overwrite (records_of (context_of (graph_map pass (lent_map L)))) (overwrite (replicate (region_count (lent_map L)) empty_region) (map record_of L.records))
  pub beyond : drop (region_count (lent_map L)) E.records ≡ drop (region_count (lent_map L)) L.records
  pub output : E.output ≡ overwrite (flat_rows (rows_of pass (lent_map L))) L.output
