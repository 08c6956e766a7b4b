-- The words of the contract of `divide_kept`. Definitions only; assumes nothing.
use Rattle.std.specs.Prelude.{ℕ, ◌*◌, ◌<◌, ◌≡◌, Bool, false, List, length, get_or, drop, None}
use Rattle.definitions.specs.Limits.{tallies_per_span, numbers_per_pair}
use Rattle.definitions.specs.Scan.{member}
use Rattle.definitions.specs.Lists.{overwrite, zeroed}
use Rattle.definitions.specs.Grid.{span_count}
use Rattle.definitions.specs.Partition.{labels, region_count}
use Rattle.definitions.specs.RegionRecord.{Region}
use Rattle.definitions.specs.Context.{context_of}
use Rattle.definitions.specs.Rows.{removed_of}
use Rattle.definitions.specs.Verdict.{Lent, map_in, pair_rows_of}
use Rattle.definitions.specs.AtExit.{tallies_of}
use Rattle.laws.specs.TableLaws.AcceptedCalls.{Accepted}
use Rattle.row_runs.specs.Contract.{Chain}
use Rattle.call_partition.specs.Contract.{given}
use Rattle.rest_definitions.specs.RestVerdict.{lists_fault}
use Rattle.game_calls.specs.KeptGraph.{graph_map}
use Rattle.call_partition.specs.declared.Ready.{Ready}

-- what is lent to a call of a pass beside the sides, the cells and the spans
pub record Source : Type 0 where
  pub pass : ℕ
  pub boundaries : List ℕ
  pub anchors : List ℕ
  pub labels : List ℕ
  pub masks : List ℕ
  pub queue : List ℕ
  pub tallies : List ℕ
  pub pairs : List ℕ
  pub records : List Region
  pub output : List ℕ

abbrev pub lent_of : ℕ → ℕ → List ℕ → List ℕ → Source → Lent
lent_of w h cells spans S =
    given S.pass w h cells spans S.boundaries S.anchors S.labels S.masks S.queue S.tallies S.pairs S.records S.output

-- The call L is accepted, 16 does not refuse it, and the marks say what its pass removes; its map has so many rows of pairs. The lists to fill are as long as
-- those lent to it, and there is as much room for records.
pub record Divides (L : Lent) (removed : List Bool) (rows room : ℕ) (l m q t p : List ℕ) : Type 0 where
  pub accepted : Accepted L
  pub lists : lists_fault L.spans L.boundaries ≡ None
  pub marked : (i : ℕ) → i < length (map_in L).boundaries → get_or removed i false ≡ member i (removed_of L.pass (map_in L))
  pub row_count_lem : numbers_per_pair * rows ≡ length (pair_rows_of (context_of (map_in L)))
  pub records_long : length L.records ≡ room
  pub labels_long : length l ≡ length L.labels
  pub masks_long : length m ≡ length L.masks
  pub queue_long_lem : length q ≡ length L.queue
  pub tallies_long : length t ≡ length L.tallies
  pub pairs_long : length p ≡ length L.pairs

-- Labels, tallies and pairs are those of the kept graph; beyond them, as far as the first partition filled, zero. The queue has the stretches, from the first
-- cell on; masks and queue are written over the needed length alone.
pub record DividedKept (L : Lent) (l m q t p : List ℕ) (r : Ready) (l' m' q' t' p' : List ℕ) : Type 0 where
  pub count : r.regions ≡ region_count (graph_map L.pass (map_in L))
  pub row_count_lem : numbers_per_pair * r.rows ≡ length (pair_rows_of (context_of (graph_map L.pass (map_in L))))
  pub filled : l' ≡ overwrite (labels (graph_map L.pass (map_in L))) l
  pub masks : drop (L.height * L.width) m' ≡ drop (L.height * L.width) m
  pub chain : Chain (graph_map L.pass (map_in L)) q' 0
  pub queue : drop (L.height * L.width) q' ≡ drop (L.height * L.width) q
  pub tallied : t' ≡ overwrite (tallies_of (context_of (graph_map L.pass (map_in L)))) (zeroed (tallies_per_span * span_count (map_in L)) t)
  pub paired : p' ≡ overwrite (pair_rows_of (context_of (graph_map L.pass (map_in L)))) (zeroed (length (pair_rows_of (context_of (map_in L)))) p)
