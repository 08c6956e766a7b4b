-- What each lent list holds after the call that plays on the kept graph, for every answer, and the call's contract. Unquoted lines are as in document 01's table
-- (AtExit of definitions); quotations are of document 02, request 14. Definitions only; assumes nothing.
use Rattle.std.specs.Prelude.{ℕ, ◌≡◌, ◌||◌, cond, List, length, eqb}
use Rattle.definitions.specs.Grid.{cell_count, span_count}
use Rattle.definitions.specs.Partition.{labels, region_count}
use Rattle.definitions.specs.RegionRecord.{Region, empty_region}
use Rattle.definitions.specs.Context.{context_of}
use Rattle.definitions.specs.Rows.{rows_of, flat_rows}
use Rattle.definitions.specs.Verdict.{Lent, map_in, pair_rows_of}
use Rattle.definitions.specs.AtExit.{Stage, stage_of, tallies_of, records_of, scratch_at_exit, output_at_exit}
use Rattle.rest_definitions.specs.RestExit.{labels_rested, tallies_rested, pairs_rested, records_rested}
use Rattle.game.specs.Graph.{verdicts_at_exit}
use Rattle.game_calls.specs.KeptGraph.{graph_map, kept_game}
use Rattle.game_calls.specs.GameVerdict.{GameAnswer, game_verdict}

-- 23 and 24 come "both with the lists as on success"
unfoldable pub game_stage : ℕ → Stage
unfolding stage_of
game_stage number = stage_of (cond (eqb number 23 || eqb number 24) 0 number)

-- On success "this second partition, the kept rows, and zero where only the first partition filled"; a refusal leaves what the first partition leaves. The lists
-- of two partitions are those of running to rest, of a first map and a last.
unfoldable pub game_exit : Lent → ℕ → Lent
unfolding map_in game_stage graph_map labels cell_count span_count context_of tallies_of pair_rows_of records_of region_count empty_region flat_rows rows_of
game_exit L number =
    let first = map_in L in
    let second = graph_map L.pass first in
    let s = game_stage number in
    record {
      pass = L.pass;
      width = L.width;
      height = L.height;
      cells = L.cells;
      spans = L.spans;
      boundaries = L.boundaries;
      anchors = L.anchors;
      labels = labels_rested s first second L.labels;
      masks = scratch_at_exit s first L.masks;
      queue = scratch_at_exit s first L.queue;
      tallies = tallies_rested s first second L.tallies;
      pairs = pairs_rested s first second L.pairs;
      records = records_rested s first second L.records;
      output = output_at_exit s L.pass first L.output;
    }

-- What was lent, with goal and verdicts v; the answer; and at exit labels l, masks m, queue q, tallies t, pairs p, records s, output o and verdicts v'. The verdicts
-- are as they were where the call is refused.
pub record Played (L : Lent) (goal : ℕ) (v : List ℕ) (a : GameAnswer) (l m q t p : List ℕ) (s : List Region) (o v' : List ℕ) : Type 0 where
  pub answer : a ≡ game_verdict L goal (length v)
  pub labels : l ≡ (game_exit L a.number).labels
  pub masks : m ≡ (game_exit L a.number).masks
  pub queue : q ≡ (game_exit L a.number).queue
  pub tallies : t ≡ (game_exit L a.number).tallies
  pub pairs : p ≡ (game_exit L a.number).pairs
  pub records : s ≡ (game_exit L a.number).records
  pub output : o ≡ (game_exit L a.number).output
  pub verdicts : v' ≡ verdicts_at_exit (kept_game L.pass (map_in L) goal) v a.number
