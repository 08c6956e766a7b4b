-- What each lent list holds after the call that runs to rest, for every answer. Unquoted lines are as in the table of SPECIFICATION 4 (AtExit of definitions);
-- quotations are of document 02, request 4. Definitions only. Assumes nothing.
use Rattle.std.specs.Prelude.{ℕ, ◌*◌, List, length, replicate}
use Rattle.definitions.specs.Limits.{tallies_per_span}
use Rattle.definitions.specs.Grid.{Map, cell_count, span_count}
use Rattle.definitions.specs.Partition.{labels, region_count}
use Rattle.definitions.specs.RegionRecord.{Region, empty_region}
use Rattle.definitions.specs.Context.{context_of}
use Rattle.definitions.specs.Rows.{flat_rows}
use Rattle.definitions.specs.Lists.{overwrite, zeroed}
use Rattle.definitions.specs.Verdict.{Lent, map_in, pair_rows_of}
use Rattle.definitions.specs.AtExit.{Stage, untouched, labelled, tallied, complete, stage_of, tallies_of, records_of, labels_at_exit, scratch_at_exit, tallies_at_exit, pairs_at_exit, records_at_exit}
use Rattle.rest_definitions.specs.RowOrder.{start_map}
use Rattle.rest_definitions.specs.Rest.{last_map, rest_rows}

-- On success "the lent lists hold the last pass's partition with its span numbers; tally, pair and record entries that only earlier passes filled are zero".
-- The first pass fills the most entries of each (`FewerPairs.antt`): so these lists are first cleared as far as it filled them. A refusal leaves what the
-- first pass leaves. The arguments are the map of the first pass and that of the last.
abbrev pub labels_rested : Stage → Map → Map → List ℕ → List ℕ
labels_rested untouched F L old = old
labels_rested labelled F L old = labels_at_exit labelled F old
labels_rested tallied F L old = labels_at_exit tallied F old
labels_rested complete F L old = overwrite (labels L) old

abbrev pub tallies_rested : Stage → Map → Map → List ℕ → List ℕ
tallies_rested untouched F L old = old
tallies_rested labelled F L old = tallies_at_exit labelled F old
tallies_rested tallied F L old = tallies_at_exit tallied F old
tallies_rested complete F L old = overwrite (tallies_of (context_of L)) (zeroed (tallies_per_span * span_count F) old)

abbrev pub pairs_rested : Stage → Map → Map → List ℕ → List ℕ
pairs_rested untouched F L old = old
pairs_rested labelled F L old = pairs_at_exit labelled F old
pairs_rested tallied F L old = pairs_at_exit tallied F old
pairs_rested complete F L old = overwrite (pair_rows_of (context_of L)) (zeroed (length (pair_rows_of (context_of F))) old)

abbrev pub records_rested : Stage → Map → Map → List Region → List Region
records_rested untouched F L old = old
records_rested labelled F L old = records_at_exit labelled F old
records_rested tallied F L old = records_at_exit tallied F old
records_rested complete F L old = overwrite (records_of (context_of L)) (overwrite (replicate (region_count F) empty_region) old)

-- the rows are written once, at the end: entries beyond them stay as they were
abbrev pub output_rested : Stage → Map → List ℕ → List ℕ
output_rested untouched M old = old
output_rested labelled M old = old
output_rested tallied M old = old
output_rested complete M old = overwrite (flat_rows (rest_rows M)) old

-- after the call answered with this number
unfoldable pub rest_exit : Lent → ℕ → Lent
unfolding map_in stage_of start_map last_map labels cell_count span_count context_of tallies_of pair_rows_of records_of region_count empty_region flat_rows rest_rows
rest_exit L number =
    let M = map_in L in
    let first = start_map M in
    let last = last_map M in
    let s = stage_of number in
    record {
      pass = L.pass;
      width = L.width;
      height = L.height;
      cells = L.cells;
      spans = L.spans;
      boundaries = L.boundaries;
      anchors = L.anchors;
      labels = labels_rested s first last L.labels;
      masks = scratch_at_exit s M L.masks;
      queue = scratch_at_exit s M L.queue;
      tallies = tallies_rested s first last L.tallies;
      pairs = pairs_rested s first last L.pairs;
      records = records_rested s first last L.records;
      output = output_rested s M L.output;
    }
