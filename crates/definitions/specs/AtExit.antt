-- What each lent list holds at exit, for every answer, as the table of SPECIFICATION 4 and the paragraph under it say; quotations are of document 01, which it restates. Assumes nothing.
use Rattle.std.specs.Prelude.{ℕ, ◌*◌, cond, List, [], ◌∷◌, map, length, eqb}
use Rattle.definitions.specs.Limits.{tallies_per_span}
use Rattle.definitions.specs.Scan.{gather, run}
use Rattle.definitions.specs.Grid.{Map, cell_count, span_count}
use Rattle.definitions.specs.Partition.{labels}
use Rattle.definitions.specs.RegionRecord.{Region}
use Rattle.definitions.specs.Context.{Context, context_of}
use Rattle.definitions.specs.Rows.{rows_of, flat_rows}
use Rattle.definitions.specs.Lists.{overwrite, zeroed}
use Rattle.definitions.specs.Verdict.{Lent, map_in, pair_rows_of}

-- ---- the data that the lists are filled with; labels, pair rows and output rows stand with their definitions

-- "tallies (2 per span)": removed and separated edge counts
unfoldable pub tallies_of : Context → List ℕ
unfolding gather
tallies_of C = gather C.count (λ s. C.removed_edges s ∷ C.separated_edges s ∷ [])

-- "Region records lie in one lent list, one record a region": region r's is at r - 1
unfoldable pub records_of : Context → List Region
unfolding run
records_of C = map C.region (run 1 C.regions)

-- ---- the lists at exit

-- how far the table lets a call go, by its number: all lists as they were; 11; 12; success
pub data Stage : Type 0 where
  untouched labelled tallied complete : Stage

unfoldable pub stage_of : ℕ → Stage
stage_of number = cond (eqb number 0) complete (cond (eqb number 11) labelled (cond (eqb number 12) tallied untouched))

-- "labels are filled" for 11 and 12 as on success
abbrev pub labels_at_exit : Stage → Map → List ℕ → List ℕ
labels_at_exit untouched M old = old
labels_at_exit labelled M old = overwrite (labels M) old
labels_at_exit tallied M old = overwrite (labels M) old
labels_at_exit complete M old = overwrite (labels M) old

-- "masks and queue over the needed length" are zero for 11 and 12 as on success
abbrev pub scratch_at_exit : Stage → Map → List ℕ → List ℕ
scratch_at_exit untouched M old = old
scratch_at_exit labelled M old = zeroed (cell_count M) old
scratch_at_exit tallied M old = zeroed (cell_count M) old
scratch_at_exit complete M old = zeroed (cell_count M) old

-- for 11 zero "over all spans"; for 12 filled
abbrev pub tallies_at_exit : Stage → Map → List ℕ → List ℕ
tallies_at_exit untouched M old = old
tallies_at_exit labelled M old = zeroed (tallies_per_span * span_count M) old
tallies_at_exit tallied M old = overwrite (tallies_of (context_of M)) old
tallies_at_exit complete M old = overwrite (tallies_of (context_of M)) old

-- for 11 as they were; for 12 zero "over the lent list"
abbrev pub pairs_at_exit : Stage → Map → List ℕ → List ℕ
pairs_at_exit untouched M old = old
pairs_at_exit labelled M old = old
pairs_at_exit tallied M old = zeroed (length old) old
pairs_at_exit complete M old = overwrite (pair_rows_of (context_of M)) old

abbrev pub records_at_exit : Stage → Map → List Region → List Region
records_at_exit untouched M old = old
records_at_exit labelled M old = old
records_at_exit tallied M old = old
records_at_exit complete M old = overwrite (records_of (context_of M)) old

abbrev pub output_at_exit : Stage → ℕ → Map → List ℕ → List ℕ
output_at_exit untouched pass M old = old
output_at_exit labelled pass M old = old
output_at_exit tallied pass M old = old
output_at_exit complete pass M old = overwrite (flat_rows (rows_of pass M)) old

-- all that was lent, with the lists that the partition fills as they are at this stage, and these records and output
unfoldable pub exit_with : Lent → Stage → List Region → List ℕ → Lent
unfolding map_in labels cell_count span_count context_of tallies_of pair_rows_of
exit_with L s records output =
    let M = map_in L in
    record {
      pass = L.pass;
      width = L.width;
      height = L.height;
      cells = L.cells;
      spans = L.spans;
      boundaries = L.boundaries;
      anchors = L.anchors;
      labels = labels_at_exit s M L.labels;
      masks = scratch_at_exit s M L.masks;
      queue = scratch_at_exit s M L.queue;
      tallies = tallies_at_exit s M L.tallies;
      pairs = pairs_at_exit s M L.pairs;
      records = records;
      output = output;
    }

-- after the call that runs a pass answered with this number
unfoldable pub call_exit : Lent → ℕ → Lent
unfolding exit_with stage_of map_in context_of records_of rows_of flat_rows
call_exit L number = exit_with L (stage_of number) (records_at_exit (stage_of number) (map_in L) L.records) (output_at_exit (stage_of number) L.pass (map_in L) L.output)

-- after the partition alone, which is lent neither records nor output, did
unfoldable pub partition_exit : Lent → ℕ → Lent
unfolding exit_with stage_of
partition_exit L number = exit_with L (stage_of number) L.records L.output
