-- What the prepared lists (`ReadyAs`) show, as the rest of the call asks it: the filling of the records, `view`, the passes and `finish`. Assumes nothing.
use Prim.Native.Nat.{ℕ, ◌*◌, ◌/◌, ◌≤◌, ◌<◌}
use native.Mathlib.Omega.{arith}
use mathlib.Core.Path.{◌≡◌, refl, ap, ◌∙◌}
use mathlib.Core.List.{List}
use lib.ListN.{length, drop, length-append, length-map}
use Rattle.definitions.specs.Limits.{max_entries, numbers_per_span, numbers_per_boundary}
use Rattle.definitions.specs.Scan.{run}
use Rattle.definitions.specs.Grid.{Map, map_of, no_boundary, boundary_at, boundary_of, cell_count, span_count}
use Rattle.definitions.specs.Partition.{labels}
use Rattle.definitions.specs.Context.{context_of}
use Rattle.laws.specs.ListLaws.Lists.{length_run, get_d_tab}
use Rattle.laws.specs.RegionLaws.Regions.{labels_length}
use Rattle.laws.specs.FloatLaws.MapPixels.{side-bounds}
use Rattle.areas.proofs.Dividing.{labels-shown}
use Rattle.stretches.specs.Queue.{Shown}
use Rattle.stretches.proofs.LowElevations.{low-elevations}
use Rattle.context.proofs.AnchorLaws.{map-anchors}
use Rattle.context.specs.Shown.{ShownBoundaries, ShownTallies}
use Rattle.context.proofs.ShownLaws.{map_rows}
use Rattle.call_partition.specs.Prepared.{ReadyAs}
use Rattle.pass_lists.specs.Contract.{Partitioned}
use Rattle.pass_lists.specs.Finished.{Finishes}
use Rattle.pass_lists.proofs.Tallies.{tallies-shown}
use Rattle.pass_lists.proofs.AfterChecks.{ready-accepted, ready-sides, ready-fit, boundaries-few, output-fits, anchor-column, anchor-row, anchor-on_grid}

-- ---- how many spans and boundaries the map of a call has

module _ (w h : ℕ) (cells spans boundaries anchors : List ℕ) where
  abbrev lent : Map
  lent = map_of w h cells spans boundaries anchors

  pub spans-lent : (context_of lent).count ≡ length spans / numbers_per_span
  unfolding context_of span_count map_of
  spans-lent = length-map (run 0 (length spans / 4)) _ ∙ length_run 0 (length spans / 4)

  pub boundaries-lent : length lent.boundaries ≡ length boundaries / numbers_per_boundary
  unfolding map_of
  boundaries-lent = length-map (run 0 (length boundaries / 9)) _ ∙ length_run 0 (length boundaries / 9)

  pub boundary-lent : (i : ℕ) → i < length boundaries / numbers_per_boundary → boundary_of lent i ≡ boundary_at boundaries (numbers_per_boundary * i)
  unfolding boundary_of map_of
  boundary-lent i l = get_d_tab (λ i. boundary_at boundaries (9 * i)) no_boundary (length boundaries / 9) i l

-- ---- what the lists show

module _ {pass w h : ℕ} {cells spans boundaries anchors : List ℕ} {room output : ℕ} {l m q t p : List ℕ} {regions rows : ℕ} {l' m' q' t' p' : List ℕ}
    (R : ReadyAs pass w h cells spans boundaries anchors room output l m q t p regions rows l' m' q' t' p') where
  abbrev M : Map
  M = map_of w h cells spans boundaries anchors

  labels_long_lem : cell_count M ≤ length l'
  labels_long_lem = omega (arith, ap length R.filled, length-append (labels M) (drop (length (labels M)) l), labels_length M)

  cells_long_lem : length cells ≡ cell_count M
  unfolding cell_count map_of
  cells_long_lem = (ready-fit R).checked.cells_long

  count-few : (context_of M).count ≤ max_entries
  count-few = omega (arith, spans-lent w h cells spans boundaries anchors, (ready-fit R).few)

  -- what filling the records asks
  pub ready-shown : length q' ≡ length q → Shown M w cells l' q'
  unfolding cell_count map_of
  ready-shown long =
      record {
        width = refl;
        cells = refl;
        wide = (ready-sides R).0;
        high = (ready-sides R).1;
        bytes_long = cells_long_lem;
        labels_long = labels_long_lem;
        labels = labels-shown M l R.filled;
        queue_long_lem = omega (arith, (ready-fit R).queue_long_lem, long);
        chain = R.chain;
        low = low-elevations M cells_long_lem (ready-accepted R).elevations;
      }

  -- what the passes ask
  pub ready-tallies : ShownTallies (context_of M) t'
  ready-tallies = tallies-shown (context_of M) t R.tallied count-few

  pub ready-boundaries : length boundaries / numbers_per_boundary ≡ length spans / numbers_per_span → ShownBoundaries (context_of M) boundaries
  unfolding context_of
  ready-boundaries same =
      let n = spans-lent w h cells spans boundaries anchors in
      record {
        few = count-few;
        long = omega (arith, n, same);
        at = λ i l. boundary-lent w h cells spans boundaries anchors i (omega (arith, n, same, l));
      }

  -- what `view` asks
  pub ready-partitioned : length m' ≡ length m → length q' ≡ length q → Partitioned M w (h * w) l' anchors regions rows (length spans / numbers_per_span) t' p' (length m') (length q')
  unfolding cell_count map_of
  ready-partitioned lm lq =
      record {
        narrow = (side-bounds w (ready-sides R).0).1;
        cells = refl;
        labels_long = labels_long_lem;
        labelled = labels-shown M l R.filled;
        anchored = map-anchors w h cells spans boundaries anchors;
        column = anchor-column R;
        row = anchor-row R;
        on_grid = anchor-on_grid R;
        regions_are = R.count;
        tallied = ready-tallies;
        paired = map_rows M p' p rows (length spans / numbers_per_span) (spans-lent w h cells spans boundaries anchors) R.paired R.row_count_lem;
        masks_long = omega (arith, (ready-fit R).masks_long, lm);
        queue_long_lem = omega (arith, (ready-fit R).queue_long_lem, lq);
      }

  -- what `finish` asks, of masks and queue as long as they were lent
  pub ready_finishes : {masks queue : ℕ} → masks ≡ length m → queue ≡ length q → Finishes (h * w) (length boundaries / numbers_per_boundary) boundaries masks queue output
  ready_finishes lm lq =
      record {
        masks_long = omega (arith, (ready-fit R).masks_long, lm);
        queue_long_lem = omega (arith, (ready-fit R).queue_long_lem, lq);
        few = boundaries-few R;
        boundaries_long = omega arith;
        output_long = output-fits R;
      }
