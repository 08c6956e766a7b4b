-- The parts of `run_kept`: what each asks, once the first partition is ready, and what they leave together (`ran-kept_graph`). Beyond what either partition
-- fills each list is as it was lent, so that clearing as far as the first filled, and then filling anew, gives the lists of the contract. Assumes nothing.
use Prim.Native.Nat.{ℕ, ◌*◌, ◌/◌, ◌≤◌}
use native.Mathlib.Omega.{arith}
use native.Mathlib.Nat.{le_refl}
use mathlib.Core.Path.{◌≡◌, refl, sym, ap, ap₂, ◌∙◌, subst}
use mathlib.Core.Bool.{Bool, false}
use mathlib.Core.List.{List, ◌++◌, map}
use lib.ListN.{length, drop, replicate, length-map, length-replicate}
use lib.Dec.{leb}
use borrow.Author.Tests.{leb-true}
use Rattle.definitions.specs.Limits.{max_entries, numbers_per_span, numbers_per_boundary, tallies_per_span}
use Rattle.definitions.specs.Scan.{run}
use Rattle.definitions.specs.Lists.{overwrite, zeroed}
use Rattle.definitions.specs.Grid.{Map, map_of, cell_count, span_count}
use Rattle.definitions.specs.Partition.{labels, region_count}
use Rattle.definitions.specs.RegionRecord.{empty_region}
use Rattle.definitions.specs.Context.{context_of}
use Rattle.definitions.specs.Rows.{flat_rows}
use Rattle.definitions.specs.Verdict as verdict
use Rattle.definitions.specs.Verdict.{map_in, pair_rows_of, records_fault}
use Rattle.definitions.specs.AtExit.{tallies_of, records_of}
use Rattle.laws.specs.ListLaws.Lists.{length_run}
use Rattle.laws.specs.ListLaws.NoFault.{no_fault_lem}
use Rattle.laws.specs.RegionLaws.Regions.{labels_length}
use Rattle.laws.specs.RegionLaws.Tallies.{tallies-length}
use Rattle.areas.proofs.Labelling.{zeroed-again}
use Rattle.areas.proofs.Dividing.{labels-shown}
use Rattle.stretches.specs.Queue.{Shown}
use Rattle.stretches.proofs.LowElevations.{low-elevations}
use Rattle.context.specs.declared.Region.{Region}
use Rattle.context.specs.Records.{record_of}
use Rattle.pass_lists.specs.Finished.{Finishes, Finished}
use Rattle.pass_lists.proofs.AfterChecks.{ready-accepted, ready-sides, ready-fit}
use Rattle.pass_lists.proofs.AfterPartition.{ready_finishes}
use Rattle.pass_lists.proofs.Closing.{kept_rows_lem}
use Rattle.rest_definitions.specs.RowOrder.{map_with}
use Rattle.rest_definitions.specs.Rest.{kept_map}
use Rattle.rest.specs.Clearing.{beyond-stays}
use Rattle.game_calls.specs.KeptGraph.{graph_map}
use Rattle.game_calls.specs.SecondPartition.{second-fewer, second-records}
use Rattle.grid_steps.specs.declared.grid.TerrainGrid.{TerrainGrid}
use Rattle.call_partition.specs.declared.Ready.{Ready}
use Rattle.game_lists.specs.Kept.{Source, lent_of, Divides, DividedKept}
use Rattle.rest_lists.specs.declared.kept.Standing.{Standing}
use Rattle.topology.specs.Filled.{Fills, Filled, Renewed}
use Rattle.topology.specs.Marks.{Lent, MarkedFor}
use Rattle.topology.specs.Games.{Begun, RunsKept, RanKept}
use Rattle.topology.specs.Lent.{lends, leaves}
use Rattle.topology.proofs.Calling.{ready_fills, ready-lent, marked}

module _ {B : Begun} {pass w h : ℕ} {cells spans boundaries anchors : List ℕ} {regions rows : ℕ} {l m q t p : List ℕ} {s : List Region} {o : List ℕ}
    (G : RunsKept B pass (lends w h cells spans boundaries anchors l m q t p s o) regions rows) where
  -- how many records were lent
  abbrev room : ℕ
  room = length s

  abbrev M : Map
  M = map_of w h cells spans boundaries anchors

  abbrev K : Map
  K = graph_map pass M

  -- ---- the first partition

  pub runs_fills : Fills M room regions w cells l q
  runs_fills = ready_fills G.ready.ready G.queue_long_lem

  -- what was lent to the call of the pass
  abbrev pub source : Source
  source =
      record {
        pass = pass;
        boundaries = boundaries;
        anchors = anchors;
        labels = B.labels;
        masks = B.masks;
        queue = B.queue;
        tallies = B.tallies;
        pairs = B.pairs;
        records = replicate room empty_region;
        output = replicate (length o) 0;
      }

  module _ {s₁ : List Region} (F : Filled M s s₁) where
    pub runs-lent : Lent M s₁ w (h * w) l anchors regions rows (length spans / numbers_per_span) boundaries t p (length m) (length q)
    runs-lent = ready-lent G.ready.ready F G.masks_long G.queue_long_lem

    module _ {m₂ q₂ : List ℕ} {removed : List Bool} (longM : length m₂ ≡ length m) (longQ : length q₂ ≡ length q)
        (D : MarkedFor pass M (h * w) (length spans / numbers_per_span) boundaries m q m₂ q₂ (replicate max_entries false) removed) where
      -- ---- the second partition

      pub runs_divides : Divides (lent_of w h cells spans source) removed rows room l m₂ q₂ t p
      unfolding map_in
      runs_divides =
          record {
            accepted = ready-accepted G.ready.ready;
            lists = G.ready.lists;
            marked = marked G.ready.ready F D;
            row_count_lem = G.ready.ready.row_count_lem;
            records_long = length-replicate room empty_region;
            labels_long = G.labels_long;
            masks_long = longM ∙ G.masks_long;
            queue_long_lem = longQ ∙ G.queue_long_lem;
            tallies_long = G.tallies_long;
            pairs_long = G.pairs_long;
          }

      module _ {g : Ready} {l₃ m₃ q₃ t₃ p₃ : List ℕ} (N : DividedKept (lent_of w h cells spans source) l m₂ q₂ t p g l₃ m₃ q₃ t₃ p₃)
          (longL₃ : length l₃ ≡ length l) (longM₃ : length m₃ ≡ length m₂) (longQ₃ : length q₃ ≡ length q₂) where
        cells_same : cell_count K ≡ h * w
        unfolding graph_map kept_map map_with cell_count map_of
        cells_same = refl

        bytes_long_lem : length cells ≡ cell_count K
        bytes_long_lem = (ready-fit G.ready.ready).checked.cells_long ∙ sym cells_same

        shown : Shown K w cells l₃ q₃
        unfolding graph_map kept_map map_with cell_count map_of map_in
        shown =
            record {
              width = refl;
              cells = refl;
              wide = (ready-sides G.ready.ready).0;
              high = (ready-sides G.ready.ready).1;
              bytes_long = bytes_long_lem;
              labels_long = omega (arith, (ready-fit G.ready.ready).labels_long, G.labels_long, longL₃);
              labels = labels-shown K l N.filled;
              queue_long_lem = omega (arith, (ready-fit G.ready.ready).queue_long_lem, G.queue_long_lem, longQ, longQ₃);
              chain = N.chain;
              low = low-elevations K bytes_long_lem (ready-accepted G.ready.ready).elevations;
            }

        regions-few : region_count K ≤ room
        unfolding records_fault map_in
        regions-few =
            let A = ready-accepted G.ready.ready in
            let few = leb-true (region_count K) (length (replicate room empty_region)) (no_fault_lem (leb (region_count K) (length (replicate room empty_region))) 0 (second-records (lent_of w h cells spans source) A G.ready.lists)) in
            omega (arith, few, length-replicate room empty_region)

        pub runs_first : length s₁ ≡ length s → regions ≤ length s₁
        runs_first e = omega (arith, G.ready.ready.count, G.ready.ready.enough, e)

        pub runs_renews : length s₁ ≡ length s → Fills K (length s₁) g.regions w cells l₃ q₃
        unfolding map_in
        runs_renews e = record { shown = shown; count = N.count; enough = omega (arith, regions-few, e) }

        pub runs_finishes : Finishes (h * w) (length boundaries / numbers_per_boundary) boundaries (length m₃) (length q₃) (length o)
        runs_finishes = ready_finishes G.ready.ready (longM₃ ∙ longM ∙ G.masks_long) (longQ₃ ∙ longQ ∙ G.queue_long_lem)

        -- ---- what they leave together

        cells_first : cell_count M ≡ h * w
        unfolding cell_count map_of
        cells_first = refl

        labels_same : drop (length (labels K)) l ≡ drop (length (labels K)) B.labels
        labels_same =
            ap (drop (length (labels K))) G.ready.ready.filled
            ∙ beyond-stays (length (labels K)) (labels M) B.labels (omega (arith, labels_length M, labels_length K, cells_same, cells_first))

        count_is : (context_of M).count ≡ span_count M
        unfolding context_of
        count_is = refl

        tallies_same : zeroed (tallies_per_span * span_count M) t ≡ zeroed (tallies_per_span * span_count M) B.tallies
        tallies_same =
            let n = tallies_per_span * span_count M in
            zeroed-again n B.tallies t
            (ap (drop n) G.ready.ready.tallied
            ∙ beyond-stays n (tallies_of (context_of M)) B.tallies (omega (arith, tallies-length (context_of M), count_is)))

        pairs_same : zeroed (length (pair_rows_of (context_of M))) p ≡ zeroed (length (pair_rows_of (context_of M))) B.pairs
        pairs_same =
            let n = length (pair_rows_of (context_of M)) in
            zeroed-again n B.pairs p (ap (drop n) G.ready.ready.paired ∙ beyond-stays n (pair_rows_of (context_of M)) B.pairs (le_refl n))

        records_first : length (records_of (context_of M)) ≡ region_count M
        unfolding records_of context_of
        records_first = length-map (run 1 (region_count M)) (context_of M).region ∙ length_run 1 (region_count M)

        records_same : drop (length (replicate regions empty_region)) (map record_of s₁) ≡ drop (length (replicate (region_count M) empty_region)) (map record_of s)
        records_same =
            let n = length (replicate (region_count M) empty_region) in
            ap (λ k. drop (length (replicate k empty_region)) (map record_of s₁)) G.ready.ready.count
            ∙ ap (drop n) F.records
            ∙ beyond-stays n (records_of (context_of M)) (map record_of s) (omega (arith, records_first, length-replicate (region_count M) empty_region))

        pub ran-kept_graph : {s₂ : List Region} {m₄ q₄ o₄ : List ℕ} {n : ℕ} → Renewed K regions s₁ s₂
            → Finished (h * w) (length boundaries / numbers_per_boundary) boundaries removed m₃ q₃ o m₄ q₄ o₄ n
            → {r : Standing} → r.kept ≡ n → r.regions ≡ g.regions → r.rows ≡ g.rows
            → RanKept B pass (lends w h cells spans boundaries anchors l m q t p s o) r (leaves l₃ m₄ q₄ t₃ p₃ s₂ o₄)
        unfolding map_in
        ran-kept_graph {s₂} E Fin same_kept same_regions same_rows =
            let R = G.ready.ready in
            let k = kept_rows_lem pass w h cells spans boundaries anchors removed (marked R F D) in
            record {
              kept = same_kept ∙ Fin.rows ∙ ap length k;
              regions = same_regions ∙ N.count;
              rows = ap (λ n. 3 * n) same_rows ∙ N.row_count_lem;
              labels = N.filled ∙ ap (λ r. labels K ++ r) labels_same;
              masks = Fin.masks ∙ zeroed-again (h * w) B.masks m₃ (N.masks ∙ D.masks.rest ∙ R.masks);
              queue = Fin.queue ∙ zeroed-again (h * w) B.queue q₃ (N.queue ∙ D.queue.rest ∙ R.queue);
              tallies = N.tallied ∙ ap (overwrite (tallies_of (context_of K))) tallies_same;
              pairs = N.paired ∙ ap (overwrite (pair_rows_of (context_of K))) pairs_same;
              records =
                  E.records
                  ∙ ap (overwrite (records_of (context_of K)))
                  (ap₂ ◌++◌ (ap (λ n. replicate n empty_region) R.count) records_same);
              beyond =
                  E.beyond (region_count M) (omega (arith, R.count)) (second-fewer (lent_of w h cells spans source) (ready-accepted R) G.ready.lists).regions
                  ∙ F.beyond;
              output = Fin.output ∙ ap (λ r. overwrite (flat_rows r) o) k;
            }

-- what is divided on a grid is divided on one that is equal to it
pub divides-on : {g : TerrainGrid} (x : TerrainGrid) {spans : List ℕ} {S : Source} {removed : List Bool} {rows room : ℕ} {l m q t p : List ℕ} → g ≡ x
    → Divides (lent_of x.width x.height x.cells.now spans S) removed rows room l m q t p → Divides (lent_of g.width g.height g.cells.now spans S) removed rows room l m q t p
divides-on x {spans} {S} {removed} {rows} {room} {l} {m} {q} {t} {p} e D =
    subst (λ (g : TerrainGrid). Divides (lent_of g.width g.height g.cells.now spans S) removed rows room l m q t p) (sym e) D

pub kept-on : {g : TerrainGrid} (x : TerrainGrid) {spans : List ℕ} {S : Source} {l m q t p : List ℕ} {r : Ready} {l' m' q' t' p' : List ℕ} → g ≡ x
    → DividedKept (lent_of g.width g.height g.cells.now spans S) l m q t p r l' m' q' t' p' → DividedKept (lent_of x.width x.height x.cells.now spans S) l m q t p r l' m' q' t' p'
kept-on x {spans} {S} {l} {m} {q} {t} {p} {r} {l'} {m'} {q'} {t'} {p'} e N =
    subst (λ (g : TerrainGrid). DividedKept (lent_of g.width g.height g.cells.now spans S) l m q t p r l' m' q' t' p') e N

-- and lists of which a pass only reads labels, tallies and pairs are divided as they were before it
module _ {L : verdict.Lent} {l m q t p l₂ t₂ p₂ : List ℕ} (el : l₂ ≡ l) (et : t₂ ≡ t) (ep : p₂ ≡ p) where
  pub divides-still : {removed : List Bool} {rows room : ℕ} → Divides L removed rows room l m q t p → Divides L removed rows room l₂ m q t₂ p₂
  divides-still D = rw el (rw et (rw ep D))

  pub kept-still : {r : Ready} {l' m' q' t' p' : List ℕ} → DividedKept L l₂ m q t₂ p₂ r l' m' q' t' p' → DividedKept L l m q t p r l' m' q' t' p'
  kept-still N = rw (sym el) (rw (sym et) (rw (sym ep) N))
