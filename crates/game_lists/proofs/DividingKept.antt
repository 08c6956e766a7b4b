-- The second partition, once the first one's lists are cleared: it is not refused (`not-refused`), since there are no more regions and pairs than in the
-- first, and so its lists are those of the kept graph (`kept-ready`). Assumes what `divide_kept` asks (`Divides`).
use Prim.Native.Nat.{ℕ, ◌*◌, ◌/◌, ◌≤◌}
use native.Mathlib.Omega.{arith}
use mathlib.Core.Path.{◌≡◌, sym, ap, ap₂, subst, ◌∙◌}
use mathlib.Core.Bool.{Bool, ◌&&◌}
use Rattle.std.specs.Prelude.{None, Result, Ok, Err, IsOk}
use mathlib.Core.List.{List}
use lib.ListN.{length, replicate, length-map, length-replicate}
use lib.Dec.{leb}
use borrow.Author.Tests.{leb-true}
use Rattle.definitions.specs.Scan.{run}
use Rattle.definitions.specs.Lists.{overwrite, zeroed}
use Rattle.definitions.specs.Grid.{Map, map_of, segment_at, span_count}
use Rattle.definitions.specs.Partition.{labels, region_count}
use Rattle.definitions.specs.RegionRecord.{Region, empty_region}
use Rattle.definitions.specs.Context.{context_of}
use Rattle.definitions.specs.Refusals.{output_room}
use Rattle.definitions.specs.Verdict.{Lent, Answer, map_in, pair_rows_of, records_fault, pairs_fault, partition_has_room}
use Rattle.definitions.specs.AtExit.{tallies_of}
use Rattle.laws.specs.ListLaws.Lists.{length_run}
use Rattle.laws.specs.ListLaws.Tests.{both}
use Rattle.laws.specs.ListLaws.NoFault.{no_fault_lem}
use Rattle.row_runs.specs.Contract.{Chain}
use Rattle.areas.specs.Fit.{Fit}
use Rattle.refusals.specs.declared.Refusal as code
use Rattle.refusals.proofs.Steps.{positive, is-ok}
use Rattle.call_partition.specs.declared.Ready.{Ready}
use Rattle.call_partition.specs.Early.{early_refusal}
use Rattle.call_partition.specs.Prepared.{PreparedAs, DividedAs}
use Rattle.call_partition.proofs.EarlyFits.{early-fits}
use Rattle.call_partition.proofs.Exits.{verdict-kept}
use Rattle.rest.specs.FlatLists.{flat_spans, flat_boundaries}
use Rattle.rest_lists.proofs.Inner.{zeroed-length}
use Rattle.boundary_blocks.specs.Blocks.{left_blocks}
use Rattle.game_calls.specs.KeptGraph.{graph_map}
use Rattle.game_calls.specs.SecondPartition.{second-records, second-pairs}
use Rattle.game_lists.specs.Kept.{Divides, DividedKept}
use Rattle.game_lists.proofs.KeptSpans.{left-spans, spans-few, spans-long, second-map, second-early}

module _ (L : Lent) {removed : List Bool} {rows room : ℕ} {l m q t p : List ℕ} (D : Divides L removed rows room l m q t p) where
  abbrev M : Map
  M = map_in L

  abbrev K : Map
  K = graph_map L.pass M

  abbrev spans : ℕ
  spans = length L.spans / 4

  abbrev bs : List ℕ
  bs = flat_boundaries K.boundaries

  -- ---- room for what is cleared

  pub tallies-room : 2 * spans ≤ length t
  tallies-room =
      let a = both (partition_has_room L) (output_room (length L.boundaries / 9) (length L.output)) D.accepted.room in
      let b = both (leb (L.width * L.height) (length L.labels) && leb (L.width * L.height) (length L.masks) && leb (L.width * L.height) (length L.queue)) (leb (2 * spans) (length L.tallies)) a.0 in
      omega (arith, leb-true (2 * spans) (length L.tallies) b.1, D.tallies_long)

  pub pairs-room : 3 * rows ≤ length p
  unfolding pairs_fault
  pairs-room =
      let lent = length L.pairs / 3 * 3 in
      omega (arith, leb-true (length (pair_rows_of (context_of M))) lent (no_fault_lem (leb (length (pair_rows_of (context_of M))) lent) 0 D.accepted.pairs), D.row_count_lem, D.pairs_long)

  -- cleared so far they are as long as they were
  pub tallies-cleared : length (zeroed (2 * spans) t) ≡ length t
  tallies-cleared = zeroed-length _ _ tallies-room

  pub pairs-cleared : length (zeroed (3 * rows) p) ≡ length p
  pairs-cleared = zeroed-length _ _ pairs-room

  pub spans-room : (length L.spans ≤ 1024) × (spans ≤ 256)
  spans-room = (spans-long L D.accepted D.lists, spans-few L D.accepted D.lists)

  -- ---- the lists that are divided

  pub kept-are : {kept : List ℕ} → kept ≡ left_blocks removed 4 L.spans spans → kept ≡ flat_spans K.spans
  kept-are e = e ∙ left-spans L D.accepted D.lists removed D.marked

  module _ (kept t₁ p₁ : List ℕ) (are : kept ≡ flat_spans K.spans) (longT : length t₁ ≡ length t) (longP : length p₁ ≡ length p) where
    early : None ≡ early_refusal 1 L.width L.height L.cells kept bs L.anchors (length l) (length m) (length q) (length t₁) 1280
    early =
        second-early L D.accepted D.lists (length l) (length m) (length q) (length t₁) D.labels_long D.masks_long D.queue_long_lem (longT ∙ D.tallies_long)
        ∙ ap (λ k. early_refusal 1 L.width L.height L.cells k bs L.anchors (length l) (length m) (length q) (length t₁) 1280) (sym are)

    pub kept-fit : Fit L.width L.height L.cells kept (length l) (length m) (length q) (length t₁)
    kept-fit = early-fits 1 L.width L.height L.cells kept bs L.anchors (length l) (length m) (length q) (length t₁) 1280 (sym early)

    same_map : map_of L.width L.height L.cells kept bs L.anchors ≡ K
    same_map = ap (λ k. map_of L.width L.height L.cells k bs L.anchors) are ∙ second-map L D.accepted D.lists

    regions-few : region_count (map_of L.width L.height L.cells kept bs L.anchors) ≤ room
    unfolding records_fault
    regions-few =
        let few = leb-true (region_count K) (length L.records) (no_fault_lem (leb (region_count K) (length L.records)) 0 (second-records L D.accepted D.lists)) in
        omega (arith, few, ap region_count same_map, D.records_long)

    pairs-few : length (pair_rows_of (context_of (map_of L.width L.height L.cells kept bs L.anchors))) ≤ length p₁ / 3 * 3
    unfolding pairs_fault
    pairs-few =
        let lent = length L.pairs / 3 * 3 in
        let few = leb-true (length (pair_rows_of (context_of K))) lent (no_fault_lem (leb (length (pair_rows_of (context_of K))) lent) 0 (second-pairs L D.accepted D.lists)) in
        omega (arith, few, ap (λ N. length (pair_rows_of (context_of N))) same_map, ap (λ n. n / 3 * 3) (longP ∙ D.pairs_long))

    module _ (r : Result Ready code.Refusal) (l' m' q' t' p' : List ℕ) (divided : DividedAs L.width L.height L.cells kept room l m q t₁ p₁ r l' m' q' t' p') where
      prepared : PreparedAs 1 L.width L.height L.cells kept bs L.anchors room 1280 l m q t₁ p₁ r l' m' q' t' p'
      prepared = divided 1 bs L.anchors 1280 early

      abbrev records : List Region
      records = replicate room empty_region

      abbrev output : List ℕ
      output = replicate 1280 0

      not-refused : (x : code.Refusal) → r ≡ Err x → ⊥
      not-refused x e =
          let ran = subst (λ a. PreparedAs 1 L.width L.height L.cells kept bs L.anchors room 1280 l m q t₁ p₁ a l' m' q' t' p') e prepared records output
          (length-replicate room empty_region) (length-replicate {A = ℕ} 1280 0) in
          let kept-0 = verdict-kept 1 L.width L.height L.cells kept bs L.anchors l m q t₁ p₁ records output
          (early ∙ ap (early_refusal 1 L.width L.height L.cells kept bs L.anchors (length l) (length m) (length q) (length t₁)) (sym (length-replicate {A = ℕ} 1280 0)))
          (omega (arith, regions-few, length-replicate room empty_region)) pairs-few in
          omega (arith, positive x.cause, ap (λ (a : Answer). a.number) (ran.answer ∙ kept-0))

      pub is-ready : IsOk r
      is-ready = is-ok r not-refused

      spans-lent : span_count M ≡ spans
      unfolding span_count map_in map_of
      spans-lent = length-map (run 0 spans) (λ i. segment_at L.spans (4 * i)) ∙ length_run 0 spans

      pub kept-ready : {g : Ready} → r ≡ Ok g → t₁ ≡ zeroed (2 * spans) t → p₁ ≡ zeroed (3 * rows) p
          → DividedKept L l m q t p g l' m' q' t' p'
      kept-ready e clearedT clearedP =
          let R = subst (λ a. PreparedAs 1 L.width L.height L.cells kept bs L.anchors room 1280 l m q t₁ p₁ a l' m' q' t' p') e prepared in
          record {
            count = R.count ∙ ap region_count same_map;
            row_count_lem = R.row_count_lem ∙ ap (λ N. length (pair_rows_of (context_of N))) same_map;
            filled = R.filled ∙ ap (λ N. overwrite (labels N) l) same_map;
            masks = R.masks;
            chain = subst (λ N. Chain N q' 0) same_map R.chain;
            queue = R.queue;
            tallied = R.tallied ∙ ap₂ (λ N x. overwrite (tallies_of (context_of N)) x) same_map (clearedT ∙ ap (λ n. zeroed (2 * n) t) (sym spans-lent));
            paired = R.paired ∙ ap₂ (λ N x. overwrite (pair_rows_of (context_of N)) x) same_map (clearedP ∙ ap (λ n. zeroed n p) D.row_count_lem);
          }
