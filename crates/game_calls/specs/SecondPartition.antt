-- Of a map whose spans and boundaries are one list: the second partition has no more spans, pairs and regions than the first (`second-fewer`), so that 11 and 12
-- cannot come of it (`second-records`, `second-pairs`). The argument: its boundaries are those that a pass of a run to rest leaves (`numbers-passed`), of which
-- this is known (FewerPairs of `rest`). Assumes that no check of a pass refuses the call, and that 16 does not.
use Rattle.std.specs.Prelude.{ℕ, ◌*◌, ◌/◌, ◌≤◌, ◌<◌, ◌≡◌, refl, Bool, true, false, not, ◌&&◌, get_or, ltb, leb, None}
use Rattle.std.proofs.Common.{arith, ◌∙◌}
use Rattle.std.proofs.Math.Path.{sym, ap, ap₂, subst}
use mathlib.Core.List.{map, map-map}
use Rattle.std.proofs.Math.ListN.{length}
use borrow.Author.Tests.{ltb-true, ltb-false, leb-true, le-leb}
use Rattle.definitions.specs.Limits.{numbers_per_span}
use Rattle.definitions.specs.Scan.{collect, only_if, member, run}
use Rattle.definitions.specs.Grid.{Map, no_boundary, segment_at, boundary_at, boundary_of, map_of}
use Rattle.definitions.specs.Partition.{region_count}
use Rattle.definitions.specs.Context.{context_of}
use Rattle.definitions.specs.Rows.{removed_of, is_kept}
use Rattle.definitions.specs.Refusals.{unless}
use Rattle.definitions.specs.Verdict.{Lent, map_in, pair_rows_of, records_fault, pairs_fault}
use Rattle.laws.specs.ListLaws.Lists.{length_run}
use Rattle.laws.specs.ListLaws.Scans.{collect_ext, tab_ext}
use Rattle.laws.specs.ListLaws.Tests.{both}
use Rattle.laws.specs.ListLaws.NoFault.{no_fault_lem}
use Rattle.laws.specs.RegionLaws.Merging.{run_at}
use Rattle.laws.specs.TableLaws.AcceptedCalls.{Accepted}
use Rattle.rest_definitions.specs.RowOrder.{map_with}
use Rattle.rest_definitions.specs.Rest.{kept_map, passed}
use Rattle.rest_definitions.specs.RestVerdict.{lists_fault}
use Rattle.rest.specs.Runs.{all-entries}
use Rattle.rest.specs.FewerPairs.{Fewer, passed-fewer}
use Rattle.rest.specs.InnerCalls.{RestChecked, lent-count, lent-boundary, agree, spans-enough, lent-span}
use Rattle.game_calls.specs.KeptGraph.{kept_numbers, graph_map}

module _ (L : Lent) (A : Accepted L) (E : lists_fault L.spans L.boundaries ≡ None) where
  abbrev M : Map
  M = map_in L

  abbrev K : Map
  K = graph_map L.pass M

  abbrev size : ℕ
  size = length M.boundaries

  abbrev spans : ℕ
  spans = length L.spans / numbers_per_span

  -- no check of a run to rest refuses it
  pub rest-checked : RestChecked L
  rest-checked =
      record {
        sides = A.sides;
        cells = A.cells;
        whole = A.whole;
        lists = E;
        spans = A.spans;
        boundaries = A.boundaries;
        anchors = A.anchors;
        elevations = A.elevations;
        room = A.room;
      }

  -- ---- one list

  boundaries-enough : spans ≤ size
  boundaries-enough = go (ltb size spans) refl
    where
      go : (b : Bool) → ltb size spans ≡ b → spans ≤ size
      go true e =
          let k = ltb-true size spans e in
          let p = both (ltb size spans && ltb size (length L.boundaries / 9) && _) _ (agree L rest-checked size (omega (arith, k))) in
          let q = both (ltb size spans && ltb size (length L.boundaries / 9)) _ p.0 in
          let r = both (ltb size spans) (ltb size (length L.boundaries / 9)) q.0 in
          absurd (omega (arith, ltb-true size (length L.boundaries / 9) r.1, lent-count L rest-checked))
      go false e = ltb-false size spans e

  pub same_count : spans ≡ size
  same_count = omega (arith, boundaries-enough, spans-enough L rest-checked)

  -- the spans are the boundaries' endpoints, as written
  pub one_list : M.spans ≡ map (λ b. b.endpoints) M.boundaries
  unfolding map_in map_of
  one_list =
      ap (λ n. map (λ i. segment_at L.spans (4 * i)) (run 0 n)) (same_count ∙ lent-count L rest-checked)
      ∙ tab_ext (λ i. segment_at L.spans (4 * i)) (λ i. (boundary_at L.boundaries (9 * i)).endpoints) (length L.boundaries / 9)
      (λ i h.
      let k : i < size = omega (arith, lent-count L rest-checked) in
      lent-span L rest-checked i k ∙ ap (λ b. b.endpoints) (lent-boundary L rest-checked i k))
      ∙ sym (map-map (λ b. b.endpoints) (λ i. boundary_at L.boundaries (9 * i)) (run 0 (length L.boundaries / 9)))

  -- all boundaries together make the map itself
  pub all-kept : kept_map M (run 0 size) ≡ M
  unfolding kept_map map_with boundary_of
  all-kept =
      ap (map_with M) (all-entries M.boundaries no_boundary)
      ∙ (λ t. record { width = M.width; height = M.height; cells = M.cells; spans = sym one_list t; boundaries = M.boundaries; anchors = M.anchors })

  -- ---- what the pass leaves

  pub numbers-passed : kept_numbers L.pass M ≡ passed L.pass M (run 0 size)
  unfolding kept_numbers passed is_kept
  numbers-passed =
      collect_ext size (λ i. only_if (is_kept L.pass M i) i) (λ k. only_if (not (member k (removed_of L.pass (kept_map M (run 0 size))))) (get_or (run 0 size) k 0))
      (λ i h. ap₂ (λ N k. only_if (not (member i (removed_of L.pass N))) k) (sym all-kept) (sym (run_at size i h)))
      ∙ ap (λ n. collect n (λ k. only_if (not (member k (removed_of L.pass (kept_map M (run 0 size))))) (get_or (run 0 size) k 0))) (sym (length_run 0 size))

  pub second-fewer : Fewer M K
  unfolding graph_map
  second-fewer =
      subst (λ N. Fewer N K) all-kept
      (subst (λ ps. Fewer (kept_map M (run 0 size)) (kept_map M ps)) (sym numbers-passed) (passed-fewer M L.pass (run 0 size)))

  -- ---- "16 as for running to rest [..]; 23 [..], 24": no 11 and no 12 comes between them

  pub second-records : records_fault L K ≡ None
  unfolding records_fault
  second-records =
      let first = leb-true (region_count M) (length L.records) (no_fault_lem (leb (region_count M) (length L.records)) 0 A.records) in
      ap (λ b. unless b) (le-leb (region_count K) (length L.records) (omega (arith, first, second-fewer.regions)))

  pub second-pairs : pairs_fault L K ≡ None
  unfolding pairs_fault
  second-pairs =
      let room = length L.pairs / 3 * 3 in
      let first : length (pair_rows_of (context_of M)) ≤ room = leb-true (length (pair_rows_of (context_of M))) room (no_fault_lem (leb (length (pair_rows_of (context_of M))) room) 0 A.pairs) in
      ap (λ b. unless b) (le-leb (length (pair_rows_of (context_of K))) room (omega (arith, first, second-fewer.pairs)))
