-- The island of a run to rest, for maps as they are lent: if the premises of demand 3 hold of the two maps as written, they hold of the starting maps in row
-- order (`start-alike`), and the printed rows of the island are alike with ranks in the lists as lent (`rest-island-lent`), in 01's own words. The starting
-- rows of the island, with their ranks, are those of the restricted map, which is one for both. Assumes `Alike` of the maps as lent.
use Rattle.std.specs.Prelude.{ℕ, ◌<◌, ◌≡◌, refl, Bool, true, length}
use Rattle.std.proofs.Common.{arith, ◌∙◌}
use Rattle.std.proofs.Math.Path.{sym, ap, ap₂}
use mathlib.Core.List.{List, map, map-map}
use Rattle.std.proofs.Math.ListN.{get_or}
use Rattle.definitions.specs.Scan.{filter, only_if, count_below}
use Rattle.definitions.specs.Grid.{Map, Segment, Boundary, no_boundary, cell_count, span_count, boundary_of}
use Rattle.definitions.specs.Context.{context_of}
use Rattle.definitions.specs.Rows.{Row, rows_from}
use Rattle.laws.specs.ListLaws.Lists.{All, all_map, all_both, all_filter, filter-ren}
use Rattle.laws.specs.ListLaws.Members.{filter_passes}
use Rattle.laws.specs.ListLaws.Scans.{picked, picked_at, picked-map, collect_ext, map_ext}
use Rattle.island.specs.Premises.{cuts_island, has_anchor, cutting, rank_of, Island, Alike, ranked, island_only}
use Rattle.island.specs.Restrict.{restrict}
use Rattle.island.proofs.Same.{restrict_same}
use Rattle.island.proofs.Framed.{framed}
use Rattle.island.specs.FrameRows.{rows_in}
use Rattle.rest_definitions.specs.RowOrder.{start_rows, no_row, turned, map_with, start_map}
use Rattle.rest_definitions.specs.Rest.{rest_rows}
use Rattle.rest.specs.Picking.{filter-picked, picked_same}
use Rattle.rest.specs.StartMaps.{start-length, start-count, start-boundary, start-cuts, start-island}
use Rattle.rest.specs.IslandPasses.{ranks, cutting_at}
use Rattle.rest.proofs.IslandRest.{together-rested}

-- a boundary with other endpoints
abbrev turn : Boundary → Segment → Boundary
turn b s = record { endpoints = s; width_bits = b.width_bits; kind = b.kind; ramp_id = b.ramp_id; lower = b.lower; upper = b.upper }

module _ (M : Map) (isl : ℕ → Bool) (I : Island M isl) where
  abbrev S : Map
  S = start_map M

  abbrev size : ℕ
  size = length M.boundaries

  abbrev start_row : ℕ → Row
  start_row k = get_or (start_rows M) k no_row

  -- the island's starting rows, with ranks in the list as lent
  abbrev pub island_start : List Row
  island_start = island_only M isl (start_rows M)

  -- they are the starting rows of the restricted map
  pub start_restricted : island_start ≡ rows_from (context_of (restrict M isl)).count (context_of (restrict M isl)).boundary (λ i. true)
  unfolding start_rows context_of rank_of
  start_restricted =
      ap (λ n. island_only M isl (rows_from n (boundary_of M) (λ i. true))) I.equally_many
      ∙ rows_in (framed M isl I) (λ i. true) (λ i. true) (λ i b. refl)

  start-picked : island_start ≡ picked (cuts_island S isl) (λ k. ranked M isl (start_row k)) size
  start-picked =
      filter-picked (λ r. cuts_island M isl r.number) (ranked M isl) no_row (start_rows M)
      ∙ ap (λ n. picked (λ k. cuts_island M isl (start_row k).number) (λ k. ranked M isl (start_row k)) n) (start-length M)
      ∙ collect_ext size _ (λ k. only_if (cuts_island S isl k) (ranked M isl (start_row k))) (λ k h. ap (λ b. only_if b (ranked M isl (start_row k))) (sym (start-cuts M isl I k h)))

  -- the row at a place that cuts is the one of its rank in row order
  start_at_lem : (k : ℕ) → k < size → cuts_island S isl k ≡ true → get_or island_start (rank_of S isl k) no_row ≡ ranked M isl (start_row k)
  unfolding rank_of
  start_at_lem k h b = ap (λ l. get_or l (count_below k (cuts_island S isl)) no_row) start-picked ∙ picked_at (cuts_island S isl) (λ k. ranked M isl (start_row k)) no_row size k h b

  -- the starting boundaries that cut the island, by the lent ones and these rows
  pub start-cutting : cutting S isl ≡ map (λ r. turn (get_or (cutting M isl) r.number no_boundary) r.line) island_start
  unfolding cutting turned
  start-cutting =
      ap (λ n. picked (cuts_island S isl) (boundary_of S) n) (start-count M)
      ∙ picked_same (cuts_island S isl) (boundary_of S) (λ k. turn (get_or (cutting M isl) (rank_of M isl (start_row k).number) no_boundary) (start_row k).line) size
      (λ k h b. start-boundary M k h ∙ ap (λ c. turn c (start_row k).line) (sym (cutting_at M isl I (start_row k).number (sym (start-cuts M isl I k h) ∙ b))))
      ∙ picked-map (cuts_island S isl) _ (λ r. turn (get_or (cutting M isl) r.number no_boundary) r.line) (λ k. ranked M isl (start_row k)) size (λ k h. refl)
      ∙ ap (map (λ r. turn (get_or (cutting M isl) r.number no_boundary) r.line)) (sym start-picked)

  -- printed rows at these places: those of the island go by ranks in row order
  rows-ranks : {ps : List ℕ} → All (λ k. k < span_count S) ps → island_only M isl (map start_row ps) ≡ map (λ q. get_or island_start q no_row) (ranks S isl ps)
  rows-ranks {ps} W =
      ap (map (ranked M isl))
      (sym (filter-ren start_row (λ k. k < span_count S) (cuts_island S isl) (λ r. cuts_island M isl r.number) (λ k h. start-cuts M isl I k (omega (arith, start-count M))) W))
      ∙ map-map (ranked M isl) start_row (filter (cuts_island S isl) ps)
      ∙ map_ext (all_map (λ k c. sym (start_at_lem k (omega (arith, c.0, start-count M)) c.1)) (all_both (all_filter (cuts_island S isl) W) (filter_passes (cuts_island S isl) ps)))
      ∙ sym (map-map (λ q. get_or island_start q no_row) (rank_of S isl) (filter (cuts_island S isl) ps))

module _ (M M' : Map) (isl : ℕ → Bool) (A : Alike M M' isl) where
  same_start : island_start M isl A.island ≡ island_start M' isl A.island'
  same_start =
      start_restricted M isl A.island
      ∙ ap (λ K. rows_from (context_of K).count (context_of K).boundary (λ i. true)) (restrict_same M M' isl A)
      ∙ sym (start_restricted M' isl A.island')

  -- the premises pass over to the starting maps
  pub start-alike : Alike (start_map M) (start_map M') isl
  unfolding start_map map_with cell_count has_anchor
  start-alike =
      record {
        width = A.width;
        height = A.height;
        cells = A.cells;
        anchors = A.anchors;
        counterparts =
            start-cutting M isl A.island
            ∙ ap₂ (λ c l. map (λ r. turn (get_or c r.number no_boundary) r.line) l) A.counterparts same_start
            ∙ sym (start-cutting M' isl A.island');
        island = start-island M isl A.island;
        island' = start-island M' isl A.island';
      }

  -- "With all other rows struck out, both outputs have equally many, alike one by one from the first."
  pub rest-island-lent : island_only M isl (rest_rows M) ≡ island_only M' isl (rest_rows M')
  unfolding rest_rows
  rest-island-lent =
      let T = together-rested (start_map M) (start_map M') isl start-alike in
      rows-ranks M isl A.island T.within
      ∙ ap₂ (λ l qs. map (λ q. get_or l q no_row) qs) same_start T.same
      ∙ sym (rows-ranks M' isl A.island' T.within')
