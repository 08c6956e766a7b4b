-- `partition_by_spans` as the Rust writes it is the definitions' partition: its labels (`rust_labels`), how many areas it has (`rust_areas`), and its assessments, which are what
-- the context holds (`rust_assessments`); and in the layout of SPECIFICATION 3 the tallies and the pair rows (`rust_tallies`, `rust_pairs`). Assumes of the map that its sides are at least 1
-- and that it has a byte for each cell, as checks 1 and 2 have it: every accepted call and every accepted partition is lent such a map (`call-grid`, `partition_grid`).
use Prim.Native.Nat.{ℕ, zero, suc, ◌+◌, ◌*◌, ◌≤◌, ◌<◌}
use Rattle.std.proofs.Common.{arith, mul_comm, ◌∙◌, leb-true, eqb-true}
use Rattle.std.specs.Prelude.{◌≡◌, refl, leb, Option, None, Some}
use Rattle.std.proofs.Math.Path.{sym, ap}
use mathlib.Core.List.{List, [], ◌∷◌, ◌++◌, map, append-nil, append_assoc}
use Rattle.std.proofs.Math.ListN.{length}
use Rattle.definitions.specs.Limits.{is_side, numbers_per_span}
use Rattle.definitions.specs.Scan.{filter, concat_map, gather, run}
use Rattle.definitions.specs.Grid.{Map, cell_count, span_count}
use Rattle.definitions.specs.Spans.{cut_steps}
use Rattle.definitions.specs.Partition.{labels, region_count, is_separated}
use Rattle.definitions.specs.Context.{Context, context_of}
use Rattle.definitions.specs.Refusals.{Refusal, unless, sides_fault, cells_fault, is_whole, spans_refusal}
use Rattle.definitions.specs.Verdict.{Lent, map_in, refusal, first_refusal, pair_rows_of, pairs_fault, partition_has_room, verdict, partition_verdict}
use Rattle.definitions.specs.AtExit.{tallies_of}
use Rattle.laws.specs.ListLaws.Tests.{both}
use Rattle.laws.specs.ListLaws.NoFault.{no_fault_lem}
use Rattle.laws.specs.ListLaws.Scans.{tab_ext}
use Rattle.laws.specs.RegionLaws.PairLaws.{cut_of_at, pairs_at}
use Rattle.laws.specs.TableLaws.AcceptedCalls.{accepted}
use Rattle.rust_partition.specs.Literal.CutMasks.{removed_edges}
use Rattle.rust_partition.specs.Literal.Assessment.{Assessment, boundary_assessment}
use Rattle.rust_partition.specs.Literal.PartitionBySpans.{partition_by_spans, tallies_held, pair_rows_from, pair_rows_held}
use Rattle.rust_partition.proofs.MasksAsRust.{masks-are, edges_are}
use Rattle.rust_partition.proofs.ComponentsAsRust.{labels-are, areas-count}
use Rattle.rust_partition.proofs.AssessmentAsRust.{assessed}

-- sides of at least 1, and a byte for each cell
pub record Grid (M : Map) : Type 0 where
  pub wide : 1 ≤ M.width
  pub tall : 1 ≤ M.height
  pub cells : length M.cells ≡ cell_count M

-- ---- scans below a number as walks of a list

gather-run : {A : Type 0} (f : ℕ → List A) (m k n : ℕ) → k + m ≡ n → gather k f ++ concat_map f (run k m) ≡ gather n f
unfolding gather concat_map run
gather-run f zero k n e = append-nil (gather k f) ∙ ap (λ i. gather i f) k_is
  where
    k_is : k ≡ n
    k_is = omega arith
gather-run f (suc m) k n e = sym (append_assoc (gather k f) (f k) (concat_map f (run (suc k) m))) ∙ gather-run f m (suc k) n (omega arith)

gather-all : {A : Type 0} (f : ℕ → List A) (n : ℕ) → concat_map f (run 0 n) ≡ gather n f
unfolding gather
gather-all f n = gather-run f n 0 n (omega arith)

concat_map_lem : {A B C : Type 0} (g : B → List C) (f : A → B) (l : List A) → concat_map g (map f l) ≡ concat_map (λ a. g (f a)) l
unfolding concat_map
concat_map_lem g f [] = refl
concat_map_lem g f (a ∷ l) = ap (λ m. g (f a) ++ m) (concat_map_lem g f l)

map-map : {A B C : Type 0} (g : B → C) (f : A → B) (l : List A) → map g (map f l) ≡ map (λ a. g (f a)) l
map-map g f [] = refl
map-map g f (a ∷ l) = ap (λ m. g (f a) ∷ m) (map-map g f l)

rows_run : (f : ℕ → Assessment) (m k : ℕ) → pair_rows_from k (map f (run k m)) ≡ concat_map (λ s. concat_map (λ p. s ∷ p.lo ∷ p.hi ∷ []) (f s).region_pairs) (run k m)
unfolding pair_rows_from concat_map run
rows_run f zero k = refl
rows_run f (suc m) k = ap (λ l. concat_map (λ p. k ∷ p.lo ∷ p.hi ∷ []) (f k).region_pairs ++ l) (rows_run f m (suc k))

-- ---- of a map

-- what the context holds of span i
abbrev pub context_assessment : Context → ℕ → Assessment
context_assessment C i = record { removed_edge_count = C.removed_edges i; separated_edge_count = C.separated_edges i; region_pairs = C.pairs i }

module _ (M : Map) (G : Grid M) where
  pub rust_labels : (partition_by_spans M).labels ≡ labels M
  unfolding partition_by_spans
  rust_labels = labels-are M G.cells (removed_edges M).masks (masks-are M G.cells G.wide G.tall)

  pub rust_areas : length (partition_by_spans M).areas ≡ region_count M
  unfolding partition_by_spans
  rust_areas = areas-count M G.cells (removed_edges M).masks (masks-are M G.cells G.wide G.tall)

  span-assessed : (i : ℕ) → i < span_count M → boundary_assessment (cut_steps M i) (labels M) ≡ context_assessment (context_of M) i
  unfolding context_of
  span-assessed i h =
      assessed (labels M) (cut_steps M i)
      ∙ sym (λ t. record { removed_edge_count = length (cut_of_at M i h t); separated_edge_count = length (filter (is_separated (labels M)) (cut_of_at M i h t)); region_pairs = pairs_at M i h t })

  pub rust_assessments : (partition_by_spans M).boundaries ≡ map (context_assessment (context_of M)) (run 0 (span_count M))
  unfolding partition_by_spans
  rust_assessments =
      ap (map (λ edges. boundary_assessment edges (partition_by_spans M).labels)) (edges_are M G.cells G.wide G.tall)
      ∙ ap (λ ls. map (λ edges. boundary_assessment edges ls) (map (cut_steps M) (run 0 (span_count M)))) rust_labels
      ∙ map-map (λ edges. boundary_assessment edges (labels M)) (cut_steps M) (run 0 (span_count M))
      ∙ tab_ext (λ i. boundary_assessment (cut_steps M i) (labels M)) (context_assessment (context_of M)) (span_count M) span-assessed

  -- ---- in the layout of SPECIFICATION 3

  pub rust_tallies : tallies_held (partition_by_spans M) ≡ tallies_of (context_of M)
  unfolding tallies_of tallies_held context_of span_count
  rust_tallies =
      ap (concat_map tally) rust_assessments ∙ concat_map_lem tally (context_assessment (context_of M)) (run 0 (span_count M))
      ∙ gather-all (λ s. tally (context_assessment (context_of M) s)) (span_count M)
    where
      tally : Assessment → List ℕ
      tally b = b.removed_edge_count ∷ b.separated_edge_count ∷ []

  pub rust_pairs : pair_rows_held (partition_by_spans M) ≡ pair_rows_of (context_of M)
  unfolding pair_rows_of pair_rows_held context_of span_count
  rust_pairs =
      ap (pair_rows_from 0) rust_assessments ∙ rows_run (context_assessment (context_of M)) (span_count M) 0
      ∙ gather-all (λ s. concat_map (λ p. s ∷ p.lo ∷ p.hi ∷ []) ((context_of M).pairs s)) (span_count M)

-- ---- of what is lent

-- of the partition alone: checks 1 and 2 come first
first_two : (x y : Option ℕ) (l : List (Option Refusal)) (count : ℕ) → (first_refusal (refusal 1 x ∷ refusal 2 y ∷ l) count).number ≡ 0 → (x ≡ None) × (y ≡ None)
first_two None None l count h = (refl, refl)
first_two None (Some y) l count h = absurd (omega (arith, h))
first_two (Some x) y l count h = absurd (omega (arith, h))

grid-fits : (L : Lent) → (sides_fault L.width L.height ≡ None) × (cells_fault L.width L.height L.cells ≡ None) → Grid (map_in L)
unfolding map_in cell_count
grid-fits L h =
    let s = both (is_side L.width) (is_side L.height) (no_fault_lem _ 0 h.0) in
    record {
      wide = leb-true 1 L.width (both (leb 1 L.width) (leb L.width 1024) s.0).0;
      tall = leb-true 1 L.height (both (leb 1 L.height) (leb L.height 1024) s.1).0;
      cells = eqb-true (length L.cells) (L.width * L.height) (no_fault_lem _ 0 h.1) ∙ mul_comm L.width L.height;
    }

pub call-grid : (L : Lent) → (verdict L).number ≡ 0 → Grid (map_in L)
call-grid L h = grid-fits L ((accepted L h).sides, (accepted L h).cells)

pub partition_grid : (L : Lent) → (partition_verdict L).number ≡ 0 → Grid (map_in L)
unfolding partition_verdict
partition_grid L h =
    grid-fits L
    (first_two (sides_fault L.width L.height) (cells_fault L.width L.height L.cells)
    (refusal 3 (unless (is_whole numbers_per_span L.spans)) ∷ spans_refusal L.width L.height L.spans ∷ refusal 10 (unless (partition_has_room L)) ∷ refusal 12 (pairs_fault L (map_in L)) ∷ [])
    (region_count (map_in L)) h)
