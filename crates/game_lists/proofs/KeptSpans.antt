-- The spans that the marks leave, in a flat list, are those of the kept graph (`left-spans`), as many as its numbers (`left_count_lem`); and a call with these
-- lists passes every check before 11 (`second-early`). Assumes that a call of a pass is accepted, that 16 does not refuse it, and that the marks say what its
-- pass removes.
use Prim.Native.Nat.{ℕ, zero, suc, ◌+◌, ◌*◌, ◌/◌, ◌%◌, ◌≤◌, ◌<◌}
use native.Mathlib.Omega.{arith}
use mathlib.Core.Path.{◌≡◌, refl, sym, ap, ap₂, ◌∙◌}
use mathlib.Core.Bool.{Bool, true, false, not, ◌&&◌, cond}
use Rattle.std.specs.Prelude.{None}
use mathlib.Core.List.{List, [], ◌∷◌, ◌++◌, map-map, append-nil}
use lib.ListN.{length, get_or, take, drop, length-append, get_or-append}
use lib.Seq.{sets, take-length, take-append_seam}
use lib.Dec.{eqb, leb}
use borrow.Author.Tests.{leb-true, le-leb, eq-eqb, eqb-true}
use Rattle.definitions.specs.Limits.{numbers_per_span, numbers_per_boundary, numbers_per_anchor}
use Rattle.definitions.specs.Scan.{gather, collect, only_if, to_list, concat_map, member, count_below}
use Rattle.definitions.specs.Lists.{overwrite}
use Rattle.definitions.specs.Grid.{Map, segment_at, boundary_at, map_of, boundary_of, span_count, span_of}
use Rattle.definitions.specs.Rows.{removed_of, is_kept}
use Rattle.definitions.specs.Refusals.{Refusal, or_else, unless, is_whole, spans_refusal, boundary_fits, boundaries_fault, partition_room, output_room}
use Rattle.definitions.specs.Verdict.{Lent, map_in, refusal, partition_has_room}
use Rattle.laws.specs.ListLaws.Lists.{All}
use Rattle.laws.specs.ListLaws.Members.{all-place}
use Rattle.laws.specs.ListLaws.Below.{count_ext}
use Rattle.laws.specs.ListLaws.Overwritten.{sets_overwrite}
use Rattle.laws.specs.ListLaws.Scans.{picked-length}
use Rattle.laws.specs.ListLaws.ScansOfAll.{collect-below}
use Rattle.laws.specs.ListLaws.Options.{on_only, on_list}
use Rattle.laws.specs.ListLaws.Tests.{both}
use Rattle.laws.specs.TableLaws.KeptRows.{collect-few}
use Rattle.laws.specs.TableLaws.AcceptedCalls.{Accepted, fits-parts}
use Rattle.cut_steps.specs.Prefixes.{concat-append, concat_map_lem, gather_ext}
use Rattle.refusals.proofs.Steps.{next}
use Rattle.call_partition.specs.Early.{sizes_refusal, entries_refusal, early_refusal}
use Rattle.rest_definitions.specs.RowOrder.{map_with}
use Rattle.rest_definitions.specs.Rest.{kept_map}
use Rattle.rest_definitions.specs.RestVerdict.{lists_fault}
use Rattle.rest.specs.Picking.{first_none}
use Rattle.rest.specs.KeptMaps.{kept-count, kept-boundaries, kept-boundary, kept-endpoints}
use Rattle.rest.specs.FlatLists.{flat_segment, flat_spans, flat_boundaries, flat_spans-length, flat_boundaries-length, span_count_lem, span_at_lem, boundary_at_lem, flat_map}
use Rattle.rest.specs.FlatLists as flat
use Rattle.rest.specs.InnerCalls.{lent_fits, lent-span, lent-differ, span_refusal, outside_at, equal_at}
use Rattle.boundary_blocks.specs.Blocks.{part, is_left, left_block, left_blocks, left_count}
use Rattle.boundary_blocks.proofs.Keeping.{left_length_lem, left-few}
use Rattle.boundary_blocks.proofs.Placing.{part-four}
use Rattle.game_calls.specs.KeptGraph.{kept_numbers, graph_map}
use Rattle.game_calls.specs.SecondPartition.{rest-checked, same_count}

-- ---- lists

-- the lists at the numbers that pass, one behind the other
blocks-picked : (f : ℕ → List ℕ) (p : ℕ → Bool) (n : ℕ) → gather n (λ k. cond (p k) (f k) []) ≡ concat_map f (collect n (λ k. only_if (p k) k))
unfolding gather collect concat_map
blocks-picked f p zero = refl
blocks-picked f p (suc n) = ap₂ ◌++◌ (blocks-picked f p n) (one (p n)) ∙ sym (concat-append f (collect n (λ k. only_if (p k) k)) (to_list (only_if (p n) n)))
  where
    one : (b : Bool) → cond b (f n) [] ≡ concat_map f (to_list (only_if b n))
    one true = sym (append-nil (f n))
    one false = refl

-- a block of a list that stands in front of another
pub block-front : (l rest : List ℕ) (k : ℕ) → 4 * k + 4 ≤ length l → part (4 * k) 4 (l ++ rest) ≡ part (4 * k) 4 l
block-front l rest k h =
    part-four (4 * k) (l ++ rest) (omega (arith, length-append l rest))
    ∙ (λ t. first t ∷ at 1 (omega arith) t ∷ at 2 (omega arith) t ∷ at 3 (omega arith) t ∷ [])
    ∙ sym (part-four (4 * k) l h)
  where
    first : get_or (l ++ rest) (4 * k) 0 ≡ get_or l (4 * k) 0
    first = get_or-append l rest 0 (4 * k) (omega (arith, h))

    at : (j : ℕ) → j < 4 → get_or (l ++ rest) (4 * k + j) 0 ≡ get_or l (4 * k + j) 0
    at j i = get_or-append l rest 0 (4 * k + j) (omega (arith, h, i))

-- what is copied and then kept, block by block, is what the marks leave
module _ (spans old : List ℕ) (removed : List Bool) where
  left-front : (rest : List ℕ) → left_blocks removed 4 (spans ++ rest) (length spans / 4) ≡ left_blocks removed 4 spans (length spans / 4)
  unfolding left_blocks
  left-front rest =
      gather_ext (length spans / 4) (left_block removed 4 (spans ++ rest)) (left_block removed 4 spans)
      (λ k h. ap (λ b. cond (is_left removed k) b []) (block-front spans rest k (omega (arith, h))))

  pub kept-front : length spans ≤ length old → {kept₁ kept₂ : List ℕ} → kept₁ ≡ sets old 0 (part 0 (length spans) spans)
      → kept₂ ≡ overwrite (left_blocks removed 4 kept₁ (length spans / 4)) kept₁ → (r : ℕ) → r ≡ left_count removed (length spans / 4)
      → take (4 * r) kept₂ ≡ left_blocks removed 4 spans (length spans / 4)
  kept-front room {kept₁} {kept₂} copied moved r counted =
      let left = left_blocks removed 4 spans (length spans / 4) in
      let rest = drop (length spans) old in
      let one : kept₁ ≡ spans ++ rest = copied ∙ ap (sets old 0) (take-length spans) ∙ sets_overwrite old spans room in
      let two : kept₂ ≡ left ++ drop (length left) (spans ++ rest) = moved ∙ (λ t. overwrite (left_blocks removed 4 (one t) (length spans / 4)) (one t)) ∙ ap (λ l. overwrite l (spans ++ rest)) (left-front rest) in
      let long : length left ≡ 4 * r = left_length_lem removed 4 spans (length spans / 4) (omega arith) (length spans / 4) (omega arith) ∙ ap (λ n. 4 * n) (sym counted) in
      ap₂ take (sym long) two ∙ take-append_seam left (drop (length left) (spans ++ rest))

  pub few-kept : {r : ℕ} → r ≡ left_count removed (length spans / 4) → r ≤ length spans / 4
  few-kept e = omega (arith, e, left-few removed 4 spans (length spans / 4) (omega arith) (length spans / 4))

module _ (L : Lent) (A : Accepted L) (E : lists_fault L.spans L.boundaries ≡ None) where
  abbrev M : Map
  M = map_in L

  abbrev ps : List ℕ
  ps = kept_numbers L.pass M

  abbrev K : Map
  K = graph_map L.pass M

  abbrev size : ℕ
  size = length M.boundaries

  abbrev w : ℕ
  w = L.width

  abbrev h : ℕ
  h = L.height

  abbrev spans : ℕ
  spans = length L.spans / 4

  -- ---- the flat list

  lent-block : (i : ℕ) → i < size → part (4 * i) 4 L.spans ≡ flat_segment (boundary_of M i).endpoints
  lent-block i k =
      part-four (4 * i) L.spans (omega (arith, k, same_count L A E)) ∙ ap flat_segment (lent-span L (rest-checked L A E) i k)

  module _ (removed : List Bool) (marked : (i : ℕ) → i < size → get_or removed i false ≡ member i (removed_of L.pass M)) where
    pub left-spans : left_blocks removed 4 L.spans spans ≡ flat_spans K.spans
    unfolding left_blocks flat_spans graph_map kept_map map_with kept_numbers is_kept
    left-spans =
        ap (λ n. gather n (left_block removed 4 L.spans)) (same_count L A E)
        ∙ gather_ext size (left_block removed 4 L.spans) (λ k. cond (is_kept L.pass M k) (flat_segment (boundary_of M k).endpoints) [])
        (λ i k. ap₂ (λ b l. cond (not b) l []) (marked i k) (lent-block i k))
        ∙ blocks-picked (λ k. flat_segment (boundary_of M k).endpoints) (is_kept L.pass M) size
        ∙ sym (concat_map_lem flat_segment (λ k. (boundary_of M k).endpoints) ps)
        ∙ ap (concat_map flat_segment) (sym (map-map (λ b. b.endpoints) (boundary_of M) ps))

    pub left_count_lem : left_count removed spans ≡ length ps
    unfolding left_count kept_numbers is_kept
    left_count_lem =
        ap (λ n. count_below n (is_left removed)) (same_count L A E)
        ∙ count_ext size (is_left removed) (is_kept L.pass M) (λ i k. ap not (marked i k))
        ∙ sym (picked-length (is_kept L.pass M) (λ i. i) size)

  -- ---- the kept boundaries are of the list

  within : All (λ i. i < size) ps
  unfolding kept_numbers
  within = collect-below (λ i. i < size) (λ i. only_if (is_kept L.pass M i) i) size (λ i k. on_list (on_only (is_kept L.pass M i) i k))

  place_lt : (i : ℕ) → i < length ps → get_or ps i 0 < size
  place_lt i k = all-place 0 within i k

  spans-kept : length K.spans ≡ length ps
  unfolding graph_map span_count
  spans-kept = kept-count M ps

  boundaries-kept : length K.boundaries ≡ length ps
  unfolding graph_map
  boundaries-kept = kept-boundaries M ps

  kept-few : length ps ≤ spans
  unfolding kept_numbers
  kept-few = omega (arith, collect-few size (λ i. only_if (is_kept L.pass M i) i), same_count L A E)

  whole_parts : (is_whole numbers_per_span L.spans ≡ true) × (is_whole numbers_per_boundary L.boundaries ≡ true) × (is_whole numbers_per_anchor L.anchors ≡ true)
  whole_parts =
      let p = both (is_whole numbers_per_span L.spans && is_whole numbers_per_boundary L.boundaries) (is_whole numbers_per_anchor L.anchors) A.whole in
      let q = both (is_whole numbers_per_span L.spans) (is_whole numbers_per_boundary L.boundaries) p.0 in
      (q.0, q.1, p.1)

  pub spans-few : spans ≤ 256
  spans-few = leb-true spans 256 (both (eqb (length L.spans % 4) 0) (leb spans 256) whole_parts.0).1

  pub spans-long : length L.spans ≤ 1024
  spans-long = omega (arith, eqb-true (length L.spans % 4) 0 (both (eqb (length L.spans % 4) 0) (leb spans 256) whole_parts.0).0, spans-few)

  -- ---- the checks, one by one

  whole : (is_whole numbers_per_span (flat_spans K.spans) && is_whole numbers_per_boundary (flat_boundaries K.boundaries) && is_whole numbers_per_anchor L.anchors) ≡ true
  whole =
      ap₂ ◌&&◌
      (ap₂ ◌&&◌
      (ap₂ ◌&&◌ (eq-eqb (length (flat_spans K.spans) % 4) 0 (omega (arith, flat_spans-length K.spans)))
      (le-leb (length (flat_spans K.spans) / 4) 256 (omega (arith, span_count_lem K.spans, spans-kept, kept-few, spans-few))))
      (ap₂ ◌&&◌ (eq-eqb (length (flat_boundaries K.boundaries) % 9) 0 (omega (arith, flat_boundaries-length K.boundaries)))
      (le-leb (length (flat_boundaries K.boundaries) / 9) 256 (omega (arith, flat.boundary_count_lem K.boundaries, boundaries-kept, kept-few, spans-few)))))
      whole_parts.2

  span_same : (i : ℕ) → i < length ps → segment_at (flat_spans K.spans) (4 * i) ≡ (boundary_of M (get_or ps i 0)).endpoints
  unfolding graph_map span_of
  span_same i k = span_at_lem K.spans i (omega (arith, spans-kept)) ∙ kept-endpoints M ps i k ∙ ap (λ b. b.endpoints) (kept-boundary M ps i k)

  span_fits : (i : ℕ) → i < length ps → span_refusal w h (flat_spans K.spans) i ≡ None
  span_fits i k =
      let n = get_or ps i 0 in
      let C = rest-checked L A E in
      ap (λ s. or_else (outside_at w h i s) (equal_at i s)) (span_same i k)
      ∙ ap₂ (λ p q. or_else (only_if (not p) (number 5 i)) (only_if (not q) (number 6 i))) (fits-parts w h (boundary_of M n) (lent_fits L C n (place_lt i k))).0 (lent-differ L C n (place_lt i k))
    where
      number : ℕ → ℕ → Refusal
      number n i = record { number = n; place = i }

  spans_fit : spans_refusal w h (flat_spans K.spans) ≡ None
  unfolding spans_refusal
  spans_fit = first_none (span_refusal w h (flat_spans K.spans)) (length (flat_spans K.spans) / 4) (λ i l. span_fits i (omega (arith, span_count_lem K.spans, spans-kept)))

  boundary_fits_lem : (i : ℕ) → i < length ps → boundary_fits w h (boundary_at (flat_boundaries K.boundaries) (9 * i)) ≡ true
  unfolding graph_map boundary_of
  boundary_fits_lem i k =
      ap (boundary_fits w h) (boundary_at_lem K.boundaries i (omega (arith, boundaries-kept)) ∙ kept-boundary M ps i k) ∙ lent_fits L (rest-checked L A E) (get_or ps i 0) (place_lt i k)

  boundaries-fit : boundaries_fault w h (flat_boundaries K.boundaries) ≡ None
  unfolding boundaries_fault
  boundaries-fit =
      first_none (λ i. only_if (not (boundary_fits w h (boundary_at (flat_boundaries K.boundaries) (9 * i)))) i) (length (flat_boundaries K.boundaries) / 9)
      (λ i l. ap (λ b. only_if (not b) i) (boundary_fits_lem i (omega (arith, flat.boundary_count_lem K.boundaries, boundaries-kept))))

  -- ---- all of them

  -- the map that a call with these lists reads
  pub second-map : map_of w h L.cells (flat_spans K.spans) (flat_boundaries K.boundaries) L.anchors ≡ K
  unfolding map_in map_of graph_map kept_map map_with
  second-map = flat_map w h L.cells L.anchors K.spans K.boundaries

  module _ (l m q t : ℕ) (labels_long : l ≡ length L.labels) (masks_long : m ≡ length L.masks) (queue_long_lem : q ≡ length L.queue) (tallies_long : t ≡ length L.tallies) where
    room : (partition_room (w * h) (length (flat_spans K.spans) / 4) l m q t && output_room (length (flat_boundaries K.boundaries) / 9) 1280) ≡ true
    room =
        let p = both (partition_has_room L) (output_room (length L.boundaries / 9) (length L.output)) A.room in
        let q = both (leb (w * h) (length L.labels) && leb (w * h) (length L.masks) && leb (w * h) (length L.queue)) (leb (2 * spans) (length L.tallies)) p.0 in
        let r = both (leb (w * h) (length L.labels) && leb (w * h) (length L.masks)) (leb (w * h) (length L.queue)) q.0 in
        let s = both (leb (w * h) (length L.labels)) (leb (w * h) (length L.masks)) r.0 in
        ap₂ ◌&&◌
        (ap₂ ◌&&◌
        (ap₂ ◌&&◌ (ap₂ ◌&&◌ (ap (leb (w * h)) labels_long ∙ s.0) (ap (leb (w * h)) masks_long ∙ s.1)) (ap (leb (w * h)) queue_long_lem ∙ r.1))
        (le-leb (2 * (length (flat_spans K.spans) / 4)) t (omega (arith, span_count_lem K.spans, spans-kept, kept-few, leb-true (2 * spans) (length L.tallies) q.1, tallies_long))))
        (le-leb (5 * (length (flat_boundaries K.boundaries) / 9)) 1280 (omega (arith, flat.boundary_count_lem K.boundaries, boundaries-kept, kept-few, spans-few)))

    pub second-early : None ≡ early_refusal 1 w h L.cells (flat_spans K.spans) (flat_boundaries K.boundaries) L.anchors l m q t 1280
    unfolding early_refusal sizes_refusal entries_refusal
    second-early =
        next (sym (next (ap (refusal 1) A.sides) (next (ap (refusal 2) A.cells) (next (ap (λ b. refusal 3 (unless b)) whole) refl))))
        (next (sym (next spans_fit (next (ap (refusal 7) boundaries-fit) (next (ap (refusal 8) A.anchors) (sym (ap (refusal 9) A.elevations))))))
        (sym (ap (λ b. refusal 10 (unless b)) room)))
