-- The calls that a run to rest makes. An accepted run lends each pass what is kept, in flat lists, with lists to fill that are as long as its own: the call
-- that runs a pass reads from them the kept map (`inner-map`), finds no fault (`inner-accepted`) and answers with how many are left (`inner-verdict`). So no
-- call of the run is refused but by what refuses the run itself. Assumes that the run is accepted.
use Prim.Native.Nat.{ℕ, ◌*◌, ◌/◌, ◌%◌, ◌≤◌, ◌<◌, max}
use Rattle.std.proofs.Common.{arith, sym, ◌∙◌}
use Rattle.std.specs.Prelude.{◌≡◌, refl, Bool, true, false, not, cond, List, [], ◌∷◌, eqb, ltb, leb, Option, None}
use Rattle.std.proofs.Math.Path.{ap, ap₂}
use Rattle.std.proofs.Math.Bool.{◌&&◌}
use Rattle.std.proofs.Math.ListN.{length, get_or}
use Rattle.std.proofs.lemmas.List.{length-map}
use borrow.Author.Tests.{ltb-true, ltb-false, leb-true, le-leb, eq-eqb, eqb-true}
use Rattle.definitions.specs.Limits.{numbers_per_span, numbers_per_boundary, numbers_per_anchor}
use Rattle.definitions.specs.Scan.{only_if, run}
use Rattle.definitions.specs.Grid.{Map, Position, position_lt, Segment, no_boundary, segment_at, boundary_at, canonical, map_of, span_count, span_of, boundary_of}
use Rattle.definitions.specs.Partition.{region_count}
use Rattle.definitions.specs.RegionRecord.{Region}
use Rattle.definitions.specs.Context.{context_of}
use Rattle.definitions.specs.Rows.{rows_of}
use Rattle.definitions.specs.Refusals.{Refusal, or_else, first_below_lem, unless, is_whole, pass_fault, is_on_map, both_on_map, endpoints_differ, spans_refusal, boundary_fits, boundaries_fault, output_room}
use Rattle.definitions.specs.Verdict.{Lent, map_in, refusal, first_refusal, records_fault, pair_rows_of, pairs_fault, partition_has_room, verdict}
use Rattle.laws.specs.ListLaws.Lists.{done, more, get_d_tab}
use Rattle.laws.specs.ListLaws.Members.{all-place}
use Rattle.laws.specs.ListLaws.Tests.{both}
use Rattle.laws.specs.ListLaws.NoFault.{no_fault_lem, none_at, none_faulty, or_else_none}
use Rattle.laws.specs.TableLaws.AcceptedCalls.{Accepted, fits-parts}
use Rattle.laws.specs.TableLaws.KeptRows.{boundary_count_lem}
use Rattle.laws.specs.OrderLaws.ListOrder.{eqb_sym}
use Rattle.rest_definitions.specs.RowOrder.{start_rows, no_row, turned, map_with, start_map}
use Rattle.rest_definitions.specs.Rest.{kept_map, passed}
use Rattle.rest_definitions.specs.RestVerdict.{lists_fault, same_point_lem}
use Rattle.rest.specs.Picking.{first_none}
use Rattle.rest.specs.StartMaps.{names, start-count, start-boundaries, start-boundary}
use Rattle.rest.specs.KeptMaps.{kept-count, kept-boundaries, kept-boundary, kept-endpoints}
use Rattle.rest.specs.FewerPairs.{Reached}
use Rattle.rest.specs.RowsInOrder.{start-ordered, passed-rows}
use Rattle.rest.specs.Runs.{start-kept, reached-ascends, run-fewer}
use Rattle.rest.specs.FlatLists.{flat_spans, flat_boundaries, flat_spans-length, flat_boundaries-length, span_count_lem, span_at_lem, boundary_at_lem, flat_map}
use Rattle.rest.specs.FlatLists as flat
use Rattle.rest.specs.AcceptedRuns.{skip, verdict_of_lem}
pub use Rattle.rest.specs.AcceptedRuns.{RestChecked, RestAccepted, Unfaulted, rest-accepted, all_none, two_faults, checked-answer, accepted-answer}

-- ---- what passes checks 5 to 7 passes them turned

turned_on : (w h : ℕ) (s : Segment) → both_on_map w h s ≡ true → both_on_map w h (canonical s) ≡ true
unfolding canonical
turned_on w h s k = go (position_lt s.b s.a)
  where
    go : (b : Bool) → both_on_map w h (cond b (record { a = s.b; b = s.a }) s) ≡ true
    go true =
        let p = both (is_on_map w h s.a) (is_on_map w h s.b) k in
        ap₂ ◌&&◌ p.1 p.0
    go false = k

turned-differ : (s : Segment) → endpoints_differ s ≡ true → endpoints_differ (canonical s) ≡ true
unfolding canonical
turned-differ s k = go (position_lt s.b s.a)
  where
    go : (b : Bool) → endpoints_differ (cond b (record { a = s.b; b = s.a }) s) ≡ true
    go true = ap₂ (λ p q. not (p && q)) (eqb_sym s.b.x s.a.x) (eqb_sym s.b.y s.a.y) ∙ k
    go false = k

-- 5 and 6 of one span
abbrev pub outside_at : ℕ → ℕ → ℕ → Segment → Option Refusal
outside_at w h i s = only_if (not (both_on_map w h s)) (record { number = 5; place = i })

abbrev pub equal_at : ℕ → Segment → Option Refusal
equal_at i s = only_if (not (endpoints_differ s)) (record { number = 6; place = i })

abbrev pub span_refusal : ℕ → ℕ → List ℕ → ℕ → Option Refusal
span_refusal w h spans i = or_else (outside_at w h i (segment_at spans (4 * i))) (equal_at i (segment_at spans (4 * i)))

-- ---- the kept boundaries of an accepted run

module _ (L : Lent) (A : RestChecked L) where
  abbrev w : ℕ
  w = L.width

  abbrev h : ℕ
  h = L.height

  abbrev M : Map
  M = map_in L

  abbrev S : Map
  S = start_map M

  abbrev size : ℕ
  size = length M.boundaries

  abbrev lent_spans : ℕ
  lent_spans = length L.spans / numbers_per_span

  pub lent-count : size ≡ length L.boundaries / 9
  lent-count = boundary_count_lem L

  pub lent-boundary : (i : ℕ) → i < size → boundary_of M i ≡ boundary_at L.boundaries (9 * i)
  unfolding boundary_of map_in map_of
  lent-boundary i k = get_d_tab (λ i. boundary_at L.boundaries (9 * i)) no_boundary (length L.boundaries / 9) i (omega (arith, lent-count))

  pub lent_fits : (i : ℕ) → i < size → boundary_fits w h (boundary_of M i) ≡ true
  lent_fits i k =
      ap (boundary_fits w h) (lent-boundary i k)
      ∙ none_faulty (λ k. boundary_fits w h (boundary_at L.boundaries (9 * k))) (length L.boundaries / 9) (unfold boundaries_fault in A.boundaries) i (omega (arith, lent-count))

  -- 16 found no fault: what is a boundary is a span, with the same endpoints
  abbrev pub agrees : ℕ → Bool
  agrees i =
      ltb i lent_spans && ltb i (length L.boundaries / 9) && same_point_lem (segment_at L.spans (4 * i)).a (segment_at L.boundaries (9 * i)).a
      && same_point_lem (segment_at L.spans (4 * i)).b (segment_at L.boundaries (9 * i)).b

  pub agree : (i : ℕ) → i < max lent_spans (length L.boundaries / 9) → agrees i ≡ true
  agree i k = none_faulty agrees (max lent_spans (length L.boundaries / 9)) (unfold lists_fault in A.lists) i k

  pub spans-enough : size ≤ lent_spans
  spans-enough = go (ltb lent_spans size) refl
    where
      go : (b : Bool) → ltb lent_spans size ≡ b → size ≤ lent_spans
      go true e =
          let k = ltb-true lent_spans size e in
          let p = both (ltb lent_spans lent_spans && ltb lent_spans (length L.boundaries / 9) && same_point_lem (segment_at L.spans (4 * lent_spans)).a (segment_at L.boundaries (9 * lent_spans)).a) _ (agree lent_spans (omega (arith, k, lent-count))) in
          let q = both (ltb lent_spans lent_spans && ltb lent_spans (length L.boundaries / 9)) _ p.0 in
          let r = both (ltb lent_spans lent_spans) _ q.0 in
          absurd (omega (arith, ltb-true lent_spans lent_spans r.0))
      go false e = omega (arith, ltb-false lent_spans size e)

  same_point : (p q : Position) → same_point_lem p q ≡ true → p ≡ q
  same_point p q e =
      let b = both (eqb p.x q.x) (eqb p.y q.y) e in
      λ t. record { x = eqb-true p.x q.x b.0 t; y = eqb-true p.y q.y b.1 t }

  pub lent-span : (i : ℕ) → i < size → segment_at L.spans (4 * i) ≡ (boundary_of M i).endpoints
  lent-span i k =
      let s = segment_at L.spans (4 * i) in
      let b = segment_at L.boundaries (9 * i) in
      let p = both (ltb i lent_spans && ltb i (length L.boundaries / 9) && same_point_lem s.a b.a) (same_point_lem s.b b.b) (agree i (omega (arith, k, lent-count))) in
      let q = both (ltb i lent_spans && ltb i (length L.boundaries / 9)) (same_point_lem s.a b.a) p.0 in
      let first = same_point s.a b.a q.1 in
      let second = same_point s.b b.b p.1 in
      (λ t. record { a = first t; b = second t }) ∙ sym (ap (λ c. c.endpoints) (lent-boundary i k))

  pub lent-differ : (i : ℕ) → i < size → endpoints_differ (boundary_of M i).endpoints ≡ true
  lent-differ i k =
      let none_there : first_below_lem lent_spans (span_refusal w h L.spans) ≡ None = unfold spans_refusal in A.spans in
      let at : or_else (outside_at w h i (segment_at L.spans (4 * i))) (equal_at i (segment_at L.spans (4 * i))) ≡ None = none_at (span_refusal w h L.spans) lent_spans none_there i (omega (arith, k, spans-enough)) in
      ap endpoints_differ (sym (lent-span i k))
      ∙ no_fault_lem (endpoints_differ (segment_at L.spans (4 * i))) (record { number = 6; place = i }) (or_else_none (outside_at w h i (segment_at L.spans (4 * i))) (equal_at i (segment_at L.spans (4 * i))) at).1

  -- the starting boundary at place k fits, and its endpoints differ
  start_fits : (k : ℕ) → k < size → boundary_fits w h (boundary_of S k) ≡ true
  unfolding boundary_fits turned
  start_fits k l =
      let n = names M k l in
      let p = fits-parts w h (boundary_of M (get_or (start_rows M) k no_row).number) (lent_fits (get_or (start_rows M) k no_row).number n.listed) in
      ap (boundary_fits w h) (start-boundary M k l)
      ∙ ap₂ ◌&&◌ (ap₂ ◌&&◌ (ap (both_on_map w h) n.line ∙ turned_on w h (boundary_of M (get_or (start_rows M) k no_row).number).endpoints p.0) p.1) p.2

  start-differ : (k : ℕ) → k < size → endpoints_differ (boundary_of S k).endpoints ≡ true
  unfolding turned
  start-differ k l =
      let n = names M k l in
      ap (λ b. endpoints_differ b.endpoints) (start-boundary M k l) ∙ ap endpoints_differ n.line ∙ turned-differ (boundary_of M (get_or (start_rows M) k no_row).number).endpoints (lent-differ (get_or (start_rows M) k no_row).number n.listed)

  -- ---- a call of the run: for a pass, at what is kept, with these lists to fill

  module _
      (pass : ℕ) (isPass : pass_fault pass ≡ None) (ps : List ℕ) (reached : Reached S (run 0 (length S.boundaries)) ps)
      (labels masks queue tallies pairs : List ℕ) (records : List Region) (output : List ℕ)
      (labels_long : length labels ≡ length L.labels) (masks_long : length masks ≡ length L.masks) (queue_long_lem : length queue ≡ length L.queue)
      (tallies_long : length tallies ≡ length L.tallies) (pairs_long : length pairs ≡ length L.pairs) (records_long : length records ≡ length L.records)
      (output_long : 5 * 256 ≤ length output) where
    abbrev K : Map
    K = kept_map S ps

    abbrev pub inner : Lent
    inner =
        record {
          pass = pass;
          width = w;
          height = h;
          cells = L.cells;
          spans = flat_spans K.spans;
          boundaries = flat_boundaries K.boundaries;
          anchors = L.anchors;
          labels = labels;
          masks = masks;
          queue = queue;
          tallies = tallies;
          pairs = pairs;
          records = records;
          output = output;
        }

    pub inner-map : map_in inner ≡ K
    unfolding map_in map_of start_map kept_map map_with
    inner-map = flat_map w h L.cells L.anchors K.spans K.boundaries

    pub kept-few : length ps ≤ size
    kept-few = omega (arith, (run-fewer M reached).spans, kept-count S ps, start-count M)

    pub at_most_256 : size ≤ 256
    at_most_256 =
        let p = both (is_whole numbers_per_span L.spans && is_whole numbers_per_boundary L.boundaries) (is_whole numbers_per_anchor L.anchors) A.whole in
        let q = both (is_whole numbers_per_span L.spans) (is_whole numbers_per_boundary L.boundaries) p.0 in
        let r = both (eqb (length L.boundaries % 9) 0) (leb (length L.boundaries / 9) 256) q.1 in
        omega (arith, leb-true (length L.boundaries / 9) 256 r.1, lent-count)

    anchors-whole : is_whole numbers_per_anchor L.anchors ≡ true
    anchors-whole = (both (is_whole numbers_per_span L.spans && is_whole numbers_per_boundary L.boundaries) (is_whole numbers_per_anchor L.anchors) A.whole).1

    spans-kept : length K.spans ≡ length ps
    unfolding span_count
    spans-kept = kept-count S ps

    place_lt : (i : ℕ) → i < length ps → get_or ps i 0 < size
    place_lt i l = omega (arith, all-place 0 (reached-ascends M reached).within i l, start-boundaries M)

    -- 3
    whole : (is_whole numbers_per_span (flat_spans K.spans) && is_whole numbers_per_boundary (flat_boundaries K.boundaries) && is_whole numbers_per_anchor L.anchors) ≡ true
    whole =
        ap₂ ◌&&◌
        (ap₂ ◌&&◌
        (ap₂ ◌&&◌ (eq-eqb (length (flat_spans K.spans) % 4) 0 (omega (arith, flat_spans-length K.spans))) (le-leb (length (flat_spans K.spans) / 4) 256 (omega (arith, span_count_lem K.spans, spans-kept, kept-few, at_most_256))))
        (ap₂ ◌&&◌ (eq-eqb (length (flat_boundaries K.boundaries) % 9) 0 (omega (arith, flat_boundaries-length K.boundaries)))
        (le-leb (length (flat_boundaries K.boundaries) / 9) 256 (omega (arith, flat.boundary_count_lem K.boundaries, kept-boundaries S ps, kept-few, at_most_256)))))
        anchors-whole

    -- 5 and 6
    span_fits : (i : ℕ) → i < length ps → span_refusal w h (flat_spans K.spans) i ≡ None
    unfolding span_of
    span_fits i l =
        let k = get_or ps i 0 in
        let same : segment_at (flat_spans K.spans) (4 * i) ≡ (boundary_of S k).endpoints = span_at_lem K.spans i (omega (arith, spans-kept)) ∙ kept-endpoints S ps i l ∙ ap (λ b. b.endpoints) (kept-boundary S ps i l) in
        let on = (fits-parts w h (boundary_of S k) (start_fits k (place_lt i l))).0 in
        ap (λ s. or_else (outside_at w h i s) (equal_at i s)) same
        ∙ ap₂ (λ p q. or_else (only_if (not p) (six 5 i)) (only_if (not q) (six 6 i))) on (start-differ k (place_lt i l))
      where
        six : ℕ → ℕ → Refusal
        six n i = record { number = n; place = i }

    spans_fit : spans_refusal w h (flat_spans K.spans) ≡ None
    unfolding spans_refusal
    spans_fit = first_none (span_refusal w h (flat_spans K.spans)) (length (flat_spans K.spans) / 4) (λ i l. span_fits i (omega (arith, span_count_lem K.spans, spans-kept)))

    -- 7
    boundary_fits_lem : (i : ℕ) → i < length ps → boundary_fits w h (boundary_at (flat_boundaries K.boundaries) (9 * i)) ≡ true
    unfolding boundary_of
    boundary_fits_lem i l =
        ap (boundary_fits w h) (boundary_at_lem K.boundaries i (omega (arith, kept-boundaries S ps)) ∙ kept-boundary S ps i l) ∙ start_fits (get_or ps i 0) (place_lt i l)

    boundaries-fit : boundaries_fault w h (flat_boundaries K.boundaries) ≡ None
    unfolding boundaries_fault
    boundaries-fit =
        first_none (λ i. only_if (not (boundary_fits w h (boundary_at (flat_boundaries K.boundaries) (9 * i)))) i) (length (flat_boundaries K.boundaries) / 9)
        (λ i l. ap (λ b. only_if (not b) i) (boundary_fits_lem i (omega (arith, flat.boundary_count_lem K.boundaries, kept-boundaries S ps))))

    -- 10
    room : (partition_has_room inner && output_room (length (flat_boundaries K.boundaries) / 9) (length output)) ≡ true
    room =
        let p = both (partition_has_room L) (output_room (length L.boundaries / 9) (length L.output)) A.room in
        let q = both (leb (w * h) (length L.labels) && leb (w * h) (length L.masks) && leb (w * h) (length L.queue)) (leb (2 * lent_spans) (length L.tallies)) p.0 in
        let r = both (leb (w * h) (length L.labels) && leb (w * h) (length L.masks)) (leb (w * h) (length L.queue)) q.0 in
        let s = both (leb (w * h) (length L.labels)) (leb (w * h) (length L.masks)) r.0 in
        ap₂ ◌&&◌
        (ap₂ ◌&&◌
        (ap₂ ◌&&◌ (ap₂ ◌&&◌ (ap (leb (w * h)) labels_long ∙ s.0) (ap (leb (w * h)) masks_long ∙ s.1)) (ap (leb (w * h)) queue_long_lem ∙ r.1))
        (le-leb (2 * (length (flat_spans K.spans) / 4)) (length tallies) (omega (arith, span_count_lem K.spans, spans-kept, kept-few, spans-enough, leb-true (2 * lent_spans) (length L.tallies) q.1, tallies_long))))
        (le-leb (5 * (length (flat_boundaries K.boundaries) / 9)) (length output) (omega (arith, flat.boundary_count_lem K.boundaries, kept-boundaries S ps, kept-few, at_most_256, output_long)))

    -- no check before 11 refuses the call
    pub inner-unfaulted : Unfaulted inner
    inner-unfaulted =
        record {
          sides = A.sides;
          cells = A.cells;
          whole = whole;
          pass = isPass;
          spans = spans_fit;
          boundaries = boundaries-fit;
          anchors = A.anchors;
          elevations = A.elevations;
          room = room;
        }

    -- the call without a fault before 11, whose two answers are given
    inner_with : records_fault inner (map_in inner) ≡ None → pairs_fault inner (map_in inner) ≡ None → Accepted inner
    inner_with eleven twelve =
        record {
          sides = A.sides;
          cells = A.cells;
          whole = whole;
          pass = isPass;
          spans = spans_fit;
          boundaries = boundaries-fit;
          anchors = A.anchors;
          elevations = A.elevations;
          room = room;
          records = eleven;
          pairs = twelve;
        }

    module _ (eleven : records_fault L S ≡ None) (twelve : pairs_fault L S ≡ None) where
      records-enough : records_fault inner (map_in inner) ≡ None
      unfolding records_fault
      records-enough =
          let first = leb-true (region_count S) (length L.records) (no_fault_lem (leb (region_count S) (length L.records)) 0 eleven) in
          ap (λ N. unless (leb (region_count N) (length records))) inner-map
          ∙ ap (λ b. unless b) (le-leb (region_count K) (length records) (omega (arith, first, (run-fewer M reached).regions, records_long)))

      pairs-enough : pairs_fault inner (map_in inner) ≡ None
      unfolding pairs_fault
      pairs-enough =
          let lent = length L.pairs / 3 * 3 in
          let first : length (pair_rows_of (context_of S)) ≤ lent = leb-true (length (pair_rows_of (context_of S))) lent (no_fault_lem (leb (length (pair_rows_of (context_of S))) lent) 0 twelve) in
          ap (λ N. unless (leb (length (pair_rows_of (context_of N))) (length pairs / 3 * 3))) inner-map
          ∙ ap (λ n. unless (leb (length (pair_rows_of (context_of K))) (n / 3 * 3))) pairs_long
          ∙ ap (λ b. unless b) (le-leb (length (pair_rows_of (context_of K))) lent (omega (arith, first, (run-fewer M reached).pairs)))

      -- no call of the run is refused
      pub inner-accepted : Accepted inner
      inner-accepted = inner_with records-enough pairs-enough

      -- it answers with how many are left
      pub inner-verdict : verdict inner ≡ record { number = 0; value = length (passed pass S ps) }
      inner-verdict =
          verdict_of_lem inner inner-accepted
          ∙ ap (λ n. record { number = 0; value = n })
          (ap (λ N. length (rows_of pass N)) inner-map ∙ sym (length-map (rows_of pass K) (λ r. get_or ps r.number 0)) ∙ ap length (passed-rows S (start-ordered M) ps (reached-ascends M reached) pass))

    -- ---- the first call

    module _ (is_first : ps ≡ run 0 (length S.boundaries)) where
      pub first_map : map_in inner ≡ S
      first_map = inner-map ∙ ap (kept_map S) is_first ∙ start-kept M

      -- it is refused 11 or 12 exactly when the run is
      pub first_records : records_fault inner (map_in inner) ≡ records_fault L S
      unfolding records_fault
      first_records = ap₂ (λ N n. unless (leb (region_count N) n)) first_map records_long

      pub first_pairs : pairs_fault inner (map_in inner) ≡ pairs_fault L S
      unfolding pairs_fault
      first_pairs = ap₂ (λ N n. unless (leb (length (pair_rows_of (context_of N))) (n / 3 * 3))) first_map pairs_long

      -- so it answers by the run's own 11 and 12, and the rows that it keeps
      pub first_verdict : verdict inner ≡ first_refusal (two_faults L S) (length (rows_of pass S))
      unfolding verdict
      first_verdict =
          skip (two_faults inner (map_in inner)) (length (rows_of pass (map_in inner)))
          (more (ap (refusal 1) A.sides)
          (more (ap (refusal 2) A.cells)
          (more (ap (λ b. refusal 3 (unless b)) whole)
          (more (ap (refusal 4) isPass)
          (more spans_fit
          (more (ap (refusal 7) boundaries-fit)
          (more (ap (refusal 8) A.anchors) (more (ap (refusal 9) A.elevations) (more (ap (λ b. refusal 10 (unless b)) room) done)))))))))
          ∙ (λ t. first_refusal (refusal 11 (first_records t) ∷ refusal 12 (first_pairs t) ∷ []) (length (rows_of pass (first_map t))))
