-- The starting map against the map as lent: its boundary at place k is the one that row k of the starting list names, turned to canonical endpoints, and cuts
-- the same steps, since a span is made canonical before it cuts. So it cuts the island where the lent one does, and the premises of an island pass over to it
-- (`start-island`).
use Rattle.std.specs.Prelude.{ℕ, zero, suc, ◌+◌, ◌<◌, ◌≡◌, Bool, length, get_or}
use Rattle.std.proofs.Common.{arith, add-one, ◌∙◌, true≢false}
use Rattle.std.proofs.Math.Path.{refl, sym, ap, ap₂}
use Rattle.std.proofs.Math.Bool.{true, false, not, ◌&&◌}
use mathlib.Core.List.{map}
use Rattle.std.proofs.Math.ListN.{length-map, get_or-eq_default}
use Rattle.std.proofs.Math.Dec.{eqb, ltb}
use borrow.Author.Tests.{ltb-true, ltb-false, lt-ltb}
use Rattle.definitions.specs.Scan.{any, filter, concat_map, collect, only_if, count_below}
use Rattle.definitions.specs.Sort.{list_lt}
use Rattle.definitions.specs.Grid.{Map, Segment, Boundary, no_segment, no_boundary, canonical, span_count, span_of, boundary_of, is_step, onward, edge}
use Rattle.definitions.specs.Spans.{cuts, candidate_positions, cut_steps}
use Rattle.definitions.specs.Rows.{Row, row_key, rows_from}
use Rattle.laws.specs.ListLaws.Lists.{All}
use Rattle.laws.specs.ListLaws.Members.{all-place}
use Rattle.laws.specs.ListLaws.Scans.{picked-length}
use Rattle.laws.specs.ListLaws.ScansOfAll.{collect-below}
use Rattle.laws.specs.ListLaws.Options.{on_only, on_list}
use Rattle.laws.specs.ListLaws.SortedMembers.{length-sort}
use Rattle.laws.specs.OrderLaws.StableSort.{all-sort}
use Rattle.laws.specs.OrderLaws.Endpoints.{canonical-twice}
use Rattle.island.specs.Premises.{cuts_island, cuts_remainder, Island}
use Rattle.island.specs.Restrict.{cuts_lt}
use Rattle.rest_definitions.specs.RowOrder.{start_rows, no_row, turned, map_with, start_map}
use Rattle.rest.specs.Picking.{get_d_mapped}
use Rattle.rest.specs.KeptMaps.{cut_by}

-- ---- the starting list

pub count-all : (n : ℕ) → count_below n (λ i. true) ≡ n
unfolding count_below
count-all zero = refl
count-all (suc n) = ap (λ m. m + 1) (count-all n) ∙ add-one n

module _ (M : Map) where
  abbrev size : ℕ
  size = length M.boundaries

  abbrev start_row : ℕ → Row
  start_row k = get_or (start_rows M) k no_row

  pub start-length : length (start_rows M) ≡ size
  unfolding start_rows rows_from
  start-length =
      length-sort (λ r s. list_lt (row_key r) (row_key s)) (collect size (λ i. only_if true (record { number = i; line = canonical (boundary_of M i).endpoints })))
      ∙ picked-length (λ i. true) (λ i. record { number = i; line = canonical (boundary_of M i).endpoints }) size ∙ count-all size

  -- a row of the starting list names a boundary and has its canonical endpoints
  pub record Names (r : Row) : Type 0 where
    pub listed : r.number < size
    pub line : r.line ≡ canonical (boundary_of M r.number).endpoints

  pub start-names : All Names (start_rows M)
  unfolding start_rows rows_from
  start-names =
      all-sort Names (λ r s. list_lt (row_key r) (row_key s))
      (collect-below Names _ size (λ i h. on_list (on_only true (record { number = i; line = canonical (boundary_of M i).endpoints }) (record { listed = h; line = refl }))))

  abbrev S : Map
  S = start_map M

  pub start-boundaries : length S.boundaries ≡ size
  unfolding start_map map_with
  start-boundaries = length-map (start_rows M) (turned M) ∙ start-length

  pub start-count : span_count S ≡ size
  unfolding span_count start_map map_with
  start-count = length-map (map (turned M) (start_rows M)) (λ b. b.endpoints) ∙ length-map (start_rows M) (turned M) ∙ start-length

  pub start-boundary : (k : ℕ) → k < size → boundary_of S k ≡ turned M (start_row k)
  unfolding start_map map_with boundary_of
  start-boundary k h = get_d_mapped (turned M) (start_rows M) no_row no_boundary k (omega (arith, start-length))

  start-endpoints : (k : ℕ) → k < size → span_of S k ≡ (boundary_of S k).endpoints
  unfolding start_map map_with span_of boundary_of
  start-endpoints k h = get_d_mapped (λ b. b.endpoints) (map (turned M) (start_rows M)) no_boundary no_segment k (omega (arith, length-map (start_rows M) (turned M), start-length))

  -- ---- what the lent spans cut, and the starting ones

  abbrev number : ℕ → ℕ
  number k = (start_row k).number

  pub names : (k : ℕ) → k < size → Names (start_row k)
  names k h = all-place no_row start-names k (omega (arith, start-length))

  start-cut : (k : ℕ) → k < size → cut_steps S k ≡ cut_by M (boundary_of M (number k)).endpoints
  unfolding cut_steps cut_by start_map map_with onward is_step
  start-cut k h =
      ap (cut_by M) (start-endpoints k h ∙ ap (λ b. b.endpoints) (start-boundary k h) ∙ (names k h).line) ∙ twice (boundary_of M (number k)).endpoints
    where
      twice : (s : Segment) → cut_by M (canonical s) ≡ cut_by M s
      twice s = ap (λ g. concat_map (λ p. map (edge M p) (filter (cuts g p) (onward M p))) (candidate_positions M.width M.height g)) (canonical-twice s)

  module _ (isl : ℕ → Bool) (I : Island M isl) where
    abbrev count : ℕ
    count = span_count M

    cut-lent : (k : ℕ) → k < size → cut_steps S k ≡ cut_steps M (number k)
    unfolding cut_steps cut_by
    cut-lent k h = start-cut k h ∙ ap (cut_by M) (sym (I.same_endpoints (number k) (omega (arith, (names k h).listed, I.equally_many))))

    below : (k : ℕ) → k < size → ltb k (span_count S) ≡ ltb (number k) (span_count M)
    below k h = lt-ltb k (span_count S) (omega (arith, start-count)) ∙ sym (lt-ltb (number k) (span_count M) (omega (arith, (names k h).listed, I.equally_many)))

    -- the starting boundary at place k cuts the island where the lent one does
    pub start-cuts : (k : ℕ) → k < size → cuts_island S isl k ≡ cuts_island M isl (number k)
    unfolding cuts_island
    start-cuts k h = ap₂ ◌&&◌ (below k h) (ap (any (λ e. isl e.lo && isl e.hi)) (cut-lent k h))

    start-remainder : (k : ℕ) → k < size → cuts_remainder S isl k ≡ cuts_remainder M isl (number k)
    unfolding cuts_remainder
    start-remainder k h = ap₂ ◌&&◌ (below k h) (ap (any (λ e. not (isl e.lo) && not (isl e.hi))) (cut-lent k h))

    start_lt : (k : ℕ) → cuts_island S isl k ≡ true → k < size
    start_lt k h = omega (arith, cuts_lt S isl k h, start-count)

    ramp_lt : (k : ℕ) → eqb (boundary_of S k).kind 0 ≡ false → k < size
    unfolding boundary_of
    ramp_lt k h = go (ltb k size) refl
      where
        go : (b : Bool) → ltb k size ≡ b → k < size
        go true e = ltb-true _ _ e
        go false e =
            absurd
            (true≢false (sym (ap (λ (b : Boundary). eqb b.kind 0) (get_or-eq_default S.boundaries no_boundary {n = k} (omega (arith, ltb-false k size e, start-boundaries)))) ∙ h))

    pub start-island : Island S isl
    unfolding start_map map_with is_step turned
    start-island =
        record {
          apart = I.apart;
          one_sided = λ k. one_sided_lem k (cuts_island S isl k) refl;
          ramp_ids = ramps;
          equally_many = start-boundaries ∙ sym start-count;
          same_endpoints = λ k h. start-endpoints k (omega (arith, start-count));
        }
      where
        one_sided_lem : (k : ℕ) (b : Bool) → cuts_island S isl k ≡ b → (cuts_island S isl k && cuts_remainder S isl k) ≡ false
        one_sided_lem k true e = ap₂ ◌&&◌ (start-cuts k (start_lt k e)) (start-remainder k (start_lt k e)) ∙ I.one_sided (number k)
        one_sided_lem k false e = ap (λ b. b && cuts_remainder S isl k) e

        ramps : (i j : ℕ) → cuts_island S isl i ≡ true → cuts_island S isl j ≡ false → eqb (boundary_of S i).kind 0 ≡ false
            → eqb (boundary_of S j).kind 0 ≡ false → eqb (boundary_of S j).ramp_id (boundary_of S i).ramp_id ≡ false
        ramps i j a b c d =
            let h = start_lt i a in
            let k = ramp_lt j d in
            ap₂ (λ (x y : Boundary). eqb x.ramp_id y.ramp_id) (start-boundary j k) (start-boundary i h)
            ∙ I.ramp_ids (number i) (number j) (sym (start-cuts i h) ∙ a) (sym (start-cuts j k) ∙ b) (sym (ap (λ (x : Boundary). eqb x.kind 0) (start-boundary i h)) ∙ c)
            (sym (ap (λ (x : Boundary). eqb x.kind 0) (start-boundary j k)) ∙ d)
