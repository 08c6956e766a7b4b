-- The map of the boundaries at some places of another: its boundary k is the other's boundary at place k, and cuts the same steps, since steps go by sides
-- and cells alone. So it cuts the island where the other's does, and the premises of an island hold of it (`kept-island`). Assumes of the other that the
-- premises hold, and of the places that they are the other's.
use Rattle.std.specs.Prelude.{ℕ, ◌<◌, ◌≡◌, Bool, List, map}
use Rattle.std.proofs.Common.{arith, ◌∙◌, true≢false}
use Rattle.std.proofs.Math.Path.{refl, sym, ap, ap₂}
use Rattle.std.proofs.Math.Bool.{true, false, not, ◌&&◌}
use Rattle.std.proofs.Math.ListN.{length, get_or, length-map, get_or-eq_default}
use Rattle.std.proofs.Math.Dec.{eqb, ltb}
use borrow.Author.Tests.{ltb-true, ltb-false, lt-ltb}
use Rattle.definitions.specs.Scan.{any, filter, concat_map}
use Rattle.definitions.specs.Grid.{Map, Segment, Boundary, Pair, no_segment, no_boundary, canonical, span_count, span_of, boundary_of, is_step, onward, edge}
use Rattle.definitions.specs.Spans.{cuts, candidate_positions, cut_steps}
use Rattle.laws.specs.ListLaws.Lists.{All}
use Rattle.laws.specs.ListLaws.Members.{all-place}
use Rattle.island.specs.Premises.{cuts_island, cuts_remainder, Island}
use Rattle.island.specs.Restrict.{cuts_lt}
use Rattle.rest_definitions.specs.Rest.{kept_map}
use Rattle.rest.specs.Picking.{get_d_mapped}

-- the steps that a segment cuts, by the sides and cells of a map alone
unfoldable pub cut_by : Map → Segment → List Pair
unfolding canonical concat_map filter cuts onward candidate_positions
cut_by N s = concat_map (λ p. map (edge N p) (filter (cuts (canonical s) p) (onward N p))) (candidate_positions N.width N.height (canonical s))

module _ (N : Map) (ps : List ℕ) where
  abbrev K : Map
  K = kept_map N ps

  abbrev place : ℕ → ℕ
  place k = get_or ps k 0

  pub kept-boundaries : length K.boundaries ≡ length ps
  unfolding kept_map
  kept-boundaries = length-map ps (boundary_of N)

  pub kept-count : span_count K ≡ length ps
  unfolding span_count kept_map
  kept-count = length-map (map (boundary_of N) ps) (λ b. b.endpoints) ∙ length-map ps (boundary_of N)

  pub kept-boundary : (k : ℕ) → k < length ps → boundary_of K k ≡ boundary_of N (place k)
  unfolding kept_map boundary_of
  kept-boundary k h = get_d_mapped (λ i. get_or N.boundaries i no_boundary) ps 0 no_boundary k h

  pub kept-endpoints : (k : ℕ) → k < length ps → span_of K k ≡ (boundary_of K k).endpoints
  unfolding kept_map span_of boundary_of
  kept-endpoints k h = get_d_mapped (λ b. b.endpoints) (map (boundary_of N) ps) no_boundary no_segment k (omega (arith, length-map ps (boundary_of N)))

  -- its span k cuts what the boundary at place k cuts
  pub cut-kept : (k : ℕ) → k < length ps → cut_steps K k ≡ cut_by N (boundary_of N (place k)).endpoints
  unfolding cut_steps cut_by kept_map onward is_step
  cut-kept k h = ap (cut_by N) (kept-endpoints k h ∙ ap (λ b. b.endpoints) (kept-boundary k h))

  module _ (isl : ℕ → Bool) (I : Island N isl) (W : All (λ i. i < span_count N) ps) where
    pub kept-cut : (k : ℕ) → k < length ps → cut_steps K k ≡ cut_steps N (place k)
    unfolding cut_steps cut_by
    kept-cut k h = cut-kept k h ∙ ap (cut_by N) (sym (I.same_endpoints (place k) (all-place 0 W k h)))

    below : (k : ℕ) → k < length ps → ltb k (span_count K) ≡ ltb (place k) (span_count N)
    below k h = lt-ltb k (span_count K) (omega (arith, kept-count)) ∙ sym (lt-ltb (place k) (span_count N) (all-place 0 W k h))

    pub kept-cuts : (k : ℕ) → k < length ps → cuts_island K isl k ≡ cuts_island N isl (place k)
    unfolding cuts_island
    kept-cuts k h = ap₂ ◌&&◌ (below k h) (ap (any (λ e. isl e.lo && isl e.hi)) (kept-cut k h))

    kept-remainder : (k : ℕ) → k < length ps → cuts_remainder K isl k ≡ cuts_remainder N isl (place k)
    unfolding cuts_remainder
    kept-remainder k h = ap₂ ◌&&◌ (below k h) (ap (any (λ e. not (isl e.lo) && not (isl e.hi))) (kept-cut k h))

    -- what cuts the island, and a boundary with a ramp, is one of the list
    pub kept_lt : (k : ℕ) → cuts_island K isl k ≡ true → k < length ps
    kept_lt k h = omega (arith, cuts_lt K isl k h, kept-count)

    ramp_lt : (k : ℕ) → eqb (boundary_of K k).kind 0 ≡ false → k < length ps
    unfolding boundary_of
    ramp_lt k h = go (ltb k (length ps)) refl
      where
        go : (b : Bool) → ltb k (length ps) ≡ b → k < length ps
        go true e = ltb-true _ _ e
        go false e =
            absurd
            (true≢false (sym (ap (λ (b : Boundary). eqb b.kind 0) (get_or-eq_default K.boundaries no_boundary {n = k} (omega (arith, ltb-false k (length ps) e, kept-boundaries)))) ∙ h))

    -- the premises of an island hold of the kept boundaries
    pub kept-island : Island K isl
    unfolding kept_map is_step
    kept-island =
        record {
          apart = I.apart;
          one_sided = λ k. one_sided_lem k (cuts_island K isl k) refl;
          ramp_ids = ramps;
          equally_many = kept-boundaries ∙ sym kept-count;
          same_endpoints = λ k h. kept-endpoints k (omega (arith, kept-count));
        }
      where
        one_sided_lem : (k : ℕ) (b : Bool) → cuts_island K isl k ≡ b → (cuts_island K isl k && cuts_remainder K isl k) ≡ false
        one_sided_lem k true e = ap₂ ◌&&◌ (kept-cuts k (kept_lt k e)) (kept-remainder k (kept_lt k e)) ∙ I.one_sided (place k)
        one_sided_lem k false e = ap (λ b. b && cuts_remainder K isl k) e

        ramps : (i j : ℕ) → cuts_island K isl i ≡ true → cuts_island K isl j ≡ false → eqb (boundary_of K i).kind 0 ≡ false
            → eqb (boundary_of K j).kind 0 ≡ false → eqb (boundary_of K j).ramp_id (boundary_of K i).ramp_id ≡ false
        ramps i j a b c d =
            let h = kept_lt i a in
            let k = ramp_lt j d in
            ap₂ (λ (x y : Boundary). eqb x.ramp_id y.ramp_id) (kept-boundary j k) (kept-boundary i h)
            ∙ I.ramp_ids (place i) (place j) (sym (kept-cuts i h) ∙ a) (sym (kept-cuts j k) ∙ b) (sym (ap (λ (x : Boundary). eqb x.kind 0) (kept-boundary i h)) ∙ c)
            (sym (ap (λ (x : Boundary). eqb x.kind 0) (kept-boundary j k)) ∙ d)
