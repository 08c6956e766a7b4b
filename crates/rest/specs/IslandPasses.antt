-- One pass after another over the kept boundaries of two maps that are alike on an island: the kept boundaries that cut the island have the same ranks among
-- the starting ones in both, before each pass and after it. The kept boundaries of both maps meet the premises again (`kept-alike`), so that both restrict to
-- one map, and what the pass keeps of the island is what it keeps there. Assumes `Alike` of the starting maps.
use Prim.Native.Nat.{ℕ, ◌<◌}
use Rattle.std.specs.Prelude.{◌≡◌, refl, true, length, Option, Some}
use Rattle.std.proofs.Math.Path.{sym, ap, ap₂}
use Rattle.std.proofs.Common.{◌∙◌}
use Rattle.std.proofs.Math.Bool.{Bool, not}
use mathlib.Core.List.{List, map}
use Rattle.std.proofs.Math.ListN.{get_or}
use Rattle.definitions.specs.Scan.{filter, collect, only_if, member, run, count_below}
use Rattle.definitions.specs.Grid.{Map, no_boundary, cell_count, span_count, boundary_of}
use Rattle.definitions.specs.Context.{context_of}
use Rattle.definitions.specs.Rows.{removed_by, removed_of, is_kept}
use Rattle.laws.specs.ListLaws.Lists.{All}
use Rattle.laws.specs.ListLaws.Scans.{picked, picked-length, picked_at, picked-map, collect_ext}
use Rattle.laws.specs.ListLaws.Options.{on_only, only_map, option_in, option_out}
use Rattle.laws.specs.OrderLaws.Ranks.{rank, collect-rank}
use Rattle.island.specs.Premises.{cuts_island, has_anchor, cutting, rank_of, Island, Alike}
use Rattle.island.specs.Restrict.{restrict, cuts_lt}
use Rattle.island.proofs.Theorem.{kept_restricted}
use Rattle.rest_definitions.specs.Rest.{kept_map, passed}
use Rattle.rest.specs.Picking.{filter-picked, picked_same, picked_all, ranks-all}
use Rattle.rest.specs.KeptMaps.{kept-boundary, kept-count, kept-cuts, kept_lt, kept-island}

-- the ranks of those of these places that cut the island, among all that do
abbrev pub ranks : Map → (ℕ → Bool) → List ℕ → List ℕ
ranks N isl ps = map (rank_of N isl) (filter (cuts_island N isl) ps)

-- ---- of one map

module _ (N : Map) (isl : ℕ → Bool) (I : Island N isl) where
  -- a boundary that cuts is the one of its rank
  pub cutting_at : (i : ℕ) → cuts_island N isl i ≡ true → get_or (cutting N isl) (rank_of N isl i) no_boundary ≡ boundary_of N i
  unfolding cutting rank_of
  cutting_at i h = picked_at (cuts_island N isl) (boundary_of N) no_boundary (span_count N) i (cuts_lt N isl i h) h

  pub cutting-length : length (cutting N isl) ≡ rank_of N isl (span_count N)
  unfolding cutting rank_of
  cutting-length = picked-length (cuts_island N isl) (boundary_of N) (span_count N)

  module _ (ps : List ℕ) (W : All (λ i. i < span_count N) ps) where
    abbrev K : Map
    K = kept_map N ps

    abbrev place : ℕ → ℕ
    place k = get_or ps k 0

    pub inner : Island K isl
    inner = kept-island N ps isl I W

    ranks-picked : ranks N isl ps ≡ picked (cuts_island K isl) (λ k. rank_of N isl (place k)) (length ps)
    ranks-picked =
        filter-picked (cuts_island N isl) (rank_of N isl) 0 ps
        ∙ collect_ext (length ps) _ (λ k. only_if (cuts_island K isl k) (rank_of N isl (place k))) (λ k h. ap (λ b. only_if b (rank_of N isl (place k))) (sym (kept-cuts N ps isl I W k h)))

    ranks-length : length (ranks N isl ps) ≡ rank (cuts_island K isl) (length ps)
    ranks-length = ap length ranks-picked ∙ picked-length (cuts_island K isl) (λ k. rank_of N isl (place k)) (length ps)

    -- the kept boundary of rank q among the kept has rank q of this list among all
    rank_at_lem : (k : ℕ) → cuts_island K isl k ≡ true → get_or (ranks N isl ps) (rank_of K isl k) 0 ≡ rank_of N isl (place k)
    unfolding rank_of
    rank_at_lem k h =
        ap (λ l. get_or l (count_below k (cuts_island K isl)) 0) ranks-picked
        ∙ picked_at (cuts_island K isl) (λ k. rank_of N isl (place k)) 0 (length ps) k (kept_lt N ps isl I W k h) h

    -- the kept boundaries that cut the island, by their ranks
    pub cutting-kept : cutting K isl ≡ map (λ q. get_or (cutting N isl) q no_boundary) (ranks N isl ps)
    unfolding cutting
    cutting-kept =
        ap (λ n. picked (cuts_island K isl) (boundary_of K) n) (kept-count N ps)
        ∙ picked_same (cuts_island K isl) (boundary_of K) (λ k. get_or (cutting N isl) (rank_of N isl (place k)) no_boundary) (length ps)
        (λ k h c. kept-boundary N ps k h ∙ sym (cutting_at (place k) (sym (kept-cuts N ps isl I W k h) ∙ c)))
        ∙ picked-map (cuts_island K isl) (λ k. get_or (cutting N isl) (rank_of N isl (place k)) no_boundary) (λ q. get_or (cutting N isl) q no_boundary) (λ k. rank_of N isl (place k)) (length ps) (λ k h. refl)
        ∙ ap (map (λ q. get_or (cutting N isl) q no_boundary)) (sym ranks-picked)

    -- what a pass keeps of the island, by what it keeps of the kept boundaries restricted to it
    pub passed-ranks : (pass : ℕ)
        → ranks N isl (passed pass N ps) ≡ collect (length (ranks N isl ps)) (λ q. only_if (not (member q (removed_by pass (context_of (restrict K isl))))) (get_or (ranks N isl ps) q 0))
    unfolding passed is_kept rank_of
    passed-ranks pass =
        collect-rank (cuts_island K isl) (cuts_island N isl) (rank_of N isl) left right (length ps)
        (λ k h c.
        option_in (rank_of N isl) (cuts_island N isl) (on_only (keep k) (place k) (sym (kept-cuts N ps isl I W k h) ∙ c))
        (sym (only_map (rank_of N isl) (keep k) (place k)) ∙ ap₂ only_if (kept_restricted pass K isl inner k c) (sym (rank_at_lem k c))))
        (λ k h c. option_out (cuts_island N isl) (on_only (keep k) (place k) (sym (kept-cuts N ps isl I W k h) ∙ c)))
        ∙ ap (λ n. collect n right) (sym ranks-length)
      where
        keep : ℕ → Bool
        keep k = not (member k (removed_of pass K))

        left : ℕ → Option ℕ
        left k = only_if (keep k) (place k)

        right : ℕ → Option ℕ
        right q = only_if (not (member q (removed_by pass (context_of (restrict K isl))))) (get_or (ranks N isl ps) q 0)

    pub passed-within : (pass : ℕ) → All (λ i. i < span_count N) (passed pass N ps)
    unfolding passed
    passed-within pass = picked_all (λ k. not (member k (removed_of pass K))) 0 W

  -- at the start every rank is there
  pub ranks-start : ranks N isl (run 0 (span_count N)) ≡ collect (rank_of N isl (span_count N)) (λ q. Some q)
  unfolding rank_of
  ranks-start = ranks-all (cuts_island N isl) (span_count N)

-- ---- of two

module _ (N N' : Map) (isl : ℕ → Bool) (A : Alike N N' isl) where
  -- what holds of what is kept of both, before each pass
  pub record Together (ps ps' : List ℕ) : Type 0 where
    pub within : All (λ i. i < span_count N) ps
    pub within' : All (λ i. i < span_count N') ps'
    pub same : ranks N isl ps ≡ ranks N' isl ps'

  -- the premises hold of what is kept of both
  pub kept-alike : {ps ps' : List ℕ} → Together ps ps' → Alike (kept_map N ps) (kept_map N' ps') isl
  unfolding kept_map cell_count has_anchor
  kept-alike {ps} {ps'} T =
      record {
        width = A.width;
        height = A.height;
        cells = A.cells;
        anchors = A.anchors;
        counterparts =
            cutting-kept N isl A.island ps T.within
            ∙ ap₂ (λ c l. map (λ q. get_or c q no_boundary) l) A.counterparts T.same
            ∙ sym (cutting-kept N' isl A.island' ps' T.within');
        island = inner N isl A.island ps T.within;
        island' = inner N' isl A.island' ps' T.within';
      }
