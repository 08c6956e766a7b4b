-- Pass 3, the choice: inside, the large context's proposals, their order and their conflicts are the small one's, and no proposal outside conflicts with one
-- inside; so a boundary inside is removed exactly when the small context removes its rank. Assumes a frame.
use Rattle.std.specs.Prelude.{ℕ, zero, suc, ◌≡◌, Bool, ◌||◌}
use Rattle.std.proofs.Math.Path.{refl, ap, ap₂}
use Rattle.std.proofs.Common.{sym, ◌∙◌}
use Rattle.std.proofs.Math.Bool.{true, false, not, ◌&&◌, and-false}
use mathlib.Core.List.{◌++◌, map}
use Rattle.std.proofs.Math.ListN.{length}
use Rattle.std.proofs.Math.Dec.{eqb, ltb}
use Rattle.definitions.specs.Scan.{filter, collect, member}
use Rattle.definitions.specs.Sort.{list_lt}
use Rattle.definitions.specs.Grid.{Boundary}
use Rattle.definitions.specs.Context.{Context}
use Rattle.definitions.specs.Junctions.{Proposal, names_region, region_conflict, boundary_key, tie_key, union_proposal, bridge_proposal, is_reserved_port, key, ranks_before, conflict, proposals, ranked, taken, removed}
use Rattle.laws.specs.ListLaws.Lists.{All, all_append, filter-append, map-append}
use Rattle.laws.specs.OrderLaws.ListOrder.{by_key, prefix_lt}
use Rattle.laws.specs.OrderLaws.Ranks.{rank, rank-eqb, rank-shift, collect-rank, collect-all}
use Rattle.laws.specs.ListLaws.Options.{on_list, on_map_lem, option_in, option_out}
use Rattle.laws.specs.ListLaws.NumberLists.{split}
use Rattle.laws.specs.ListLaws.Below.{below_none}
use Rattle.laws.specs.OrderLaws.Choice.{Placed, placed, choice_in, named_in}
use Rattle.island.specs.Frame.{Frame, ren, ren-eqb, ren-ltb}
use Rattle.island.specs.FrameLemmas.{is_incident_in, is_incident-split, any_in}
use Rattle.island.specs.FrameUnions.{ren_proposal, ProposalOn, union_proposal_in, union_proposal_on}
use Rattle.island.specs.FrameBridges.{bridge_proposal_in, bridge_proposal_on}

-- ---- of two proposals, with no context

module _ (in_b in_r : ℕ → Bool) where
  tie_key_in : (p q : Proposal) → ProposalOn in_b in_r true p → ProposalOn in_b in_r true q → list_lt (tie_key p) (tie_key q) ≡ list_lt (tie_key (ren_proposal in_b in_r p)) (tie_key (ren_proposal in_b in_r q))
  unfolding tie_key list_lt
  tie_key_in p q h k =
      λ t.
      ltb p.kind q.kind
      || (eqb p.kind q.kind
      && (ren-ltb in_r p.first q.first h.first t
      || (ren-eqb in_r p.first q.first h.first k.first t
      && (ren-ltb in_r p.second q.second h.second t || (ren-eqb in_r p.second q.second h.second k.second t && false)))))

  names_region_in : (q : Proposal) (r : ℕ) → ProposalOn in_b in_r true q → in_r r ≡ true → names_region q r ≡ names_region (ren_proposal in_b in_r q) (ren in_r r)
  names_region_in q r h k = ap₂ ◌||◌ (ren-eqb in_r q.first r h.first k) (ren-eqb in_r q.second r h.second k)

  names_region-split : (q : Proposal) (r : ℕ) → ProposalOn in_b in_r false q → in_r r ≡ true → names_region q r ≡ false
  names_region-split q r h k = ap₂ ◌||◌ (split in_r false q.first r h.first k) (split in_r false q.second r h.second k)

  region_conflict_in : (m n : ℕ) (q p : Proposal) → ProposalOn in_b in_r true q → ProposalOn in_b in_r true p → region_conflict m n q p ≡ region_conflict m n (ren_proposal in_b in_r q) (ren_proposal in_b in_r p)
  region_conflict_in zero zero q p h k = ap₂ ◌||◌ (names_region_in q p.first h k.first) (names_region_in q p.second h k.second)
  region_conflict_in (suc m) zero q p h k = ap₂ ◌||◌ (names_region_in q p.first h k.first) (names_region_in q p.second h k.second)
  region_conflict_in zero (suc n) q p h k = ap₂ ◌||◌ (names_region_in q p.first h k.first) (names_region_in q p.second h k.second)
  region_conflict_in (suc m) (suc n) q p h k =
      λ t.
      ren-eqb in_r q.first p.first h.first k.first t || ren-eqb in_r q.first p.second h.first k.second t
      || ren-eqb in_r q.second p.first h.second k.first t

  region_conflict-apart : (m n : ℕ) (q p : Proposal) → ProposalOn in_b in_r false q → ProposalOn in_b in_r true p → region_conflict m n q p ≡ false
  region_conflict-apart zero zero q p h k = ap₂ ◌||◌ (names_region-split q p.first h k.first) (names_region-split q p.second h k.second)
  region_conflict-apart (suc m) zero q p h k = ap₂ ◌||◌ (names_region-split q p.first h k.first) (names_region-split q p.second h k.second)
  region_conflict-apart zero (suc n) q p h k = ap₂ ◌||◌ (names_region-split q p.first h k.first) (names_region-split q p.second h k.second)
  region_conflict-apart (suc m) (suc n) q p h k =
      λ t.
      split in_r false q.first p.first h.first k.first t || split in_r false q.first p.second h.first k.second t
      || split in_r false q.second p.first h.second k.first t

module _ {L S : Context} {in_b in_r : ℕ → Bool} (F : Frame L S in_b in_r) where
  abbrev e : Proposal → Proposal
  e = ren_proposal in_b in_r

  abbrev PlaceOf : Bool → Proposal → Type 0
  PlaceOf = ProposalOn in_b in_r

  abbrev inside : Proposal → Bool
  inside q = in_b q.index

  -- ---- the list of proposals

  all_placed : All (Placed inside PlaceOf) (proposals L)
  unfolding proposals
  all_placed =
      all_append (collect-all _ (union_proposal L) L.count (λ i. on_list (on_map_lem (place (in_b i)) (union_proposal_on F (in_b i) i refl))))
      (collect-all _ (λ k. bridge_proposal L (suc k)) L.regions (λ k. on_list (on_map_lem (place (in_r (suc k))) (bridge_proposal_on F (in_r (suc k)) (suc k) refl))))
    where
      place : (b : Bool) (q : Proposal) → PlaceOf b q → Placed inside PlaceOf q
      place b q g = placed inside PlaceOf b q g.index g

  proposals_in : map e (filter inside (proposals L)) ≡ proposals S
  unfolding proposals
  proposals_in =
      ap (map e) (filter-append inside (collect L.count (union_proposal L)) (collect L.regions (λ k. bridge_proposal L (suc k))))
      ∙ map-append e (filter inside (collect L.count (union_proposal L))) (filter inside (collect L.regions (λ k. bridge_proposal L (suc k))))
      ∙ ap₂ ◌++◌ unions bridges
    where
      unions : map e (filter inside (collect L.count (union_proposal L))) ≡ collect S.count (union_proposal S)
      unions =
          collect-rank in_b inside e (union_proposal L) (union_proposal S) L.count
          (λ i l b. option_in e inside (on_map_lem (λ q g. g.index) (union_proposal_on F true i b)) (sym (union_proposal_in F i b)))
          (λ i l b. option_out inside (on_map_lem (λ q g. g.index) (union_proposal_on F false i b)))
          ∙ ap (λ n. collect n (union_proposal S)) (sym F.count)

      bridges : map e (filter inside (collect L.regions (λ k. bridge_proposal L (suc k)))) ≡ collect S.regions (λ k. bridge_proposal S (suc k))
      bridges =
          collect-rank (λ k. in_r (suc k)) inside e (λ k. bridge_proposal L (suc k)) (λ k. bridge_proposal S (suc k)) L.regions
          (λ k l b.
          option_in e inside (on_map_lem (λ q g. g.index) (bridge_proposal_on F true (suc k) b))
          (bridge_proposal_in F (suc k) b ∙ ap (λ x. bridge_proposal S (suc x)) (rank-shift in_r k F.zero-out)))
          (λ k l b. option_out inside (on_map_lem (λ q g. g.index) (bridge_proposal_on F false (suc k) b)))
          ∙ ap (λ n. collect n (λ k. bridge_proposal S (suc k))) (sym F.regions)

  -- ---- the order

  ranks_before_in : (p q : Proposal) → PlaceOf true p → PlaceOf true q → ranks_before L p q ≡ ranks_before S (e p) (e q)
  unfolding ranks_before key
  ranks_before_in p q h k =
      prefix_lt (boundary_key (L.boundary p.index)) (boundary_key (L.boundary q.index)) (tie_key p) (tie_key q) (tie_key (e p)) (tie_key (e q))
      (equally_long (L.boundary p.index) (L.boundary q.index))
      (tie_key_in in_b in_r p q h k)
      ∙ (λ t. list_lt (boundary_key (F.boundary p.index h.index t) ++ tie_key (e p)) (boundary_key (F.boundary q.index k.index t) ++ tie_key (e q)))
    where
      equally_long : (b c : Boundary) → length (boundary_key b) ≡ length (boundary_key c)
      equally_long b c = refl

  -- ---- the conflicts

  is_reserved_port_in : (p : Proposal) (j : ℕ) → PlaceOf true p → in_b j ≡ true → is_reserved_port L p j ≡ is_reserved_port S (e p) (rank in_b j)
  unfolding is_reserved_port
  is_reserved_port_in p j h b =
      λ t.
      (is_incident_in F j p.first b h.first t || eqb p.kind 0 && is_incident_in F j p.second b h.second t)
      && not (eqb p.kind 0 && rank-eqb in_b j p.index b h.index t)

  -- a boundary that lies elsewhere than a proposal is no port of it
  is_reserved_port-split : (b : Bool) (p : Proposal) (j : ℕ) → PlaceOf b p → in_b j ≡ not b → is_reserved_port L p j ≡ false
  unfolding is_reserved_port
  is_reserved_port-split b p j h c =
      (λ t.
      (is_incident-split F b j p.first h.first c t || eqb p.kind 0 && is_incident-split F b j p.second h.second c t)
      && not (eqb p.kind 0 && eqb j p.index))
      ∙ ap (λ t. t && not (eqb p.kind 0 && eqb j p.index)) (and-false (eqb p.kind 0))

  conflict_in : (q p : Proposal) → PlaceOf true q → PlaceOf true p → conflict L q p ≡ conflict S (e q) (e p)
  unfolding conflict
  conflict_in q p h k =
      λ t.
      is_reserved_port_in p q.index k h.index t || is_reserved_port_in q p.index h k.index t
      || any_in F (λ j. is_reserved_port L p j && is_reserved_port L q j) (λ j. is_reserved_port S (e p) j && is_reserved_port S (e q) j)
      (λ j b. ap₂ ◌&&◌ (is_reserved_port_in p j k b) (is_reserved_port_in q j h b))
      (λ j b. ap (λ x. x && is_reserved_port L q j) (is_reserved_port-split true p j k b))
      t
      || region_conflict_in in_b in_r q.kind p.kind q p h k t

  conflict-apart : (q p : Proposal) → PlaceOf false q → PlaceOf true p → conflict L q p ≡ false
  unfolding conflict
  conflict-apart q p h k =
      λ t.
      is_reserved_port-split true p q.index k h.index t || is_reserved_port-split false q p.index h k.index t
      || below_none L.count (λ j. is_reserved_port L p j && is_reserved_port L q j) (λ j l. each j (in_b j) refl) t
      || region_conflict-apart in_b in_r q.kind p.kind q p h k t
    where
      each : (j : ℕ) (b : Bool) → in_b j ≡ b → (is_reserved_port L p j && is_reserved_port L q j) ≡ false
      each j true c = ap (λ x. is_reserved_port L p j && x) (is_reserved_port-split false q j h c) ∙ and-false (is_reserved_port L p j)
      each j false c = ap (λ x. x && is_reserved_port L q j) (is_reserved_port-split true p j k c)

  -- ---- the choice

  -- the proposals taken inside are those of the small context, in the same order
  taken_in : map e (filter inside (taken L)) ≡ taken S
  unfolding taken ranked ranks_before
  taken_in =
      choice_in inside PlaceOf e (ranks_before L) (ranks_before S) (conflict L) (conflict S) (by_key (key L)) ranks_before_in conflict_in conflict-apart all_placed proposals_in

  pub removed_in : (i : ℕ) → in_b i ≡ true → member i (removed L) ≡ member (rank in_b i) (removed S)
  unfolding removed
  removed_in i b = named_in in_b e (λ p. p.index) (λ p. refl) i (taken L) b ∙ ap (λ l. member (rank in_b i) (map (λ p. p.index) l)) taken_in
