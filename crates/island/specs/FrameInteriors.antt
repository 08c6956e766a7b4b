-- Pass 2, the proposals and the choice: inside, the large context's proposals, their order and their conflicts are the small one's, and no proposal outside
-- conflicts with one inside; so a boundary inside is removed exactly when the small context removes its rank. Assumes a frame.
use Rattle.std.specs.Prelude.{ℕ, suc, ◌<◌, ◌≡◌, Bool, ◌&&◌, option_map, None}
use Rattle.std.proofs.Common.{arith, ◌∙◌}
use Rattle.std.proofs.Math.Path.{refl, sym, ap, ap₂}
use Rattle.std.proofs.Math.Bool.{true, false, not, ◌||◌, cond}
use mathlib.Core.List.{List, ◌∷◌, map}
use Rattle.std.proofs.Math.Dec.{eqb}
use Rattle.std.specs.Float.Ieee.{le}
use Rattle.definitions.specs.Scan.{any, all, all_below, filter, collect, concat_map, only_if, member}
use Rattle.definitions.specs.Sort.{list_lt}
use Rattle.definitions.specs.Geometry.{center, distance}
use Rattle.definitions.specs.RegionRecord.{has_ramp, has_bit, corners}
use Rattle.definitions.specs.Context.{Context, endpoints_key}
use Rattle.definitions.specs.RampMouths.{max_approach_radius}
use Rattle.definitions.specs.RampInteriors.{InteriorProposal, Expansion, components, edges_of, component_regions, is_candidate, component_ports, expand_port, ports_fit, is_allowed_elevation, region_fits, interior_from, interior_proposal, proposals, key, ranks_before, conflict, taken, removed}
use Rattle.laws.specs.ListLaws.Lists.{All, done, more, all_map, any-ren, all-ren}
use Rattle.laws.specs.OrderLaws.ListOrder.{by_key}
use Rattle.laws.specs.OrderLaws.Ranks.{rank, rank-eqb, rank-shift, collect-rank, collect-all}
use Rattle.laws.specs.ListLaws.Options.{OnO, absent, on_only, on_cond, on_list, on_map_lem, only_map, cond_map, option_in, option_out}
use Rattle.laws.specs.ListLaws.NumberLists.{meet-ren, meet-split}
use Rattle.laws.specs.OrderLaws.Choice.{Placed, placed, choice_in, choice-placed, listed_in}
use Rattle.island.specs.Frame.{Frame, ren}
use Rattle.island.specs.RegionLists.{On, meet_in}
use Rattle.island.specs.FrameLemmas.{full_cut_in}
use Rattle.island.specs.FrameComponents.{edges_of_on, edges_of_in, component_ports_on, component_ports_in, component_regions_on, component_regions_in, is_candidate_in}
use Rattle.island.specs.FrameExpansions.{ren_expansion, expand_port_on, expand_port_in}

module _ (in_b in_r : ℕ → Bool) where
  abbrev ren_interior : InteriorProposal → InteriorProposal
  ren_interior p =
      record {
        regions = map (ren in_r) p.regions;
        edges = map (rank in_b) p.edges;
        first_port = rank in_b p.first_port;
        second_port = rank in_b p.second_port;
      }

  -- a proposal's regions and edges lie where its first port does
  record InteriorOn (b : Bool) (p : InteriorProposal) : Type 0 where
    port : in_b p.first_port ≡ b
    regions : All (On in_r b) p.regions
    edges : All (λ i. in_b i ≡ b) p.edges

-- the regions rs, expanded by two ports
abbrev expanded : Context → List ℕ → ℕ → ℕ → Expansion
expanded C rs a c = expand_port C (expand_port C (record { regions = rs; valid = true }) a) c

-- what is asked of two ports and what they expand to
abbrev is_interior : Context → ℕ → ℕ → Expansion → Bool
is_interior C a c s = ports_fit C a c && s.valid && any (λ q. has_ramp (C.region q)) s.regions && all (region_fits C a c) s.regions

module _ {L S : Context} {in_b in_r : ℕ → Bool} (F : Frame L S in_b in_r) where
  abbrev e : InteriorProposal → InteriorProposal
  e = ren_interior in_b in_r

  abbrev PlaceOf : Bool → InteriorProposal → Type 0
  PlaceOf = InteriorOn in_b in_r

  abbrev inside : InteriorProposal → Bool
  inside p = in_b p.first_port

  -- ---- two ports and the regions between them

  module _ (a c : ℕ) (b : in_b a ≡ true) (d : in_b c ≡ true) where
    ports_fit_in : ports_fit L a c ≡ ports_fit S (rank in_b a) (rank in_b c)
    unfolding ports_fit
    ports_fit_in =
        λ t.
        not (eqb (F.boundary a b t).kind 0) && not (eqb (F.boundary c d t).kind 0) && full_cut_in F a b t && full_cut_in F c d t
        && eqb (F.boundary a b t).ramp_id (F.boundary c d t).ramp_id
        && not (eqb (F.boundary a b t).kind (F.boundary c d t).kind)

    region_fits_in : (r : ℕ) → in_r r ≡ true → region_fits L a c r ≡ region_fits S (rank in_b a) (rank in_b c) (ren in_r r)
    unfolding region_fits is_allowed_elevation
    region_fits_in r h =
        λ t.
        let s = F.region r h t in
        all_below 8 (λ x. not (has_bit s.elevations x) || (eqb x (F.boundary a b t).lower || eqb x (F.boundary a b t).upper))
        && all
        (λ x.
        le (distance x (center (F.boundary a b t).endpoints)) max_approach_radius || le (distance x (center (F.boundary c d t).endpoints)) max_approach_radius)
        (corners s)

    is_interior_in : (s : Expansion) → All (On in_r true) s.regions → is_interior L a c s ≡ is_interior S (rank in_b a) (rank in_b c) (ren_expansion in_r s)
    is_interior_in s x =
        λ t.
        ports_fit_in t && s.valid
        && any-ren (ren in_r) (On in_r true) (λ q. has_ramp (L.region q)) (λ q. has_ramp (S.region q)) (λ q k t. has_ramp (F.region q k t)) x t
        && all-ren (ren in_r) (On in_r true) (region_fits L a c) (region_fits S (rank in_b a) (rank in_b c)) region_fits_in x t

  expanded_on : (b : Bool) {rs : List ℕ} (a c : ℕ) → in_b a ≡ b → in_b c ≡ b → All (On in_r b) rs → All (On in_r b) (expanded L rs a c).regions
  expanded_on b {rs} a c h k x = expand_port_on F b (expand_port L (record { regions = rs; valid = true }) a) c k (expand_port_on F b (record { regions = rs; valid = true }) a h x)

  expanded_in : {rs : List ℕ} (a c : ℕ) → in_b a ≡ true → in_b c ≡ true → All (On in_r true) rs → ren_expansion in_r (expanded L rs a c) ≡ expanded S (map (ren in_r) rs) (rank in_b a) (rank in_b c)
  expanded_in {rs} a c h k x =
      expand_port_in F c k (expand_port L (record { regions = rs; valid = true }) a) (expand_port_on F true (record { regions = rs; valid = true }) a h x)
      ∙ ap (λ s. expand_port S s (rank in_b c)) (expand_port_in F a h (record { regions = rs; valid = true }) x)

  -- ---- proposals

  interior_from_in : {rs : List ℕ} (es : List ℕ) {l : List ℕ} → All (On in_r true) rs → All (λ i. in_b i ≡ true) l → option_map e (interior_from L rs es l) ≡ interior_from S (map (ren in_r) rs) (map (rank in_b) es) (map (rank in_b) l)
  unfolding interior_from
  interior_from_in es x done = refl
  interior_from_in es x (more b done) = refl
  interior_from_in {rs} es x (more {x = a} b (more {x = c} d done)) =
      sym (only_map e (is_interior L a c u) (record { regions = u.regions; edges = es; first_port = a; second_port = c }))
      ∙ ap (λ t. only_if t (record { regions = map (ren in_r) u.regions; edges = map (rank in_b) es; first_port = rank in_b a; second_port = rank in_b c }))
      (is_interior_in a c b d u (expanded_on true a c b d x))
      ∙ ap (λ s. only_if (is_interior S (rank in_b a) (rank in_b c) s) (record { regions = s.regions; edges = map (rank in_b) es; first_port = rank in_b a; second_port = rank in_b c }))
      (expanded_in a c b d x)
    where
      u : Expansion
      u = expanded L rs a c
  interior_from_in es x (more b (more c (more d l))) = refl

  interior_from_on : (b : Bool) {rs es l : List ℕ} → All (On in_r b) rs → All (λ i. in_b i ≡ b) es → All (λ i. in_b i ≡ b) l → OnO (PlaceOf b) (interior_from L rs es l)
  unfolding interior_from
  interior_from_on b x y done = absent
  interior_from_on b x y (more h done) = absent
  interior_from_on b {rs} x y (more {x = a} h (more {x = c} k done)) =
      on_only (is_interior L a c (expanded L rs a c)) _ (record { port = h; regions = expanded_on b a c h k x; edges = y })
  interior_from_on b x y (more h (more k (more m l))) = absent

  interior_proposal_on : (b : Bool) (r : ℕ) → in_r r ≡ b → OnO (PlaceOf b) (interior_proposal L (components L) r)
  unfolding interior_proposal
  interior_proposal_on b r h =
      on_cond (is_candidate L (components L) r) (interior_from_on b (component_regions_on F b r h) (edges_of_on F b r h) (component_ports_on F b r h)) absent

  interior_proposal_in : (r : ℕ) → r < suc L.regions → in_r r ≡ true → option_map e (interior_proposal L (components L) r) ≡ interior_proposal S (components S) (ren in_r r)
  unfolding interior_proposal
  interior_proposal_in r l h =
      cond_map e (is_candidate L (components L) r) (interior_from L (component_regions L (components L) r) (edges_of L (components L) r) (component_ports L (components L) r)) None
      ∙ ap (λ o. cond (is_candidate L (components L) r) o None) (interior_from_in (edges_of L (components L) r) (component_regions_on F true r h) (component_ports_on F true r h))
      ∙ (λ t. cond (is_candidate_in F r h l t) (interior_from S (component_regions_in F r h t) (edges_of_in F r h t) (component_ports_in F r h t)) None)

  all_placed : All (Placed inside PlaceOf) (proposals L)
  unfolding proposals
  all_placed =
      collect-all _ (λ k. interior_proposal L (components L) (suc k)) L.regions
      (λ k. on_list (on_map_lem (λ p g. placed inside PlaceOf (in_r (suc k)) p g.port g) (interior_proposal_on (in_r (suc k)) (suc k) refl)))

  proposals_in : map e (filter inside (proposals L)) ≡ proposals S
  unfolding proposals
  proposals_in =
      collect-rank (λ k. in_r (suc k)) inside e (λ k. interior_proposal L (components L) (suc k)) (λ k. interior_proposal S (components S) (suc k)) L.regions
      (λ k l b.
      option_in e inside (on_map_lem (λ p g. g.port) (interior_proposal_on true (suc k) b))
      (interior_proposal_in (suc k) (omega arith) b ∙ ap (λ x. interior_proposal S (components S) (suc x)) (rank-shift in_r k F.zero-out)))
      (λ k l b. option_out inside (on_map_lem (λ p g. g.port) (interior_proposal_on false (suc k) b)))
      ∙ ap (λ n. collect n (λ k. interior_proposal S (components S) (suc k))) (sym F.regions)

  -- ---- the order and the conflicts

  ranks_before_in : (p q : InteriorProposal) → PlaceOf true p → PlaceOf true q → ranks_before L p q ≡ ranks_before S (e p) (e q)
  unfolding ranks_before
  ranks_before_in p q g h = ap₂ list_lt (key_in p g) (key_in q h)
    where
      key_in : (p : InteriorProposal) → PlaceOf true p → key L p ≡ key S (e p)
      key_in p g = λ t. (F.boundary p.first_port g.port t).ramp_id ∷ endpoints_key (F.boundary p.first_port g.port t).endpoints

  conflict_in : (q p : InteriorProposal) → PlaceOf true q → PlaceOf true p → conflict L q p ≡ conflict S (e q) (e p)
  unfolding conflict
  conflict_in q p g k =
      ap₂ ◌||◌ (meet-ren (rank in_b) (λ i. in_b i ≡ true) (rank-eqb in_b) k.edges g.edges) (meet_in in_r k.regions g.regions)

  conflict-apart : (q p : InteriorProposal) → PlaceOf false q → PlaceOf true p → conflict L q p ≡ false
  unfolding conflict
  conflict-apart q p g k = ap₂ ◌||◌ (meet-split in_b true k.edges g.edges) (meet-split in_r true k.regions g.regions)

  -- ---- the choice

  -- the proposals taken inside are those of the small context, in the same order
  taken_in : map e (filter inside (taken L)) ≡ taken S
  unfolding taken ranks_before
  taken_in =
      choice_in inside PlaceOf e (ranks_before L) (ranks_before S) (conflict L) (conflict S) (by_key (key L)) ranks_before_in conflict_in conflict-apart all_placed proposals_in

  taken-placed : All (Placed inside PlaceOf) (taken L)
  unfolding taken ranks_before
  taken-placed =
      choice-placed inside PlaceOf e (ranks_before L) (ranks_before S) (conflict L) (conflict S) (by_key (key L)) ranks_before_in conflict_in conflict-apart all_placed

  pub removed_in : (i : ℕ) → in_b i ≡ true → member i (removed L) ≡ member (rank in_b i) (removed S)
  unfolding removed
  removed_in i b =
      listed_in in_b e inside (λ p. p.edges) (λ p. refl) i b (all_map (λ p g. g.edges) taken-placed)
      ∙ ap (λ l. member (rank in_b i) (concat_map (λ p. p.edges) l)) taken_in
