-- Pass 3, the unions: what the large context proposes at a boundary inside is what the small one proposes at its rank, renamed; and a proposal's regions lie
-- where its boundary does. One lemma for each definition, in their order. Assumes a frame.
use Rattle.std.specs.Prelude.{ℕ, ◌+◌, ◌≡◌, false, ◌||◌, Option, option_map}
use Rattle.std.proofs.Math.Path.{refl, ap, ap₂}
use Rattle.std.proofs.Common.{sym, ◌∙◌}
use Rattle.std.proofs.Math.Bool.{Bool, true, not, ◌&&◌, cond, and-false}
use Rattle.std.proofs.Math.Dec.{eqb, ltb, leb}
use Rattle.std.specs.Float.Ieee.{le}
use Rattle.definitions.specs.Scan.{any_below_lem, all_below, only_if, bit}
use Rattle.definitions.specs.Grid.{Pair, contains}
use Rattle.definitions.specs.Geometry.{center}
use Rattle.definitions.specs.RegionRecord.{has_ramp, strictly_flat, same_dominance}
use Rattle.definitions.specs.Context.{Context, full_pair, holds}
use Rattle.definitions.specs.Junctions.{Proposal, fits_union, exterior_of, within_distance, within_radius, within_span_radius, max_port_distance_pixels, is_union_port, is_new_exterior, anchored_regions, is_near_port, ports_fit, is_widest, union_shape, union_regions, union_from, union_proposal}
use Rattle.laws.specs.OrderLaws.Ranks.{rank, rank-eqb, any-rank}
use Rattle.laws.specs.ListLaws.Options.{OnO, absent, present, on_only, only_map}
use Rattle.island.specs.Frame.{Frame, ren, ren_p, ren-eqb, PairOn}
use Rattle.island.specs.RegionLists.{contains_in, pick_in, pick_on}
use Rattle.island.specs.FrameLemmas.{is_incident_in, is_incident-split, full_pair_in, full_pair_on, holds_in, no_ramp_in, width_in, all_in, count_in}

module _ (in_b in_r : ℕ → Bool) where
  abbrev pub ren_proposal : Proposal → Proposal
  ren_proposal q = record { index = rank in_b q.index; kind = q.kind; first = ren in_r q.first; second = ren in_r q.second }

  -- a proposal's regions lie where its boundary does
  pub record ProposalOn (b : Bool) (q : Proposal) : Type 0 where
    pub index : in_b q.index ≡ b
    pub first : in_r q.first ≡ b
    pub second : in_r q.second ≡ b

-- ---- of two pairs

module _ (in_r : ℕ → Bool) (p q : Pair) (k : PairOn in_r true p) (m : PairOn in_r true q) where
  fits_union_in : fits_union p q ≡ fits_union (ren_p in_r p) (ren_p in_r q)
  fits_union_in = λ t. not (l t) && h t || l t && not (h t)
    where
      l : contains q.lo p ≡ contains (ren in_r q.lo) (ren_p in_r p)
      l = contains_in in_r q.lo p m.lo k

      h : contains q.hi p ≡ contains (ren in_r q.hi) (ren_p in_r p)
      h = contains_in in_r q.hi p m.hi k

  exterior_of_in : ren in_r (exterior_of p q) ≡ exterior_of (ren_p in_r p) (ren_p in_r q)
  exterior_of_in = pick_in in_r q (contains q.lo p) ∙ ap (λ t. cond t (ren in_r q.hi) (ren in_r q.lo)) (contains_in in_r q.lo p m.lo k)

  exterior_of_on : in_r (exterior_of p q) ≡ true
  exterior_of_on = pick_on in_r true q m (contains q.lo p)

module _ {L S : Context} {in_b in_r : ℕ → Bool} (F : Frame L S in_b in_r) where
  pub is_near_port_in : (i j : ℕ) → in_b i ≡ true → in_b j ≡ true → is_near_port L i j ≡ is_near_port S (rank in_b i) (rank in_b j)
  unfolding is_near_port
  is_near_port_in i j b c = λ t. within_distance (center (F.boundary i b t).endpoints) (center (F.boundary j c t).endpoints) max_port_distance_pixels

  -- ---- the union of p across boundary i, both inside

  module _ (i : ℕ) (p : Pair) (b : in_b i ≡ true) (k : PairOn in_r true p) where
    is_union_port_in : (j : ℕ) → in_b j ≡ true → is_union_port L i p j ≡ is_union_port S (rank in_b i) (ren_p in_r p) (rank in_b j)
    unfolding is_union_port
    is_union_port_in j c = λ t. not (rank-eqb in_b j i c b t) && (is_incident_in F j p.lo c k.lo t || is_incident_in F j p.hi c k.hi t)

    is_union_port-out : (j : ℕ) → in_b j ≡ false → is_union_port L i p j ≡ false
    unfolding is_union_port
    is_union_port-out j c =
        (λ t. not (eqb j i) && (is_incident-split F true j p.lo k.lo c t || is_incident-split F true j p.hi k.hi c t)) ∙ and-false (not (eqb j i))

    is_new_exterior_in : (j : ℕ) → in_b j ≡ true → is_new_exterior L i p j ≡ is_new_exterior S (rank in_b i) (ren_p in_r p) (rank in_b j)
    unfolding is_new_exterior
    is_new_exterior_in j c =
        ap₂ ◌&&◌ (is_union_port_in j c)
        (holds_in F j (λ q. not (earlier q)) (λ q. not (earlier' q)) c
        (λ q m.
        ap not
        (any-rank in_b _ _ j
        (λ x l d.
        ap₂ ◌&&◌ (is_union_port_in x d)
        (holds_in F x (λ o. eqb (exterior_of p o) (exterior_of p q)) (λ o. eqb (exterior_of (ren_p in_r p) o) (exterior_of (ren_p in_r p) (ren_p in_r q))) d
        (λ o n.
        ren-eqb in_r (exterior_of p o) (exterior_of p q) (exterior_of_on in_r p o k n) (exterior_of_on in_r p q k m)
        ∙ ap₂ eqb (exterior_of_in in_r p o k n) (exterior_of_in in_r p q k m))))
        (λ x l d. ap (λ t. t && holds (full_pair L x) (λ o. eqb (exterior_of p o) (exterior_of p q))) (is_union_port-out x d)))))
      where
        earlier : Pair → Bool
        earlier q = any_below_lem j (λ x. is_union_port L i p x && holds (full_pair L x) (λ o. eqb (exterior_of p o) (exterior_of p q)))

        earlier' : Pair → Bool
        earlier' q =
            any_below_lem (rank in_b j)
            (λ x. is_union_port S (rank in_b i) (ren_p in_r p) x && holds (full_pair S x) (λ o. eqb (exterior_of (ren_p in_r p) o) (exterior_of (ren_p in_r p) q)))

    is_new_exterior-out : (j : ℕ) → in_b j ≡ false → is_new_exterior L i p j ≡ false
    unfolding is_new_exterior
    is_new_exterior-out j c = rw (is_union_port-out j c) refl

    anchored_regions_in : anchored_regions L p ≡ anchored_regions S (ren_p in_r p)
    anchored_regions_in = λ t. bit (F.anchored p.lo k.lo t) + bit (F.anchored p.hi k.hi t)

    -- a test of all ports
    ports_in : (f g : ℕ → Bool) → ((j : ℕ) → in_b j ≡ true → f j ≡ g (rank in_b j)) → all_below L.count (λ j. not (is_union_port L i p j) || f j) ≡ all_below S.count (λ j. not (is_union_port S (rank in_b i) (ren_p in_r p) j) || g j)
    ports_in f g s =
        all_in F (λ j. not (is_union_port L i p j) || f j) (λ j. not (is_union_port S (rank in_b i) (ren_p in_r p) j) || g j)
        (λ j c. ap₂ (λ x y. not x || y) (is_union_port_in j c) (s j c))
        (λ j c. ap (λ x. not x || f j) (is_union_port-out j c))

    ports_fit_in : ports_fit L i p ≡ ports_fit S (rank in_b i) (ren_p in_r p)
    unfolding ports_fit
    ports_fit_in = ports_in _ _ (λ j c. holds_in F j (fits_union p) (fits_union (ren_p in_r p)) c (λ q m. fits_union_in in_r p q k m))

    is_widest_in : is_widest L i p ≡ is_widest S (rank in_b i) (ren_p in_r p)
    unfolding is_widest
    is_widest_in = ports_in _ _ (λ j c. ap₂ le (width_in F j c) (width_in F i b))

    union_shape_in : union_shape L i p ≡ union_shape S (rank in_b i) (ren_p in_r p)
    unfolding union_shape
    union_shape_in =
        λ t.
        no_ramp_in F i b t && ltb (anchored_regions_in t) 2 && ports_fit_in t
        && leb 3 (count_in F (is_union_port L i p) (is_union_port S (rank in_b i) (ren_p in_r p)) is_union_port_in is_union_port-out t)
        && ports_in (is_near_port L i) (is_near_port S (rank in_b i)) (λ j c. is_near_port_in i j b c) t
        && leb 3 (count_in F (is_new_exterior L i p) (is_new_exterior S (rank in_b i) (ren_p in_r p)) is_new_exterior_in is_new_exterior-out t)
        && (not (eqb (anchored_regions_in t) 1) || is_widest_in t)

    union_regions_in : union_regions L i p ≡ union_regions S (rank in_b i) (ren_p in_r p)
    unfolding union_regions
    union_regions_in =
        λ t.
        let s = F.region p.lo k.lo t in
        let u = F.region p.hi k.hi t in
        let ends = (F.boundary i b t).endpoints in
        let one = eqb (anchored_regions_in t) 1 in
        not (has_ramp s) && not (has_ramp u)
        && cond one (within_span_radius s ends && within_span_radius u ends) (within_radius s (center ends) && within_radius u (center ends))
        && (strictly_flat s u || one && same_dominance s u)

  -- ---- proposals

  pub union_proposal_in : (i : ℕ) → in_b i ≡ true → union_proposal S (rank in_b i) ≡ option_map (ren_proposal in_b in_r) (union_proposal L i)
  unfolding union_proposal union_from
  union_proposal_in i b = ap (union_from S (rank in_b i)) (full_pair_in F i b) ∙ go (full_pair_on F true i b)
    where
      go : {o : Option Pair} → OnO (PairOn in_r true) o → union_from S (rank in_b i) (option_map (ren_p in_r) o) ≡ option_map (ren_proposal in_b in_r) (union_from L i o)
      go absent = refl
      go (present {x = p} k) =
          ap (λ t. only_if t (record { index = rank in_b i; kind = 0; first = ren in_r p.lo; second = ren in_r p.hi }))
          (sym (ap₂ ◌&&◌ (union_shape_in i p b k) (union_regions_in i p b k)))
          ∙ only_map (ren_proposal in_b in_r) (union_shape L i p && union_regions L i p) (record { index = i; kind = 0; first = p.lo; second = p.hi })

  pub union_proposal_on : (b : Bool) (i : ℕ) → in_b i ≡ b → OnO (ProposalOn in_b in_r b) (union_proposal L i)
  unfolding union_proposal union_from
  union_proposal_on b i h = go (full_pair_on F b i h)
    where
      go : {o : Option Pair} → OnO (PairOn in_r b) o → OnO (ProposalOn in_b in_r b) (union_from L i o)
      go absent = absent
      go (present {x = p} k) = on_only (union_shape L i p && union_regions L i p) _ (record { index = h; first = k.lo; second = k.hi })
