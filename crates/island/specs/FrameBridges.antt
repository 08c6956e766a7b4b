-- Pass 3, the bridges: what the large context proposes for a pocket inside is what the small one proposes for its new number, renamed; and the ports and the
-- exterior of a pocket lie where it does. One lemma for each definition, in their order. Assumes a frame.
use Rattle.std.specs.Prelude.{ℕ, ◌≡◌, Bool, ◌&&◌, List, map, eqb, option_map, Option, None}
use Rattle.std.proofs.Math.Path.{refl, sym, ap}
use Rattle.std.proofs.Common.{ap₂, ◌∙◌}
use Rattle.std.proofs.Math.Bool.{true, not, cond}
use Rattle.std.specs.Float.Ieee.{binary64, le, mul}
use Rattle.definitions.specs.Scan.{all, only_if}
use Rattle.definitions.specs.Grid.{Pair}
use Rattle.definitions.specs.Geometry.{float, center}
use Rattle.definitions.specs.RegionRecord.{has_ramp, strictly_flat}
use Rattle.definitions.specs.Context.{Context, full_pair, is_incident, no_ramp}
use Rattle.definitions.specs.Junctions.{Proposal, is_some, beyond, within_radius, ports_of, port_exterior, is_shared, is_twice_as_wide, bridge_fits, bridge_at, pick_bridge, bridge_of_ports, bridge_proposal}
use Rattle.laws.specs.ListLaws.Lists.{All, done, more, all-ren}
use Rattle.laws.specs.OrderLaws.Ranks.{rank}
use Rattle.laws.specs.ListLaws.Options.{OnO, absent, present, on_only, on_cond, only_map, cond_map}
use Rattle.island.specs.Frame.{Frame, ren, ren_p, ren-eqb, PairOn}
use Rattle.island.specs.RegionLists.{other_region_in, other_region_on}
use Rattle.island.specs.FrameLemmas.{is_incident_in, is_incident-split, full_pair_in, full_pair_on, holds_in, no_ramp_in, width_in, chosen_in, chosen_on}
use Rattle.island.specs.FrameUnions.{ren_proposal, ProposalOn, is_near_port_in}

module _ {L S : Context} {in_b in_r : ℕ → Bool} (F : Frame L S in_b in_r) where
  -- ---- where a pocket's ports and exteriors lie

  ports_of_on : (b : Bool) (r : ℕ) → in_r r ≡ b → All (λ j. in_b j ≡ b) (ports_of L r)
  unfolding ports_of
  ports_of_on b r h = chosen_on in_b b (λ j. is_incident L j r) L.count (λ j c. is_incident-split F b j r h c)

  port_exterior_on : (b : Bool) (r j : ℕ) → in_r r ≡ b → in_b j ≡ b → in_r (port_exterior L r j) ≡ b
  unfolding port_exterior
  port_exterior_on b r j h c = go (full_pair_on F b j c)
    where
      go : {o : Option Pair} → OnO (PairOn in_r b) o → in_r (beyond r o) ≡ b
      go absent = h
      go (present {x = p} k) = other_region_on in_r b r p k

  module _ (b : Bool) (r : ℕ) (h : in_r r ≡ b) where
    bridge_at_on : (i k t : ℕ) → in_b i ≡ b → OnO (ProposalOn in_b in_r b) (bridge_at L r i k t)
    unfolding bridge_at
    bridge_at_on i k t c = on_only (bridge_fits L r i k t) _ (record { index = c; first = h; second = port_exterior_on b r i h c })

    pick_bridge_on : (i k t : ℕ) → in_b i ≡ b → in_b k ≡ b → OnO (ProposalOn in_b in_r b) (pick_bridge L r i k t)
    unfolding pick_bridge
    pick_bridge_on i k t c d = on_cond (is_twice_as_wide L i k) (bridge_at_on i k t c) (on_cond (is_twice_as_wide L k i) (bridge_at_on k i t d) absent)

    bridge_of_ports_on : {ps : List ℕ} → All (λ j. in_b j ≡ b) ps → OnO (ProposalOn in_b in_r b) (bridge_of_ports L r ps)
    unfolding bridge_of_ports
    bridge_of_ports_on done = absent
    bridge_of_ports_on (more c done) = absent
    bridge_of_ports_on (more c (more d done)) = absent
    bridge_of_ports_on (more {x = i} c (more {x = j} d (more {x = k} e done))) =
        on_cond (is_shared L r i j k) (pick_bridge_on i j k c d)
        (on_cond (is_shared L r i k j) (pick_bridge_on i k j c e) (on_cond (is_shared L r j k i) (pick_bridge_on j k i d e) absent))
    bridge_of_ports_on (more c (more d (more e (more f a)))) = absent

    pub bridge_proposal_on : OnO (ProposalOn in_b in_r b) (bridge_proposal L r)
    unfolding bridge_proposal
    bridge_proposal_on = on_cond (not (L.anchored r) && all (λ j. no_ramp L j && is_some (full_pair L j)) (ports_of L r)) (bridge_of_ports_on (ports_of_on b r h)) absent

  -- ---- a pocket inside

  module _ (r : ℕ) (h : in_r r ≡ true) where
    ports_of_in : map (rank in_b) (ports_of L r) ≡ ports_of S (ren in_r r)
    unfolding ports_of
    ports_of_in = chosen_in F (λ j. is_incident L j r) (λ j. is_incident S j (ren in_r r)) (λ j c. is_incident_in F j r c h) (λ j c. is_incident-split F true j r h c)

    port_exterior_in : (j : ℕ) → in_b j ≡ true → port_exterior S (ren in_r r) (rank in_b j) ≡ ren in_r (port_exterior L r j)
    unfolding port_exterior
    port_exterior_in j b = ap (beyond (ren in_r r)) (full_pair_in F j b) ∙ go (full_pair_on F true j b)
      where
        go : {o : Option Pair} → OnO (PairOn in_r true) o → beyond (ren in_r r) (option_map (ren_p in_r) o) ≡ ren in_r (beyond r o)
        go absent = refl
        go (present {x = p} k) = sym (other_region_in in_r r p h k)

    same_exterior_in : (i k : ℕ) → in_b i ≡ true → in_b k ≡ true → eqb (port_exterior L r i) (port_exterior L r k) ≡ eqb (port_exterior S (ren in_r r) (rank in_b i)) (port_exterior S (ren in_r r) (rank in_b k))
    same_exterior_in i k b c =
        ren-eqb in_r (port_exterior L r i) (port_exterior L r k) (port_exterior_on true r i h b) (port_exterior_on true r k h c)
        ∙ sym (ap₂ eqb (port_exterior_in i b) (port_exterior_in k c))

    is_twice_as_wide_in : (i k : ℕ) → in_b i ≡ true → in_b k ≡ true → is_twice_as_wide L i k ≡ is_twice_as_wide S (rank in_b i) (rank in_b k)
    unfolding is_twice_as_wide
    is_twice_as_wide_in i k b c = λ x. le (mul binary64 (float 2) (width_in F k c x)) (width_in F i b x)

    module _ (i k t : ℕ) (b : in_b i ≡ true) (c : in_b k ≡ true) (d : in_b t ≡ true) where
      is_shared_in : is_shared L r i k t ≡ is_shared S (ren in_r r) (rank in_b i) (rank in_b k) (rank in_b t)
      unfolding is_shared
      is_shared_in =
          λ x.
          same_exterior_in i k b c x && not (same_exterior_in t i d b x)
          && (F.anchored (port_exterior L r t) (port_exterior_on true r t h d) ∙ ap S.anchored (sym (port_exterior_in t d))) x

      bridge_fits_in : bridge_fits L r i k t ≡ bridge_fits S (ren in_r r) (rank in_b i) (rank in_b k) (rank in_b t)
      unfolding bridge_fits
      bridge_fits_in =
          λ x.
          is_near_port_in F i i b b x && is_near_port_in F i k b c x && is_near_port_in F i t b d x && not (has_ramp (F.region r h x))
          && within_radius (F.region r h x) (center (F.boundary i b x).endpoints)
          && strictly_flat (F.region r h x) (F.region r h x)

      bridge_at_in : bridge_at S (ren in_r r) (rank in_b i) (rank in_b k) (rank in_b t) ≡ option_map (ren_proposal in_b in_r) (bridge_at L r i k t)
      unfolding bridge_at
      bridge_at_in =
          (λ x. only_if (sym bridge_fits_in x) (record { index = rank in_b i; kind = 1; first = ren in_r r; second = port_exterior_in i b x }))
          ∙ only_map (ren_proposal in_b in_r) (bridge_fits L r i k t) (record { index = i; kind = 1; first = r; second = port_exterior L r i })

    pick_bridge_in : (i k t : ℕ) → in_b i ≡ true → in_b k ≡ true → in_b t ≡ true → option_map (ren_proposal in_b in_r) (pick_bridge L r i k t) ≡ pick_bridge S (ren in_r r) (rank in_b i) (rank in_b k) (rank in_b t)
    unfolding pick_bridge
    pick_bridge_in i k t b c d =
        cond_map (ren_proposal in_b in_r) (is_twice_as_wide L i k) (bridge_at L r i k t) (cond (is_twice_as_wide L k i) (bridge_at L r k i t) None)
        ∙ ap (cond (is_twice_as_wide L i k) (option_map (ren_proposal in_b in_r) (bridge_at L r i k t))) (cond_map (ren_proposal in_b in_r) (is_twice_as_wide L k i) (bridge_at L r k i t) None)
        ∙ (λ x. cond (is_twice_as_wide_in i k b c x) (sym (bridge_at_in i k t b c d) x) (cond (is_twice_as_wide_in k i c b x) (sym (bridge_at_in k i t c b d) x) None))

    bridge_of_ports_in : {ps : List ℕ} → All (λ j. in_b j ≡ true) ps → option_map (ren_proposal in_b in_r) (bridge_of_ports L r ps) ≡ bridge_of_ports S (ren in_r r) (map (rank in_b) ps)
    unfolding bridge_of_ports
    bridge_of_ports_in done = refl
    bridge_of_ports_in (more b done) = refl
    bridge_of_ports_in (more b (more c done)) = refl
    bridge_of_ports_in (more {x = i} b (more {x = j} c (more {x = k} d done))) =
        cond_map e (is_shared L r i j k) (pick_bridge L r i j k) (cond (is_shared L r i k j) (pick_bridge L r i k j) last)
        ∙ ap (cond (is_shared L r i j k) (option_map e (pick_bridge L r i j k)))
        (cond_map e (is_shared L r i k j) (pick_bridge L r i k j) last
        ∙ ap (cond (is_shared L r i k j) (option_map e (pick_bridge L r i k j))) (cond_map e (is_shared L r j k i) (pick_bridge L r j k i) None))
        ∙ (λ x.
        cond (is_shared_in i j k b c d x) (pick_bridge_in i j k b c d x)
        (cond (is_shared_in i k j b d c x) (pick_bridge_in i k j b d c x) (cond (is_shared_in j k i c d b x) (pick_bridge_in j k i c d b x) None)))
      where
        e : Proposal → Proposal
        e = ren_proposal in_b in_r

        last : Option Proposal
        last = cond (is_shared L r j k i) (pick_bridge L r j k i) None
    bridge_of_ports_in (more b (more c (more d (more e a)))) = refl

    pub bridge_proposal_in : option_map (ren_proposal in_b in_r) (bridge_proposal L r) ≡ bridge_proposal S (ren in_r r)
    unfolding bridge_proposal
    bridge_proposal_in =
        cond_map (ren_proposal in_b in_r) (not (L.anchored r) && all (λ j. no_ramp L j && is_some (full_pair L j)) (ports_of L r)) (bridge_of_ports L r (ports_of L r)) None
        ∙ (λ x.
        cond (not (F.anchored r h x) && fit x)
        ((bridge_of_ports_in inside ∙ ap (bridge_of_ports S (ren in_r r)) ports_of_in) x)
        None)
      where
        inside : All (λ j. in_b j ≡ true) (ports_of L r)
        inside = ports_of_on true r h

        fit : all (λ j. no_ramp L j && is_some (full_pair L j)) (ports_of L r) ≡ all (λ j. no_ramp S j && is_some (full_pair S j)) (ports_of S (ren in_r r))
        fit =
            all-ren (rank in_b) (λ j. in_b j ≡ true) (λ j. no_ramp L j && is_some (full_pair L j)) (λ j. no_ramp S j && is_some (full_pair S j))
            (λ j b. ap₂ ◌&&◌ (no_ramp_in F j b) (holds_in F j (λ q. true) (λ q. true) b (λ q m. refl)))
            inside
            ∙ ap (all (λ j. no_ramp S j && is_some (full_pair S j))) ports_of_in
