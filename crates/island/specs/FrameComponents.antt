-- Pass 2, the components: a component inside has the name, the edges, the regions and the ports that it has in the small context, renamed. The links of the
-- large context lie inside or outside whole, so merging outside changes no name inside (laws: MergingInside). Assumes a frame.
use Rattle.std.specs.Prelude.{ℕ, suc, ◌<◌, ◌≡◌}
use Rattle.std.proofs.Common.{arith, ◌∙◌}
use Rattle.std.proofs.Math.Path.{refl, sym, ap, ap₂}
use Rattle.std.proofs.Math.Bool.{Bool, true, false, not, ◌&&◌, ◌||◌, cond, and-false}
use mathlib.Core.List.{List, [], ◌∷◌, map}
use Rattle.std.proofs.Math.ListN.{length}
use Rattle.std.proofs.lemmas.List.{length-map}
use Rattle.std.proofs.Math.Dec.{eqb, leb}
use Rattle.definitions.specs.Scan.{any, all, filter, all_below, gather, add_all}
use Rattle.definitions.specs.Grid.{Pair}
use Rattle.definitions.specs.Context.{Context}
use Rattle.definitions.specs.MouthShapes.{regions_of}
use Rattle.definitions.specs.RampInteriors.{max_interior_edges, is_ordinary, links, components, is_edge, edges_of, component_regions, is_candidate, is_port, component_ports}
use Rattle.laws.specs.ListLaws.Lists.{All, done, more, all_map, all_both, filter_none, any-ren, all-ren}
use Rattle.laws.specs.OrderLaws.Ranks.{rank, rank_lt, rank-shift, gather-rank, gather-map, gather-all}
use Rattle.laws.specs.OrderLaws.ListOrder.{eqb_sym}
use Rattle.laws.specs.RegionLaws.Components.{component}
use Rattle.laws.specs.RegionLaws.Merging.{Within}
use Rattle.laws.specs.RegionLaws.MergingInside.{Keeps, Agree, Sided, merging_inside}
use Rattle.laws.specs.ListLaws.Members.{any-fails}
use Rattle.laws.specs.ListLaws.NumberLists.{all-add_all, split}
use Rattle.island.specs.Frame.{Frame, ren, ren_p, ren-eqb, ren-ltb, PairOn}
use Rattle.island.specs.RegionLists.{On, add_all_in, regions_of_on, regions_of_in}
use Rattle.island.specs.FrameLemmas.{full_cut_in, any-anchored_in, all_in, chosen_in, chosen_on}

-- a filter that every element passes
filter_every : {A : Type 0} (p : A → Bool) {l : List A} → All (λ x. p x ≡ true) l → filter p l ≡ l
unfolding filter
filter_every p done = refl
filter_every {A} p (more {x = x} h a) = rw h (ap {B = List A} (λ m. x ∷ m) (filter_every p a))

module _ {L S : Context} {in_b in_r : ℕ → Bool} (F : Frame L S in_b in_r) where
  abbrev n : ℕ
  n = suc L.regions

  abbrev n' : ℕ
  n' = suc S.regions

  -- a pair of the large context that lies on one side
  abbrev PairIn : Bool → Pair → Type 0
  PairIn b p = PairOn in_r b p × Within n p

  pairs-within : (b : Bool) (i : ℕ) → in_b i ≡ b → All (PairIn b) (L.pairs i)
  pairs-within b i h = all_both (F.pairs_on b i h) (F.pairs-within i)

  -- ---- the links

  is_ordinary_in : (i : ℕ) → in_b i ≡ true → is_ordinary L i ≡ is_ordinary S (rank in_b i)
  unfolding is_ordinary
  is_ordinary_in i b = λ t. eqb (F.boundary i b t).kind 0 && full_cut_in F i b t

  links_in : map (ren_p in_r) (filter (λ p. in_r p.lo) (links L)) ≡ links S
  unfolding links filter
  links_in =
      gather-rank in_b (λ p. in_r p.lo) (ren_p in_r) (λ i. cond (is_ordinary L i) (L.pairs i) []) (λ i. cond (is_ordinary S i) (S.pairs i) []) L.count
      (λ i l b. inside i b (is_ordinary L i) ∙ ap (λ t. cond t (S.pairs (rank in_b i)) []) (is_ordinary_in i b))
      (λ i l b. outside i b (is_ordinary L i))
      ∙ ap (λ m. gather m (λ i. cond (is_ordinary S i) (S.pairs i) [])) (sym F.count)
    where
      inside : (i : ℕ) → in_b i ≡ true → (t : Bool) → map (ren_p in_r) (filter (λ p. in_r p.lo) (cond t (L.pairs i) [])) ≡ cond t (S.pairs (rank in_b i)) []
      inside i b true = ap (map (ren_p in_r)) (filter_every (λ p. in_r p.lo) (all_map (λ p k. k.lo) (F.pairs_on true i b))) ∙ sym (F.pairs i b)
      inside i b false = refl

      outside : (i : ℕ) → in_b i ≡ false → (t : Bool) → filter (λ p. in_r p.lo) (cond t (L.pairs i) []) ≡ []
      outside i b true = filter_none (λ p. in_r p.lo) (λ p k. k.lo) (F.pairs_on false i b)
      outside i b false = refl

  keeps : Keeps in_r (ren in_r) n n'
  keeps =
      record {
        order = λ a b h k. ren-ltb in_r a b h;
        level = ren-eqb in_r;
        small = λ c l h. omega (arith, rank_lt in_r c n h l, rank-shift in_r L.regions F.zero-out, F.regions);
      }

  links-sided : All (Sided in_r (ren in_r) n n' keeps) (links L)
  unfolding links
  links-sided = gather-all _ _ L.count (λ i. go i (is_ordinary L i))
    where
      go : (i : ℕ) (t : Bool) → All (Sided in_r (ren in_r) n n' keeps) (cond t (L.pairs i) [])
      go i true = all_map (λ p k. record { lo = k.1.lo; hi = k.1.hi; one = k.0.lo ∙ sym k.0.hi }) (pairs-within (in_b i) i refl)
      go i false = done

  -- ---- the names

  components_in : Agree in_r (ren in_r) n n' keeps (components L) (components S)
  unfolding components
  components_in = rw links_in at (merging_inside in_r (ren in_r) n n' keeps links-sided)

  name_in : (x r : ℕ) → x < n → in_r x ≡ true → in_r r ≡ true → eqb (component L x) r ≡ eqb (component S (ren in_r x)) (ren in_r r)
  name_in x r l h k =
      ren-eqb in_r (component L x) r (components_in.side x l ∙ h) k ∙ ap (λ y. eqb y (ren in_r r)) (components_in.same x l h)

  name-split : (b : Bool) (x r : ℕ) → x < n → in_r x ≡ not b → in_r r ≡ b → eqb (component L x) r ≡ false
  name-split b x r l h k = eqb_sym (component L x) r ∙ split in_r b r (component L x) k (components_in.side x l ∙ h)

  -- ---- what lies on the other side

  is_edge-split : (b : Bool) (r i : ℕ) → in_r r ≡ b → in_b i ≡ not b → is_edge L (components L) r i ≡ false
  unfolding is_edge
  is_edge-split b r i h k =
      ap (λ t. is_ordinary L i && t) (any-fails _ (all_map (λ p x. name-split b p.lo r x.1.lo x.0.lo h) (pairs-within (not b) i k)))
      ∙ and-false (is_ordinary L i)

  is_port-split : (b : Bool) (r i : ℕ) → in_r r ≡ b → in_b i ≡ not b → is_port L (components L) r i ≡ false
  unfolding is_port
  is_port-split b r i h k =
      ap (λ t. not (is_edge L (components L) r i) && t)
      (any-fails _
      (all_map (λ p x. ap₂ ◌||◌ (name-split b p.lo r x.1.lo x.0.lo h) (name-split b p.hi r x.1.hi x.0.hi h)) (pairs-within (not b) i k)))
      ∙ and-false (not (is_edge L (components L) r i))

  pub edges_of_on : (b : Bool) (r : ℕ) → in_r r ≡ b → All (λ i. in_b i ≡ b) (edges_of L (components L) r)
  unfolding edges_of
  edges_of_on b r h = chosen_on in_b b (is_edge L (components L) r) L.count (λ i k. is_edge-split b r i h k)

  pub component_ports_on : (b : Bool) (r : ℕ) → in_r r ≡ b → All (λ i. in_b i ≡ b) (component_ports L (components L) r)
  unfolding component_ports
  component_ports_on b r h = chosen_on in_b b (is_port L (components L) r) L.count (λ i k. is_port-split b r i h k)

  edge_regions_on : (b : Bool) (r i : ℕ) → in_r r ≡ b → All (On in_r b) (cond (is_edge L (components L) r i) (regions_of (L.pairs i)) [])
  edge_regions_on b r i h = go (in_b i) refl b h
    where
      here : (b : Bool) → in_b i ≡ b → (t : Bool) → All (On in_r b) (cond t (regions_of (L.pairs i)) [])
      here b e true = regions_of_on in_r b (F.pairs_on b i e)
      here b e false = done

      elsewhere : (b : Bool) → is_edge L (components L) r i ≡ false → All (On in_r b) (cond (is_edge L (components L) r i) (regions_of (L.pairs i)) [])
      elsewhere b e = rw e done

      go : (c : Bool) → in_b i ≡ c → (b : Bool) → in_r r ≡ b → All (On in_r b) (cond (is_edge L (components L) r i) (regions_of (L.pairs i)) [])
      go true e true h = here true e (is_edge L (components L) r i)
      go true e false h = elsewhere false (is_edge-split false r i h e)
      go false e true h = elsewhere true (is_edge-split true r i h e)
      go false e false h = here false e (is_edge L (components L) r i)

  pub component_regions_on : (b : Bool) (r : ℕ) → in_r r ≡ b → All (On in_r b) (component_regions L (components L) r)
  unfolding component_regions
  component_regions_on b r h = all-add_all done (gather-all _ _ L.count (λ i. edge_regions_on b r i h))

  -- ---- a component inside

  module _ (r : ℕ) (h : in_r r ≡ true) where
    -- a pair names the component where its renamed one does
    lo_in : (p : Pair) → PairIn true p → eqb (component L p.lo) r ≡ eqb (component S (ren in_r p.lo)) (ren in_r r)
    lo_in p k = name_in p.lo r k.1.lo k.0.lo h

    hi_in : (p : Pair) → PairIn true p → eqb (component L p.hi) r ≡ eqb (component S (ren in_r p.hi)) (ren in_r r)
    hi_in p k = name_in p.hi r k.1.hi k.0.hi h

    is_edge_in : (i : ℕ) → in_b i ≡ true → is_edge L (components L) r i ≡ is_edge S (components S) (ren in_r r) (rank in_b i)
    unfolding is_edge
    is_edge_in i b =
        ap₂ ◌&&◌ (is_ordinary_in i b)
        (any-ren (ren_p in_r) (PairIn true) (λ p. eqb (component L p.lo) r) (λ p. eqb (component S p.lo) (ren in_r r)) lo_in (pairs-within true i b)
        ∙ ap (any (λ p. eqb (component S p.lo) (ren in_r r))) (sym (F.pairs i b)))

    is_port_in : (i : ℕ) → in_b i ≡ true → is_port L (components L) r i ≡ is_port S (components S) (ren in_r r) (rank in_b i)
    unfolding is_port
    is_port_in i b =
        ap₂ (λ x y. not x && y) (is_edge_in i b)
        (any-ren (ren_p in_r) (PairIn true) (λ p. eqb (component L p.lo) r || eqb (component L p.hi) r) about (λ p k t. lo_in p k t || hi_in p k t)
        (pairs-within true i b)
        ∙ ap (any about) (sym (F.pairs i b)))
      where
        about : Pair → Bool
        about p = eqb (component S p.lo) (ren in_r r) || eqb (component S p.hi) (ren in_r r)

    pub edges_of_in : map (rank in_b) (edges_of L (components L) r) ≡ edges_of S (components S) (ren in_r r)
    unfolding edges_of
    edges_of_in = chosen_in F (is_edge L (components L) r) (is_edge S (components S) (ren in_r r)) is_edge_in (λ i b. is_edge-split true r i h b)

    pub component_ports_in : map (rank in_b) (component_ports L (components L) r) ≡ component_ports S (components S) (ren in_r r)
    unfolding component_ports
    component_ports_in = chosen_in F (is_port L (components L) r) (is_port S (components S) (ren in_r r)) is_port_in (λ i b. is_port-split true r i h b)

    pub component_regions_in : map (ren in_r) (component_regions L (components L) r) ≡ component_regions S (components S) (ren in_r r)
    unfolding component_regions
    component_regions_in =
        add_all_in in_r done (gather-all _ _ L.count (λ i. edge_regions_on true r i h))
        ∙ ap (add_all [])
        (gather-map in_b (ren in_r) (λ i. cond (is_edge L (components L) r i) (regions_of (L.pairs i)) [])
        (λ i. cond (is_edge S (components S) (ren in_r r) i) (regions_of (S.pairs i)) [])
        L.count
        (λ i l b. inside i b (is_edge L (components L) r i) ∙ ap (λ t. cond t (regions_of (S.pairs (rank in_b i))) []) (is_edge_in i b))
        (λ i l b. ap (λ t. cond t (regions_of (L.pairs i)) []) (is_edge-split true r i h b))
        ∙ ap (λ m. gather m (λ i. cond (is_edge S (components S) (ren in_r r) i) (regions_of (S.pairs i)) [])) (sym F.count))
      where
        inside : (i : ℕ) → in_b i ≡ true → (t : Bool) → map (ren in_r) (cond t (regions_of (L.pairs i)) []) ≡ cond t (regions_of (S.pairs (rank in_b i))) []
        inside i b true = regions_of_in in_r (L.pairs i) ∙ ap regions_of (sym (F.pairs i b))
        inside i b false = refl

    pub is_candidate_in : r < n → is_candidate L (components L) r ≡ is_candidate S (components S) (ren in_r r)
    unfolding is_candidate
    is_candidate_in l = λ t. name_in r r l h h t && leb 1 (many t) && leb (many t) max_interior_edges && closed t && not (anchored t)
      where
        many : length (edges_of L (components L) r) ≡ length (edges_of S (components S) (ren in_r r))
        many = sym (length-map (edges_of L (components L) r) (rank in_b)) ∙ ap length edges_of_in

        closed : all_below L.count (λ i. not (is_edge L (components L) r i) || all (λ p. eqb (component L p.lo) r) (L.pairs i)) ≡ all_below S.count (λ i. not (is_edge S (components S) (ren in_r r) i) || all (λ p. eqb (component S p.lo) (ren in_r r)) (S.pairs i))
        closed =
            all_in F _ _
            (λ i b.
            ap₂ (λ x y. not x || y) (is_edge_in i b)
            (all-ren (ren_p in_r) (PairIn true) (λ p. eqb (component L p.lo) r) (λ p. eqb (component S p.lo) (ren in_r r)) lo_in (pairs-within true i b)
            ∙ ap (all (λ p. eqb (component S p.lo) (ren in_r r))) (sym (F.pairs i b))))
            (λ i b. ap (λ x. not x || all (λ p. eqb (component L p.lo) r) (L.pairs i)) (is_edge-split true r i h b))

        anchored : any L.anchored (component_regions L (components L) r) ≡ any S.anchored (component_regions S (components S) (ren in_r r))
        anchored = any-anchored_in F (component_regions_on true r h) ∙ ap (any S.anchored) component_regions_in
