-- Pass 2, a port and the leaves beyond it: inside, the expansion of a list of regions by a port is the small context's, renamed; and on either side it adds
-- regions of that side only. One lemma for each definition, in their order. Assumes a frame.
use Rattle.std.specs.Prelude.{ℕ, ◌+◌, ◌≡◌, ◌&&◌, ◌||◌, ltb}
use Rattle.std.proofs.Math.Path.{refl, ap, ap₂}
use Rattle.std.proofs.Common.{sym, ◌∙◌}
use Rattle.std.proofs.Math.Bool.{Bool, true, false, not, cond}
use mathlib.Core.List.{List, [], ◌∷◌, ◌++◌, map}
use Rattle.std.proofs.Math.Dec.{eqb, leb}
use Rattle.definitions.specs.Scan.{all, member, bit}
use Rattle.definitions.specs.Grid.{Pair}
use Rattle.definitions.specs.Context.{Context, is_incident, incident_count}
use Rattle.definitions.specs.RampInteriors.{Expansion, inside_count, pair_exterior, exteriors, invalid, add_leaf, expand_pair, expand_pairs, expand_port}
use Rattle.laws.specs.ListLaws.Lists.{All, done, more, all_append, map-append, all-ren}
use Rattle.laws.specs.OrderLaws.Ranks.{rank}
use Rattle.island.specs.Frame.{Frame, ren, ren_p, PairOn}
use Rattle.island.specs.RegionLists.{On, member_in}
use Rattle.island.specs.FrameLemmas.{is_incident_in, incident_count_in}

-- ---- with no context

module _ (in_r : ℕ → Bool) where
  abbrev pub ren_expansion : Expansion → Expansion
  ren_expansion s = record { regions = map (ren in_r) s.regions; valid = s.valid }

  inside_count_in : {rs : List ℕ} (p : Pair) → All (On in_r true) rs → PairOn in_r true p → inside_count rs p ≡ inside_count (map (ren in_r) rs) (ren_p in_r p)
  unfolding inside_count
  inside_count_in p a h = λ t. bit (member_in in_r p.lo h.lo a t) + bit (member_in in_r p.hi h.hi a t)

  pair_exterior_in : {rs : List ℕ} (p : Pair) → All (On in_r true) rs → PairOn in_r true p → map (ren in_r) (pair_exterior rs p) ≡ pair_exterior (map (ren in_r) rs) (ren_p in_r p)
  unfolding pair_exterior
  pair_exterior_in {rs} p a h =
      go (member p.lo rs) (member p.hi rs)
      ∙ (λ t.
      cond (member_in in_r p.lo h.lo a t) (cond (member_in in_r p.hi h.hi a t) [] (ren in_r p.hi ∷ []))
      (cond (member_in in_r p.hi h.hi a t) (ren in_r p.lo ∷ []) []))
    where
      go : (x y : Bool) → map (ren in_r) (cond x (cond y [] (p.hi ∷ [])) (cond y (p.lo ∷ []) [])) ≡ cond x (cond y [] (ren in_r p.hi ∷ [])) (cond y (ren in_r p.lo ∷ []) [])
      go true true = refl
      go true false = refl
      go false true = refl
      go false false = refl

  pair_exterior_on : (b : Bool) (rs : List ℕ) (p : Pair) → PairOn in_r b p → All (On in_r b) (pair_exterior rs p)
  unfolding pair_exterior
  pair_exterior_on b rs p h = go (member p.lo rs) (member p.hi rs)
    where
      go : (x y : Bool) → All (On in_r b) (cond x (cond y [] (p.hi ∷ [])) (cond y (p.lo ∷ []) []))
      go true true = done
      go true false = more h.hi done
      go false true = more h.lo done
      go false false = done

  exteriors_in : {rs : List ℕ} {l : List Pair} → All (On in_r true) rs → All (PairOn in_r true) l → map (ren in_r) (exteriors rs l) ≡ exteriors (map (ren in_r) rs) (map (ren_p in_r) l)
  unfolding exteriors
  exteriors_in a done = refl
  exteriors_in {rs} a (more {x = p} {l = l} h b) =
      map-append (ren in_r) (pair_exterior rs p) (exteriors rs l) ∙ ap₂ ◌++◌ (pair_exterior_in p a h) (exteriors_in a b)

  exteriors_on : (b : Bool) (rs : List ℕ) {l : List Pair} → All (PairOn in_r b) l → All (On in_r b) (exteriors rs l)
  unfolding exteriors
  exteriors_on b rs done = done
  exteriors_on b rs (more {x = p} h a) = all_append (pair_exterior_on b rs p h) (exteriors_on b rs a)

module _ {L S : Context} {in_b in_r : ℕ → Bool} (F : Frame L S in_b in_r) where
  -- ---- on either side

  module _ (b : Bool) where
    add_leaf_on : (i : ℕ) (s : Expansion) (x : ℕ) → All (On in_r b) s.regions → in_r x ≡ b → All (On in_r b) (add_leaf L i s x).regions
    unfolding add_leaf
    add_leaf_on i s x a h = go (L.anchored x || not (eqb (incident_count L x) 1 && is_incident L i x))
      where
        go : (c : Bool) → All (On in_r b) (cond c s.regions (s.regions ++ (x ∷ [])))
        go true = a
        go false = all_append a (more h done)

    expand_pair_on : (i : ℕ) (es : List ℕ) (s : Expansion) (p : Pair) → All (On in_r b) s.regions → PairOn in_r b p → All (On in_r b) (expand_pair L i es s p).regions
    unfolding expand_pair
    expand_pair_on i es s p a h = go (ltb 0 (inside_count s.regions p)) (eqb (inside_count es p) 1) (member p.lo es)
      where
        go : (x y z : Bool) → All (On in_r b) (cond x s (cond y (add_leaf L i s (cond z p.hi p.lo)) (invalid s))).regions
        go true y z = a
        go false true true = add_leaf_on i s p.hi a h.hi
        go false true false = add_leaf_on i s p.lo a h.lo
        go false false z = a

    expand_pairs_on : (i : ℕ) (es : List ℕ) (s : Expansion) {l : List Pair} → All (On in_r b) s.regions → All (PairOn in_r b) l → All (On in_r b) (expand_pairs L i es s l).regions
    unfolding expand_pairs
    expand_pairs_on i es s a done = a
    expand_pairs_on i es s a (more {x = p} h r) = expand_pairs_on i es (expand_pair L i es s p) (expand_pair_on i es s p a h) r

    pub expand_port_on : (s : Expansion) (i : ℕ) → in_b i ≡ b → All (On in_r b) s.regions → All (On in_r b) (expand_port L s i).regions
    unfolding expand_port
    expand_port_on s i h a = expand_pairs_on i (exteriors s.regions (L.pairs i)) s a (F.pairs_on b i h)

  -- ---- inside

  add_leaf_in : (i : ℕ) (s : Expansion) (x : ℕ) → in_b i ≡ true → in_r x ≡ true → ren_expansion in_r (add_leaf L i s x) ≡ add_leaf S (rank in_b i) (ren_expansion in_r s) (ren in_r x)
  unfolding add_leaf
  add_leaf_in i s x b h =
      (λ t. record { regions = go bad t; valid = s.valid && not bad })
      ∙ (λ t. record { regions = cond (same t) (map (ren in_r) s.regions) (map (ren in_r) s.regions ++ (ren in_r x ∷ [])); valid = s.valid && not (same t) })
    where
      bad : Bool
      bad = L.anchored x || not (eqb (incident_count L x) 1 && is_incident L i x)

      same : bad ≡ (S.anchored (ren in_r x) || not (eqb (incident_count S (ren in_r x)) 1 && is_incident S (rank in_b i) (ren in_r x)))
      same = λ t. F.anchored x h t || not (eqb (incident_count_in F x h t) 1 && is_incident_in F i x b h t)

      go : (c : Bool) → map (ren in_r) (cond c s.regions (s.regions ++ (x ∷ []))) ≡ cond c (map (ren in_r) s.regions) (map (ren in_r) s.regions ++ (ren in_r x ∷ []))
      go true = refl
      go false = map-append (ren in_r) s.regions (x ∷ [])

  module _ (i : ℕ) (b : in_b i ≡ true) where
    expand_pair_in : (es : List ℕ) (s : Expansion) (p : Pair) → All (On in_r true) es → All (On in_r true) s.regions → PairOn in_r true p → ren_expansion in_r (expand_pair L i es s p) ≡ expand_pair S (rank in_b i) (map (ren in_r) es) (ren_expansion in_r s) (ren_p in_r p)
    unfolding expand_pair
    expand_pair_in es s p e a h =
        go (ltb 0 (inside_count s.regions p)) (eqb (inside_count es p) 1) (member p.lo es)
        ∙ (λ t.
        cond (ltb 0 (inside_count_in in_r p a h t)) (ren_expansion in_r s)
        (cond (eqb (inside_count_in in_r p e h t) 1)
        (add_leaf S (rank in_b i) (ren_expansion in_r s) (cond (member_in in_r p.lo h.lo e t) (ren in_r p.hi) (ren in_r p.lo)))
        (invalid (ren_expansion in_r s))))
      where
        go : (x y z : Bool) → ren_expansion in_r (cond x s (cond y (add_leaf L i s (cond z p.hi p.lo)) (invalid s))) ≡ cond x (ren_expansion in_r s) (cond y (add_leaf S (rank in_b i) (ren_expansion in_r s) (cond z (ren in_r p.hi) (ren in_r p.lo))) (invalid (ren_expansion in_r s)))
        go true y z = refl
        go false true true = add_leaf_in i s p.hi b h.hi
        go false true false = add_leaf_in i s p.lo b h.lo
        go false false z = refl

    expand_pairs_in : (es : List ℕ) (s : Expansion) {l : List Pair} → All (On in_r true) es → All (On in_r true) s.regions → All (PairOn in_r true) l → ren_expansion in_r (expand_pairs L i es s l) ≡ expand_pairs S (rank in_b i) (map (ren in_r) es) (ren_expansion in_r s) (map (ren_p in_r) l)
    unfolding expand_pairs
    expand_pairs_in es s e a done = refl
    expand_pairs_in es s e a (more {x = p} {l = l} h r) =
        expand_pairs_in es (expand_pair L i es s p) e (expand_pair_on true i es s p a h) r
        ∙ ap (λ u. expand_pairs S (rank in_b i) (map (ren in_r) es) u (map (ren_p in_r) l)) (expand_pair_in es s p e a h)

    -- a test of how many regions of each pair stand in a list
    pairs_in : (f : ℕ → Bool) {rs : List ℕ} → All (On in_r true) rs → all (λ p. f (inside_count rs p)) (L.pairs i) ≡ all (λ p. f (inside_count (map (ren in_r) rs) p)) (S.pairs (rank in_b i))
    pairs_in f {rs} a =
        all-ren (ren_p in_r) (PairOn in_r true) (λ p. f (inside_count rs p)) (λ p. f (inside_count (map (ren in_r) rs) p)) (λ p h. ap f (inside_count_in in_r p a h)) (F.pairs_on true i b)
        ∙ ap (all (λ p. f (inside_count (map (ren in_r) rs) p))) (sym (F.pairs i b))

    pub expand_port_in : (s : Expansion) → All (On in_r true) s.regions → ren_expansion in_r (expand_port L s i) ≡ expand_port S (ren_expansion in_r s) (rank in_b i)
    unfolding expand_port
    expand_port_in s a =
        λ t.
        record {
          regions = (after t).regions;
          valid =
              (after t).valid && pairs_in (λ m. leb m 1) a t
              && (pairs_in (λ m. eqb m 1) (expand_pairs_on true i (exteriors s.regions (L.pairs i)) s a (F.pairs_on true i b))
              ∙ ap (λ u. all (λ p. eqb (inside_count u.regions p) 1) (S.pairs (rank in_b i))) after)
              t;
        }
      where
        after : ren_expansion in_r (expand_pairs L i (exteriors s.regions (L.pairs i)) s (L.pairs i)) ≡ expand_pairs S (rank in_b i) (exteriors (map (ren in_r) s.regions) (S.pairs (rank in_b i))) (ren_expansion in_r s) (S.pairs (rank in_b i))
        after =
            expand_pairs_in (exteriors s.regions (L.pairs i)) s (exteriors_on in_r true s.regions (F.pairs_on true i b)) a (F.pairs_on true i b)
            ∙ ap (λ es. expand_pairs S (rank in_b i) es (ren_expansion in_r s) (map (ren_p in_r) (L.pairs i))) (exteriors_in in_r a (F.pairs_on true i b))
            ∙ ap (λ l. expand_pairs S (rank in_b i) (exteriors (map (ren in_r) s.regions) l) (ren_expansion in_r s) l) (sym (F.pairs i b))
