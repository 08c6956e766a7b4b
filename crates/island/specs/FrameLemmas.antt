-- What all passes ask of a context, of a large one inside and of the small one: incidents, full cuts and full pairs, widths, and scans over the boundaries.
-- A lemma `x_in` says that the large context's answer inside is the small one's, at the new numbers. Assumes a frame.
use Rattle.std.specs.Prelude.{ℕ, ◌≡◌, refl, Bool, false, not, ◌&&◌, List, [], ◌∷◌, map, option_map, Option}
use Rattle.std.proofs.Common.{sym, ◌∙◌}
use Rattle.std.proofs.Math.Path.{ap}
use Rattle.std.proofs.Math.Bool.{true}
use Rattle.std.proofs.Math.Dec.{eqb, ltb}
use Rattle.std.specs.Float.Ieee.{binary64, of_bits}
use Rattle.definitions.specs.Scan.{any, any_below_lem, all_below, count_below, collect, to_list, only_if}
use Rattle.definitions.specs.Grid.{Pair, contains}
use Rattle.definitions.specs.Context.{Context, only_pair, holds, full_cut, full_pair, is_incident, incident_count, no_ramp, width}
use Rattle.laws.specs.ListLaws.Lists.{All, done, more, any-ren}
use Rattle.laws.specs.OrderLaws.Ranks.{rank, any-rank, all-rank, count-rank, collect-map, collect-all}
use Rattle.laws.specs.ListLaws.Options.{OnO, absent, present, on_only, on_list}
use Rattle.island.specs.Frame.{Frame, ren, ren_p, PairOn}
use Rattle.island.specs.RegionLists.{On, any-contains_in, any-contains-split}

only_pair-map : (e : Pair → Pair) (c : Bool) (l : List Pair) → only_pair c (map e l) ≡ option_map e (only_pair c l)
only_pair-map e true [] = refl
only_pair-map e true (p ∷ []) = refl
only_pair-map e true (p ∷ q ∷ l) = refl
only_pair-map e false l = refl

only_pair_on : {P : Pair → Type 0} (c : Bool) {l : List Pair} → All P l → OnO P (only_pair c l)
only_pair_on true done = absent
only_pair_on true (more k done) = present k
only_pair_on true (more k (more m a)) = absent
only_pair_on false a = absent

module _ {L S : Context} {in_b in_r : ℕ → Bool} (F : Frame L S in_b in_r) where
  -- ---- incidents

  pub is_incident_in : (i r : ℕ) → in_b i ≡ true → in_r r ≡ true → is_incident L i r ≡ is_incident S (rank in_b i) (ren in_r r)
  unfolding is_incident
  is_incident_in i r b h = any-contains_in in_r r h (F.pairs_on true i b) ∙ ap (any (contains (ren in_r r))) (sym (F.pairs i b))

  pub is_incident-split : (b : Bool) (i r : ℕ) → in_r r ≡ b → in_b i ≡ not b → is_incident L i r ≡ false
  unfolding is_incident
  is_incident-split b i r h k = any-contains-split in_r b r h (F.pairs_on (not b) i k)

  -- ---- full pairs

  pub full_cut_in : (i : ℕ) → in_b i ≡ true → full_cut L i ≡ full_cut S (rank in_b i)
  unfolding full_cut
  full_cut_in i b = λ t. ltb 0 (F.removed_edges i b t) && eqb (F.removed_edges i b t) (F.separated_edges i b t)

  pub full_pair_in : (i : ℕ) → in_b i ≡ true → full_pair S (rank in_b i) ≡ option_map (ren_p in_r) (full_pair L i)
  unfolding full_pair
  full_pair_in i b = (λ t. only_pair (sym (full_cut_in i b) t) (F.pairs i b t)) ∙ only_pair-map (ren_p in_r) (full_cut L i) (L.pairs i)

  pub full_pair_on : (b : Bool) (i : ℕ) → in_b i ≡ b → OnO (PairOn in_r b) (full_pair L i)
  unfolding full_pair
  full_pair_on b i h = only_pair_on (full_cut L i) (F.pairs_on b i h)

  pub holds_in : (j : ℕ) (f g : Pair → Bool) → in_b j ≡ true → ((q : Pair) → PairOn in_r true q → f q ≡ g (ren_p in_r q)) → holds (full_pair L j) f ≡ holds (full_pair S (rank in_b j)) g
  holds_in j f g b s = go (full_pair_on true j b) ∙ ap (λ o. holds o g) (sym (full_pair_in j b))
    where
      go : {o : Option Pair} → OnO (PairOn in_r true) o → holds o f ≡ holds (option_map (ren_p in_r) o) g
      go absent = refl
      go (present {x = q} k) = s q k

  -- ---- ramps, widths and anchors

  pub no_ramp_in : (i : ℕ) → in_b i ≡ true → no_ramp L i ≡ no_ramp S (rank in_b i)
  no_ramp_in i b = λ t. eqb (F.boundary i b t).kind 0

  pub width_in : (i : ℕ) → in_b i ≡ true → width L i ≡ width S (rank in_b i)
  unfolding width
  width_in i b = λ t. of_bits binary64 (F.boundary i b t).width_bits

  pub any-anchored_in : {l : List ℕ} → All (On in_r true) l → any L.anchored l ≡ any S.anchored (map (ren in_r) l)
  any-anchored_in x = any-ren (ren in_r) (On in_r true) L.anchored S.anchored F.anchored x

  -- ---- scans that find nothing outside

  module _ (f g : ℕ → Bool) (same : (j : ℕ) → in_b j ≡ true → f j ≡ g (rank in_b j)) where
    pub any_in : ((j : ℕ) → in_b j ≡ false → f j ≡ false) → any_below_lem L.count f ≡ any_below_lem S.count g
    any_in o = any-rank in_b f g L.count (λ j l. same j) (λ j l. o j) ∙ ap (λ n. any_below_lem n g) (sym F.count)

    pub all_in : ((j : ℕ) → in_b j ≡ false → f j ≡ true) → all_below L.count f ≡ all_below S.count g
    all_in o = all-rank in_b f g L.count (λ j l. same j) (λ j l. o j) ∙ ap (λ n. all_below n g) (sym F.count)

    pub count_in : ((j : ℕ) → in_b j ≡ false → f j ≡ false) → count_below L.count f ≡ count_below S.count g
    count_in o = count-rank in_b f g L.count (λ j l. same j) (λ j l. o j) ∙ ap (λ n. count_below n g) (sym F.count)

    -- the list of what passes
    pub chosen_in : ((j : ℕ) → in_b j ≡ false → f j ≡ false) → map (rank in_b) (collect L.count (λ j. only_if (f j) j)) ≡ collect S.count (λ j. only_if (g j) j)
    chosen_in o =
        collect-map in_b (rank in_b) (λ j. only_if (f j) j) (λ j. only_if (g j) j) L.count
        (λ j l b. go j (f j) ∙ ap (λ t. to_list (only_if t (rank in_b j))) (same j b))
        (λ j l b. ap (λ t. to_list (only_if t j)) (o j b))
        ∙ ap (λ n. collect n (λ j. only_if (g j) j)) (sym F.count)
      where
        go : (j : ℕ) (t : Bool) → map (rank in_b) (to_list (only_if t j)) ≡ to_list (only_if t (rank in_b j))
        go j true = refl
        go j false = refl

  pub incident_count_in : (r : ℕ) → in_r r ≡ true → incident_count L r ≡ incident_count S (ren in_r r)
  unfolding incident_count
  incident_count_in r h =
      count_in (λ j. is_incident L j r) (λ j. is_incident S j (ren in_r r)) (λ j b. is_incident_in j r b h) (λ j b. is_incident-split true j r h b)

-- what passes a test that nothing on the other side passes lies on this side
pub chosen_on : (in_b : ℕ → Bool) (b : Bool) (f : ℕ → Bool) (n : ℕ) → ((j : ℕ) → in_b j ≡ not b → f j ≡ false) → All (λ j. in_b j ≡ b) (collect n (λ j. only_if (f j) j))
chosen_on in_b b f n o = collect-all (λ j. in_b j ≡ b) (λ j. only_if (f j) j) n (λ j. go j (in_b j) refl b o)
  where
    here : (j : ℕ) (b : Bool) → in_b j ≡ b → (t : Bool) → All (λ j. in_b j ≡ b) (to_list (only_if t j))
    here j b e t = on_list (on_only t j e)

    none_of : (j : ℕ) (b : Bool) → f j ≡ false → All (λ j. in_b j ≡ b) (to_list (only_if (f j) j))
    none_of j b e = rw e done

    go : (j : ℕ) (c : Bool) → in_b j ≡ c → (b : Bool) → ((j : ℕ) → in_b j ≡ not b → f j ≡ false) → All (λ j. in_b j ≡ b) (to_list (only_if (f j) j))
    go j true e true o = here j true e (f j)
    go j true e false o = none_of j false (o j e)
    go j false e true o = none_of j true (o j e)
    go j false e false o = here j false e (f j)
