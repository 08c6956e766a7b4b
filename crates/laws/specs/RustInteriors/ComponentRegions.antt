-- The component named r, of a context: its edges, its regions, and whether an edge leaves it. Both regions of a link are in one component, so that it does not
-- matter which region of a pair is asked. Every region of a component with an edge stands in a pair of an edge, as otherwise the others without it would be
-- closed under links. Assumes what Components assumes, and that labels count from 1.
use Prim.Native.Nat.{ℕ, zero, suc, ◌≤◌, ◌<◌}
use Rattle.std.proofs.Common.{arith, ap, ◌∙◌, true≢false, ltb-true, eqb-true, eq-eqb, leb-true, leb-false}
use Rattle.std.specs.Prelude.{◌≡◌, ◌&&◌, eqb, leb}
use Rattle.std.proofs.Math.Path.{refl, sym, ap₂}
use Rattle.std.proofs.Math.Bool.{Bool, true, false, not, ◌||◌, cond, or_self}
use mathlib.Core.List.{List, [], ◌∷◌}
use Rattle.std.proofs.Math.ListN.{length, get_or-eq_default}
use Rattle.std.proofs.Math.Dec.{ltb}
use Rattle.definitions.specs.Scan.{any, all, member, any_below_lem, all_below, gather, run}
use Rattle.definitions.specs.Grid.{Pair}
use Rattle.definitions.specs.Context.{Context}
use Rattle.definitions.specs.MouthShapes.{regions_of}
use Rattle.definitions.specs.RampInteriors.{is_ordinary, links, components, component_of, is_edge, edges_of, component_regions}
use Rattle.laws.specs.ListLaws.Lists.{All, done, more, all_map, any_false, any-gather, length_run}
use Rattle.laws.specs.OrderLaws.ListOrder.{eqb_sym}
use Rattle.laws.specs.ListLaws.ListsAsSets.{any_or, any-member, member-add_all}
use Rattle.laws.specs.ListLaws.Tests.{both, not_and}
use Rattle.laws.specs.ListLaws.Below.{below_at, below_first, all_below_at}
use Rattle.laws.specs.ListLaws.Members.{all_at, any_found}
use Rattle.laws.specs.RustMouths.Triangles.{any-regions}
use Rattle.laws.specs.RegionLaws.Merging.{Within, merge_all-length}
use Rattle.laws.specs.RegionLaws.Components.{links-all, links_at, component-closed, component_least}
use Rattle.laws.specs.SetLaws.Sets.{Ascending, numbers_below, member-all, any_below, set_below}
use Rattle.laws.specs.RustInteriors.ComponentLiteral.{leaves_component}

-- ---- tests

pub any_swap : {A B : Type 0} (f : A → B → Bool) (l : List A) (m : List B) → any (λ x. any (f x) m) l ≡ any (λ y. any (λ x. f x y) l) m
unfolding any
any_swap f [] m = sym (any_false m)
any_swap f (x ∷ l) m = ap (λ b. any (f x) m || b) (any_swap f l m) ∙ sym (any_or (f x) (λ y. any (λ x. f x y) l) m)

none_below : (n : ℕ) (f g : ℕ → Bool) → ((i : ℕ) → i < n → f i ≡ not (g i)) → any_below_lem n f ≡ not (all_below n g)
unfolding any_below_lem all_below
none_below zero f g h = refl
none_below (suc n) f g h = ap₂ ◌||◌ (none_below n f g (λ i l. h i (omega arith))) (h n (omega arith)) ∙ not_and (all_below n g) (g n)

-- a number that no pair names is neither number of any pair
regions-apart : (x : ℕ) (l : List Pair) → member x (regions_of l) ≡ false → All (λ p. (not (eqb p.lo x) ≡ true) × (not (eqb p.hi x) ≡ true)) l
unfolding member any
regions-apart x [] h = done
regions-apart x (p ∷ l) h = go (eqb x p.lo) refl (eqb x p.hi) refl h (regions-apart x l)
  where
    Apart : List Pair → Type 0
    Apart l = All (λ p. (not (eqb p.lo x) ≡ true) × (not (eqb p.hi x) ≡ true)) l

    go : (a : Bool) → eqb x p.lo ≡ a → (b : Bool) → eqb x p.hi ≡ b → (a || (b || member x (regions_of l))) ≡ false → (member x (regions_of l) ≡ false → Apart l) → Apart (p ∷ l)
    go true e b f n ih = absurd (true≢false n)
    go false e true f n ih = absurd (true≢false n)
    go false e false f n ih = more (ap not (eqb_sym p.lo x ∙ e), ap not (eqb_sym p.hi x ∙ f)) (ih n)

-- ---- the component of r

module _ (C : Context) (r : ℕ) where
  -- x is in the component named r
  abbrev pub inside : ℕ → Bool
  inside x = eqb (component_of C (components C) x) r

  -- every pair of every edge is in it
  abbrev pub all_inside : Bool
  all_inside = all_below C.count (λ i. not (is_edge C (components C) r i) || all (λ p. inside p.lo) (C.pairs i))

module _ (C : Context) (within : (i : ℕ) → All (Within (suc C.regions)) (C.pairs i)) (r : ℕ) where
  -- the two regions of a pair of an ordinary full cut are both inside or both outside
  pair-level : (i : ℕ) → i < C.count → is_ordinary C i ≡ true → All (λ p. inside C r p.lo ≡ inside C r p.hi) (C.pairs i)
  pair-level i h o = all_map (λ p e. ap (λ x. eqb x r) e) (links_at C (component-closed C within) i h o)

  any-level : {l : List Pair} → All (λ p. inside C r p.lo ≡ inside C r p.hi) l → any (λ p. inside C r p.lo || inside C r p.hi) l ≡ any (λ p. inside C r p.lo) l
  unfolding any
  any-level done = refl
  any-level (more {x = p} h a) = ap₂ ◌||◌ (ap (λ b. inside C r p.lo || b) (sym h) ∙ or_self (inside C r p.lo)) (any-level a)

  -- ---- edges

  pub edge_is : (i : ℕ) → i < C.count → (is_ordinary C i && any (λ p. inside C r p.lo || inside C r p.hi) (C.pairs i)) ≡ is_edge C (components C) r i
  unfolding is_edge
  edge_is i h = go (is_ordinary C i) refl
    where
      go : (b : Bool) → is_ordinary C i ≡ b → (b && any (λ p. inside C r p.lo || inside C r p.hi) (C.pairs i)) ≡ (b && any (λ p. inside C r p.lo) (C.pairs i))
      go true e = any-level (pair-level i h e)
      go false e = refl

  -- a set of the ordinary full cuts with a pair that names a region inside is the list of the edges
  pub edges_are : {edges : List ℕ} → Ascending edges → ((i : ℕ) → member i edges ≡ (ltb i C.count && (is_ordinary C i && any (λ p. inside C r p.lo || inside C r p.hi) (C.pairs i)))) → edges ≡ edges_of C (components C) r
  unfolding edges_of numbers_below
  edges_are s h = set_below (is_edge C (components C) r) C.count s (λ i. h i ∙ at i (ltb i C.count) refl)
    where
      at : (i : ℕ) (b : Bool) → ltb i C.count ≡ b → (b && (is_ordinary C i && any (λ p. inside C r p.lo || inside C r p.hi) (C.pairs i))) ≡ (b && is_edge C (components C) r i)
      at i true e = edge_is i (ltb-true i C.count e)
      at i false e = refl

  -- ---- regions

  module _ (regions : List ℕ) (found : (x : ℕ) → member x regions ≡ inside C r x) where
    pair-out : {l : List Pair} → All (λ p. inside C r p.lo ≡ inside C r p.hi) l → any (λ p. any (λ x. not (member x regions)) (p.lo ∷ p.hi ∷ [])) l ≡ not (all (λ p. inside C r p.lo) l)
    unfolding any all
    pair-out done = refl
    pair-out (more {x = p} {l = l} h a) = ap₂ ◌||◌ (λ i. not (found p.lo i) || (not ((found p.hi ∙ sym h) i) || false)) (pair-out a) ∙ go (inside C r p.lo) (all (λ p. inside C r p.lo) l)
      where
        go : (b c : Bool) → (not b || (not b || false) || not c) ≡ not (b && c)
        go true c = refl
        go false c = refl

    pub leaves_is : leaves_component C regions (edges_of C (components C) r) ≡ not (all_inside C r)
    unfolding leaves_component edges_of numbers_below is_edge
    leaves_is = any_below (is_edge C (components C) r) out C.count ∙ none_below C.count (λ i. is_edge C (components C) r i && out i) (λ i. not (is_edge C (components C) r i) || all (λ p. inside C r p.lo) (C.pairs i)) at
      where
        out : ℕ → Bool
        out i = any (λ p. any (λ x. not (member x regions)) (p.lo ∷ p.hi ∷ [])) (C.pairs i)

        at : (i : ℕ) → i < C.count → (is_edge C (components C) r i && out i) ≡ not (not (is_edge C (components C) r i) || all (λ p. inside C r p.lo) (C.pairs i))
        at i h = go (is_ordinary C i) refl (any (λ p. inside C r p.lo) (C.pairs i))
          where
            go : (b : Bool) → is_ordinary C i ≡ b → (c : Bool) → (b && c && out i) ≡ not (not (b && c) || all (λ p. inside C r p.lo) (C.pairs i))
            go true e true = pair-out (pair-level i h e)
            go true e false = refl
            go false e c = refl

  -- x stands in a pair of i
  abbrev pub named : ℕ → ℕ → Bool
  named x i = member x (regions_of (C.pairs i))

  region_scan : (x : ℕ) → member x (component_regions C (components C) r) ≡ any_below_lem C.count (λ i. is_edge C (components C) r i && named x i)
  unfolding component_regions member any
  region_scan x = member-add_all x [] (gather C.count (λ i. cond (is_edge C (components C) r i) (regions_of (C.pairs i)) [])) ∙ any-gather (eqb x) C.count (λ i. cond (is_edge C (components C) r i) (regions_of (C.pairs i)) []) ∙ (λ j. any_below_lem C.count (λ i. at i (is_edge C (components C) r i) j))
    where
      at : (i : ℕ) (b : Bool) → any (eqb x) (cond b (regions_of (C.pairs i)) []) ≡ (b && any (eqb x) (regions_of (C.pairs i)))
      at i true = refl
      at i false = refl

  -- a region of a pair of an edge is inside, if all pairs are
  named-inside : (x : ℕ) → all_inside C r ≡ true → (i : ℕ) → i < C.count → (is_edge C (components C) r i && named x i) ≡ true → inside C r x ≡ true
  unfolding is_edge all
  named-inside x a i h e = member-all (λ y. inside C r y ≡ true) x (regions_of_lem (pair-level i h ordinary) lows) (both (is_edge C (components C) r i) (named x i) e).1
    where
      ordinary : is_ordinary C i ≡ true
      ordinary = (both (is_ordinary C i) (any (λ p. inside C r p.lo) (C.pairs i)) (both (is_edge C (components C) r i) (named x i) e).0).0

      lows : all (λ p. inside C r p.lo) (C.pairs i) ≡ true
      lows = ap (λ b. not b || all (λ p. inside C r p.lo) (C.pairs i)) (sym (both (is_edge C (components C) r i) (named x i) e).0) ∙ all_below_at C.count (λ i. not (is_edge C (components C) r i) || all (λ p. inside C r p.lo) (C.pairs i)) a i h

      regions_of_lem : {l : List Pair} → All (λ p. inside C r p.lo ≡ inside C r p.hi) l → all (λ p. inside C r p.lo) l ≡ true → All (λ y. inside C r y ≡ true) (regions_of l)
      regions_of_lem done k = done
      regions_of_lem (more {x = p} {l = l} q b) k =
          let t = both (inside C r p.lo) (all (λ p. inside C r p.lo) l) k in
          more t.0 (more (sym q ∙ t.0) (regions_of_lem b t.1))

  -- an ordinary full cut with a pair that names a region inside is an edge
  pub named-edge : (x i : ℕ) → i < C.count → is_ordinary C i ≡ true → inside C r x ≡ true → named x i ≡ true → is_edge C (components C) r i ≡ true
  named-edge x i h o k e = sym (edge_is i h) ∙ ap₂ ◌&&◌ o (sym (any-regions (inside C r) (C.pairs i)) ∙ any-member (inside C r) x (regions_of (C.pairs i)) e k)

  pub in_range_lem : (x : ℕ) → 1 ≤ r → inside C r x ≡ true → x ≤ C.regions
  unfolding components
  in_range_lem x h k = go (leb x C.regions) refl
    where
      size : length (components C) ≡ suc C.regions
      size = merge_all-length (run 0 (suc C.regions)) (links C) ∙ length_run 0 (suc C.regions)

      go : (b : Bool) → leb x C.regions ≡ b → x ≤ C.regions
      go true e = leb-true x C.regions e
      go false e = absurd (omega (arith, eqb-true (component_of C (components C) x) r k, get_or-eq_default (components C) 0 {n = x} (omega (arith, size, leb-false x C.regions e))))

  -- a region inside stands in a pair of an edge, if there is an edge
  pub inside-named : (x : ℕ) → 1 ≤ r → any_below_lem C.count (is_edge C (components C) r) ≡ true → inside C r x ≡ true → any_below_lem C.count (λ i. is_edge C (components C) r i && named x i) ≡ true
  unfolding is_edge
  inside-named x h e k = go (any_below_lem C.count (λ i. is_edge C (components C) r i && named x i)) refl
    where
      -- all but x
      P : ℕ → Bool
      P z = not (eqb z x)

      absent : any_below_lem C.count (λ i. is_edge C (components C) r i && named x i) ≡ false → (i : ℕ) → i < C.count → is_ordinary C i ≡ true → named x i ≡ false
      absent n i l o = out (named x i) refl
        where
          out : (b : Bool) → named x i ≡ b → b ≡ false
          out true q = absurd (true≢false (sym (below_at C.count (λ i. is_edge C (components C) r i && named x i) i l (ap₂ ◌&&◌ (named-edge x i l o k q) q)) ∙ n))
          out false q = refl

      go : (b : Bool) → any_below_lem C.count (λ i. is_edge C (components C) r i && named x i) ≡ b → b ≡ true
      go true q = refl
      go false q =
          let f = below_first (is_edge C (components C) r) C.count e in
          let t = both (is_ordinary C f.place) (any (λ p. inside C r p.lo) (C.pairs f.place)) f.found in
          let p = any_found (λ p. inside C r p.lo) (C.pairs f.place) t.1 in
          sym (ap not (eq-eqb x x refl))
          ∙ component_least C within P (links-all C (λ i l o. all_map (λ p u. u.0 ∙ sym u.1) (regions-apart x (C.pairs i) (absent q i l o)))) p.0.lo x (omega (arith, (all_at (within f.place) p.1).lo)) (in_range_lem x h k)
          (eqb-true _ r k ∙ sym (eqb-true _ r p.2)) (all_at (regions-apart x (C.pairs f.place) (absent q f.place f.below t.0)) p.1).0

  -- the regions of the definitions are those inside
  pub region_members : 1 ≤ r → any_below_lem C.count (is_edge C (components C) r) ≡ true → all_inside C r ≡ true → (x : ℕ) → member x (component_regions C (components C) r) ≡ inside C r x
  region_members h e a x = region_scan x ∙ go (any_below_lem C.count (λ i. is_edge C (components C) r i && named x i)) refl (inside C r x) refl
    where
      go : (b : Bool) → any_below_lem C.count (λ i. is_edge C (components C) r i && named x i) ≡ b → (c : Bool) → inside C r x ≡ c → b ≡ c
      go true q c k =
          let f = below_first (λ i. is_edge C (components C) r i && named x i) C.count q in
          sym (named-inside x a f.place f.below f.found) ∙ k
      go false q true k = sym q ∙ inside-named x h e k
      go false q false k = refl
