-- The starts of the searches of pass 2 (InteriorLoop): the keys of the graph are the labels that an ordinary full cut names, and after the keys below n the Rust has
-- visited those whose component's least label is below n. So a search starts from a key exactly where it is the least label of its component. Assumes a
-- sound context.
use Prim.Native.Nat.{ℕ, suc, ◌<◌, ◌≤◌}
use Rattle.std.proofs.Common.{arith, sym, ap₂, ◌∙◌, ltb-true, ltb-false, lt-ltb, le-ltb, eqb-true, eq-eqb, ne_eqb}
use Rattle.std.specs.Prelude.{◌≡◌, Bool, not, ◌||◌, eqb, ltb}
use Rattle.std.proofs.Math.Path.{refl, ap}
use Rattle.std.proofs.Math.Bool.{true, false, ◌&&◌, cond, or-false, or-true, and-false, true≢false}
use mathlib.Core.List.{List, [], ◌∷◌, ◌++◌, append_assoc}
use Rattle.std.proofs.Math.Arith.{lt_of_le-ne}
use Rattle.std.proofs.lemmas.Bool.{eqb-false}
use Rattle.definitions.specs.Scan.{any, member, any_below_lem, gather, to_list, only_if}
use Rattle.definitions.specs.Grid.{Pair}
use Rattle.definitions.specs.Context.{Context}
use Rattle.definitions.specs.MouthShapes.{regions_of}
use Rattle.definitions.specs.RampInteriors.{is_ordinary, links, components, is_edge}
use Rattle.laws.specs.ListLaws.Lists.{All, done, more, all_map, all_both, any-gather}
use Rattle.laws.specs.OrderLaws.ListOrder.{Three, less, same, over, three}
use Rattle.laws.specs.ListLaws.Tests.{both}
use Rattle.laws.specs.ListLaws.Below.{below_at, below_first}
use Rattle.laws.specs.RegionLaws.Merging.{Within}
use Rattle.laws.specs.RegionLaws.Components.{component, links-all, links_at, component-closed, component_least, component-low, component-own}
use Rattle.laws.specs.RustContext.SoundContext.{Sound}
use Rattle.laws.specs.SetLaws.Sets.{Ascending, none, numbers_below, member-all, member_extend, extend_ascending, set_below}
use Rattle.laws.specs.RustInteriors.ComponentRegions.{inside, named, named-edge, inside-named}
use Rattle.laws.specs.RustInteriors.SearchGraph.{joining_is}
use Rattle.laws.specs.RustInteriors.DepthFirst.{search_visited, search_ordered}
use Rattle.laws.specs.RustInteriors.DepthFirstLiteral.{is_joining, graph_keys, search_from}
use Rattle.laws.specs.RustInteriors.Selection2.{InteriorRust}
use Rattle.laws.specs.RustInteriors.InteriorLoop.{from_search, over_starts}

-- ---- the loop over two lists of starts

module _ (C : Context) where
  unfoldable pub visited_after : List ℕ → List ℕ → List ℕ
  visited_after visited [] = visited
  visited_after visited (start ∷ starts) = cond (member start visited) (visited_after visited starts) (visited_after (search_from C visited start).visited starts)

  pub visited-append : (visited l m : List ℕ) → visited_after visited (l ++ m) ≡ visited_after (visited_after visited l) m
  unfolding visited_after
  visited-append visited [] m = refl
  visited-append visited (x ∷ l) m = go (member x visited) (visited-append visited l m) (visited-append (search_from C visited x).visited l m)
    where
      go : (b : Bool) → visited_after visited (l ++ m) ≡ visited_after (visited_after visited l) m → visited_after (search_from C visited x).visited (l ++ m) ≡ visited_after (visited_after (search_from C visited x).visited l) m
          → cond b (visited_after visited (l ++ m)) (visited_after (search_from C visited x).visited (l ++ m)) ≡ visited_after (cond b (visited_after visited l) (visited_after (search_from C visited x).visited l)) m
      go true h k = h
      go false h k = k

  pub starts-append : (visited l m : List ℕ) → over_starts C visited (l ++ m) ≡ over_starts C visited l ++ over_starts C (visited_after visited l) m
  unfolding over_starts visited_after
  starts-append visited [] m = refl
  starts-append visited (x ∷ l) m = go (member x visited) (starts-append visited l m) (starts-append (search_from C visited x).visited l m)
    where
      f : List InteriorRust
      f = to_list (from_search C (search_from C visited x))

      v : List ℕ
      v = (search_from C visited x).visited

      go : (b : Bool) → over_starts C visited (l ++ m) ≡ over_starts C visited l ++ over_starts C (visited_after visited l) m → over_starts C v (l ++ m) ≡ over_starts C v l ++ over_starts C (visited_after v l) m
          → cond b (over_starts C visited (l ++ m)) (f ++ over_starts C v (l ++ m)) ≡ cond b (over_starts C visited l) (f ++ over_starts C v l) ++ over_starts C (cond b (visited_after visited l) (visited_after v l)) m
      go true h k = h
      go false h k = ap (λ r. f ++ r) k ∙ sym (append_assoc f (over_starts C v l) (over_starts C (visited_after v l) m))

-- ---- the keys

-- both regions of each pair stand in the list of the regions
pair-regions : (l : List Pair) → All (λ p. (member p.lo (regions_of l) ≡ true) × (member p.hi (regions_of l) ≡ true)) l
unfolding member any
pair-regions [] = done
pair-regions (p ∷ l) =
    more (ap (λ b. b || (eqb p.lo p.hi || member p.lo (regions_of l))) (eq-eqb p.lo p.lo refl), ap (λ b. eqb p.hi p.lo || (b || member p.hi (regions_of l))) (eq-eqb p.hi p.hi refl) ∙ or-true (eqb p.hi p.lo))
    (all_map (λ q h. (later q.lo h.0, later q.hi h.1)) (pair-regions l))
  where
    later : (x : ℕ) → member x (regions_of l) ≡ true → (eqb x p.lo || (eqb x p.hi || member x (regions_of l))) ≡ true
    later x h = ap (λ b. eqb x p.lo || (eqb x p.hi || b)) h ∙ ap (λ b. eqb x p.lo || b) (or-true (eqb x p.hi)) ∙ or-true (eqb x p.lo)

module _ (C : Context) where
  -- an ordinary full cut names x
  abbrev pub is_key : ℕ → Bool
  is_key x = any_below_lem C.count (λ i. is_ordinary C i && member x (regions_of (C.pairs i)))

module _ (C : Context) (sound : Sound C) (within : (i : ℕ) → All (Within (suc C.regions)) (C.pairs i)) where
  region-low : (i x : ℕ) → member x (regions_of (C.pairs i)) ≡ true → (1 ≤ x) × (x ≤ C.regions)
  region-low i x h = member-all (λ y. (1 ≤ y) × (y ≤ C.regions)) x (go (all_both (sound.ordered i) (sound.labelled i))) h
    where
      go : {l : List Pair} → All (λ p. (p.lo < p.hi) × ((1 ≤ p.lo) × (p.hi ≤ C.regions))) l → All (λ y. (1 ≤ y) × (y ≤ C.regions)) (regions_of l)
      go done = done
      go (more {x = p} k a) = more {x = p.lo} (k.1.0, omega (arith, k.0, k.1.1)) (more {x = p.hi} (omega (arith, k.0, k.1.0), k.1.1) (go a))

  pub key-range : (x : ℕ) → is_key C x ≡ true → (1 ≤ x) × (x ≤ C.regions)
  key-range x h =
      let f = below_first (λ i. is_ordinary C i && member x (regions_of (C.pairs i))) C.count h in
      region-low f.place x (both (is_ordinary C f.place) (member x (regions_of (C.pairs f.place))) f.found).1

  pub keys-are : graph_keys C ≡ numbers_below (suc C.regions) (is_key C)
  unfolding graph_keys member any
  keys-are = set_below (is_key C) (suc C.regions) (extend_ascending keys none) (λ x. member_extend x [] keys ∙ any-gather (eqb x) C.count (λ i. cond (is_joining C i) (regions_of (C.pairs i)) []) ∙ (λ j. any_below_lem C.count (λ i. at x i j)) ∙ bound x (is_key C x) refl)
    where
      keys : List ℕ
      keys = gather C.count (λ i. cond (is_joining C i) (regions_of (C.pairs i)) [])

      at : (x i : ℕ) → any (eqb x) (cond (is_joining C i) (regions_of (C.pairs i)) []) ≡ (is_ordinary C i && member x (regions_of (C.pairs i)))
      at x i = ap (λ b. any (eqb x) (cond b (regions_of (C.pairs i)) [])) (joining_is C sound i) ∙ go (is_ordinary C i)
        where
          go : (b : Bool) → any (eqb x) (cond b (regions_of (C.pairs i)) []) ≡ (b && member x (regions_of (C.pairs i)))
          go true = refl
          go false = refl

      bound : (x : ℕ) (b : Bool) → is_key C x ≡ b → b ≡ (ltb x (suc C.regions) && b)
      bound x true e = sym (ap (λ c. c && true) (lt-ltb x (suc C.regions) (omega (arith, (key-range x e).1))))
      bound x false e = sym (and-false (ltb x (suc C.regions)))

  -- ---- a component of keys

  -- the component of a key has an edge
  key-edge : (x : ℕ) → is_key C x ≡ true → any_below_lem C.count (is_edge C (components C) (component C x)) ≡ true
  key-edge x h =
      let f = below_first (λ i. is_ordinary C i && member x (regions_of (C.pairs i))) C.count h in
      let t = both (is_ordinary C f.place) (member x (regions_of (C.pairs f.place))) f.found in
      below_at C.count (is_edge C (components C) (component C x)) f.place f.below (named-edge C within (component C x) x f.place f.below t.0 (eq-eqb (component C x) (component C x) refl) t.1)

  -- a label in a component with an edge is a key
  pub inside-key : (r x : ℕ) → 1 ≤ r → any_below_lem C.count (is_edge C (components C) r) ≡ true → inside C r x ≡ true → is_key C x ≡ true
  unfolding is_edge
  inside-key r x named e h =
      let f = below_first (λ i. is_edge C (components C) r i && member x (regions_of (C.pairs i))) C.count (inside-named C within r x named e h) in
      let t = both (is_edge C (components C) r f.place) (member x (regions_of (C.pairs f.place))) f.found in
      below_at C.count (λ i. is_ordinary C i && member x (regions_of (C.pairs i))) f.place f.below (ap₂ ◌&&◌ (both (is_ordinary C f.place) (any (λ p. inside C r p.lo) (C.pairs f.place)) t.0).0 t.1)

  -- labels count from 1, and so do the names of their components
  pub component-named : (x : ℕ) → 1 ≤ x → x ≤ C.regions → 1 ≤ component C x
  component-named x h l = go (eqb (component C x) 0) refl
    where
      P : ℕ → Bool
      P z = not (eqb z 0)

      above : (y : ℕ) → 1 ≤ y → P y ≡ true
      above y k = ap not (ne_eqb y 0 (λ e. omega arith))

      kept : All (λ p. P p.lo ≡ P p.hi) (links C)
      kept = links-all C (λ i k o. all_map (λ p t. above p.lo t.1.0 ∙ sym (above p.hi (omega (arith, t.0, t.1.0)))) (all_both (sound.ordered i) (sound.labelled i)))

      go : (b : Bool) → eqb (component C x) 0 ≡ b → 1 ≤ component C x
      go true e = absurd (true≢false (sym (component_least C within P kept x 0 l (omega arith) (ap (component C) (sym (eqb-true (component C x) 0 e)) ∙ component-own C within x l) (above x h))))
      go false e = lt_of_le-ne (omega arith) (λ q. eqb-false (component C x) 0 e (sym q))

  -- the name of a key's component is a key
  name-key : (x : ℕ) → is_key C x ≡ true → is_key C (component C x) ≡ true
  name-key x h =
      let t = key-range x h in
      inside-key (component C x) (component C x) (component-named x t.0 t.1) (key-edge x h) (eq-eqb (component C (component C x)) (component C x) (component-own C within x t.1))

  -- ---- what has been visited after the keys below n

  pub record Visited (n : ℕ) (visited : List ℕ) : Type 0 where
    pub has : (x : ℕ) → member x visited ≡ (is_key C x && ltb (component C x) n)
    pub sorted : Ascending visited

  -- both regions of a pair of an ordinary full cut are keys, of one component
  pub visited-closed : (n : ℕ) (visited : List ℕ) → Visited n visited → (i : ℕ) → i < C.count → is_ordinary C i ≡ true → All (λ p. member p.lo visited ≡ member p.hi visited) (C.pairs i)
  visited-closed n visited w i l o =
      all_map
      (λ p t.
      w.has p.lo ∙ (λ j. key p.lo t.0.0 j && ltb (t.1 j) n) ∙ sym (w.has p.hi ∙ ap (λ b. b && ltb (component C p.hi) n) (key p.hi t.0.1)))
      (all_both (pair-regions (C.pairs i)) (links_at C (component-closed C within) i l o))
    where
      key : (x : ℕ) → member x (regions_of (C.pairs i)) ≡ true → is_key C x ≡ true
      key x h = below_at C.count (λ i. is_ordinary C i && member x (regions_of (C.pairs i))) i l (ap₂ ◌&&◌ o h)

  -- where no component has its name at n, nothing is added
  unchanged : (n : ℕ) (visited : List ℕ) → ((x : ℕ) → is_key C x ≡ true → component C x ≡ n → ⊥) → Visited n visited → Visited (suc n) visited
  unchanged n visited f w = record { has = λ x. w.has x ∙ at x (is_key C x) refl; sorted = w.sorted }
    where
      at : (x : ℕ) (b : Bool) → is_key C x ≡ b → (b && ltb (component C x) n) ≡ (b && ltb (component C x) (suc n))
      at x false k = refl
      at x true k = go (three (component C x) n)
        where
          go : Three (component C x) n → ltb (component C x) n ≡ ltb (component C x) (suc n)
          go (less h) = lt-ltb (component C x) n h ∙ sym (lt-ltb (component C x) (suc n) (omega arith))
          go (same h) = absurd (f x k h)
          go (over h) = le-ltb (component C x) n (omega arith) ∙ sym (le-ltb (component C x) (suc n) (omega arith))

  -- what the loop does at n
  pub data AtStart (n : ℕ) (visited : List ℕ) : Type 0 where
    no_key : is_key C n ≡ false → AtStart n visited
    seen_before : is_key C n ≡ true → member n visited ≡ true → component C n < n → AtStart n visited
    searched : is_key C n ≡ true → member n visited ≡ false → component C n ≡ n → AtStart n visited

  pub at_start : (n : ℕ) (visited : List ℕ) → Visited n visited → AtStart n visited
  at_start n visited w = go (is_key C n) refl (ltb (component C n) n) refl
    where
      go : (b : Bool) → is_key C n ≡ b → (c : Bool) → ltb (component C n) n ≡ c → AtStart n visited
      go false k c e = no_key k
      go true k true e = seen_before k (w.has n ∙ ap₂ ◌&&◌ k e) (ltb-true (component C n) n e)
      go true k false e = searched k (w.has n ∙ ap₂ ◌&&◌ k e) (omega (arith, ltb-false (component C n) n e, component-low C within n (key-range n k).1))

  pub next_visited : (n : ℕ) (visited : List ℕ) → Visited n visited → Visited (suc n) (visited_after C visited (to_list (only_if (is_key C n) n)))
  unfolding visited_after
  next_visited n visited w = go (at_start n visited w)
    where
      go : AtStart n visited → Visited (suc n) (visited_after C visited (to_list (only_if (is_key C n) n)))
      go (no_key k) = rw k (unchanged n visited (λ x h e. true≢false (sym (name-key x h) ∙ ap (is_key C) e ∙ k)) w)
      go (seen_before k m c) = rw (k, m) (unchanged n visited (λ x h e. omega (arith, ap (component C) (sym e) ∙ component-own C within x (key-range x h).1)) w)
      go (searched k m c) = rw (k, m) (record { has = has; sorted = (search_ordered C sound within visited n (visited-closed n visited w) (key-range n k).1 m w.sorted (component-named n (key-range n k).0 (key-range n k).1)).visited })
        where
          low : n ≤ C.regions
          low = (key-range n k).1

          named : 1 ≤ component C n
          named = component-named n (key-range n k).0 low

          at : (x : ℕ) → Three (component C x) n → ((is_key C x && ltb (component C x) n) || eqb (component C x) n) ≡ (is_key C x && ltb (component C x) (suc n))
          at x (less h) = (λ i. (is_key C x && lt-ltb (component C x) n h i) || ne_eqb (component C x) n (λ e. omega arith) i) ∙ or-false (is_key C x && true) ∙ ap (λ b. is_key C x && b) (sym (lt-ltb (component C x) (suc n) (omega arith)))
          at x (same h) = (λ i. (is_key C x && ltb (component C x) n) || eq-eqb (component C x) n h i) ∙ or-true (is_key C x && ltb (component C x) n) ∙ sym (ap₂ ◌&&◌ (inside-key (component C n) x named (key-edge n k) (eq-eqb (component C x) (component C n) (h ∙ sym c))) (lt-ltb (component C x) (suc n) (omega arith)))
          at x (over h) = (λ i. (is_key C x && le-ltb (component C x) n (omega arith) i) || ne_eqb (component C x) n (λ e. omega arith) i) ∙ or-false (is_key C x && false) ∙ ap (λ b. is_key C x && b) (sym (le-ltb (component C x) (suc n) (omega arith)))

          has : (x : ℕ) → member x (search_from C visited n).visited ≡ (is_key C x && ltb (component C x) (suc n))
          has x = search_visited C sound within visited n (visited-closed n visited w) low m w.sorted named x ∙ (λ i. w.has x i || eqb (component C x) (c i)) ∙ at x (three (component C x) n)
