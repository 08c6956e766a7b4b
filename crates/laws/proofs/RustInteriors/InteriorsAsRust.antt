-- Pass 2 whole as the Rust writes it (InteriorLoop), and that the boundaries it removes are those of the definitions. The argument: a search starts at the least label of
-- each component that has an edge, and at no other label (InteriorStarts); what it finds is that component (DepthFirst), of which the tests, the ports and the
-- proposal are the definitions' (ComponentSearch, InteriorChain); the sorted lists agree, and the selection is Selection2. Assumes a sound and checked context.
use Prim.Native.Nat.{ℕ, zero, suc, compare, ◌<◌, ◌≤◌}
use Rattle.std.proofs.Common.{arith, ◌∙◌}
use Rattle.std.specs.Prelude.{◌≡◌, Bool, ◌&&◌, length, option_map, Option, None}
use Rattle.std.proofs.Math.Path.{refl, sym, ap}
use Rattle.std.proofs.Math.Bool.{true, false, not, cond, and-false}
use mathlib.Core.List.{List, [], ◌++◌, map, append-nil}
use Rattle.std.proofs.Math.Dec.{eqb, leb}
use borrow.Author.Tests.{le-ltb, eqb-true, eq-eqb}
use Rattle.definitions.specs.Scan.{any, member, filter, collect, to_list, only_if}
use Rattle.definitions.specs.Sort.{sort}
use Rattle.definitions.specs.Context.{Context}
use Rattle.definitions.specs.MouthShapes.{regions_of}
use Rattle.definitions.specs.RampInteriors.{InteriorProposal, components, is_edge, edges_of, component_regions, is_candidate, is_port, component_ports, interior_from, interior_proposal, proposals, key, ranks_before, taken, removed}
use Rattle.laws.specs.ListLaws.Lists.{All, done, all_map, all_both}
use Rattle.laws.specs.ListLaws.Scans.{all_every}
use Rattle.laws.specs.ListLaws.Tests.{both}
use Rattle.laws.specs.OrderLaws.Ranks.{gather-all}
use Rattle.laws.specs.ListLaws.NumberLists.{all-add_all}
use Rattle.laws.specs.OrderLaws.StableSort.{map-sort}
use Rattle.laws.specs.RegionLaws.Merging.{Within}
use Rattle.laws.specs.RegionLaws.Components.{component}
use Rattle.laws.specs.RustContext.SoundContext.{Sound}
use Rattle.laws.specs.RustContext.CheckedContext.{Checked}
use Rattle.laws.specs.RustContext.FullCut.{is_empty}
use Rattle.laws.specs.SetLaws.Sets
use Rattle.laws.specs.SetLaws.Sets.{set_extend, numbers_below, below_all, member_extend}
use Rattle.laws.specs.OrderLaws.Orderings.{is_less, then_with, list_compare, list_compare_lem}
use Rattle.laws.specs.RustContext.CompareBoundaries.{endpoints_compare}
use Rattle.laws.specs.RustMouths.MouthKept.{Inhabited, regions-inhabited}
use Rattle.laws.specs.ListLaws.KeptLists.{keep_if, filter-kept, filter-joined, collect-shift}
use Rattle.laws.specs.RustInteriors.ComponentRegions.{inside, all_inside, edges_are}
use Rattle.laws.specs.RustInteriors.ComponentLiteral.{is_passed_over, leaves_component, ports_from}
use Rattle.laws.specs.RustInteriors.ComponentSearch.{at_least_one, edge-found, candidate_is, regions_are_lem, ports-are}
use Rattle.laws.specs.RustInteriors.InteriorLiteral.{from_ports, is_retained}
use Rattle.laws.proofs.RustInteriors.InteriorChain.{interior_is}
use Rattle.laws.specs.RustInteriors.Selection2.{rendered, removed_rust, selection}
use Rattle.laws.specs.RustInteriors.DepthFirstLiteral.{Search, search_from}
use Rattle.laws.specs.RustInteriors.SearchRounds.{Ordered}
use Rattle.laws.specs.RustInteriors.SearchInvariant.{meets}
use Rattle.laws.specs.RustInteriors.DepthFirst.{search_regions, search_edges, search_ordered}
use Rattle.laws.specs.RustInteriors.InteriorLoop.{from_search, over_starts, proposals_rust, compare_interiors, sort_interiors, removed_set}
use Rattle.laws.specs.RustInteriors.InteriorStarts.{visited_after, visited-append, starts-append, is_key, key-range, keys-are, inside-key, component-named, Visited, visited-closed, AtStart, no_key, seen_before, searched, at_start, next_visited}

module _ (C : Context) (sound : Sound C) (checked : Checked C) where
  -- what Components asks
  within : (i : ℕ) → All (Within (suc C.regions)) (C.pairs i)
  within i = all_map (λ p t. record { lo = omega (arith, t.0, t.1.1); hi = omega (arith, t.1.1) }) (all_both (sound.ordered i) (sound.labelled i))

  abbrev cs : List ℕ
  cs = components C

  -- ---- what is found at one start

  component-inhabited : (r : ℕ) → All (Inhabited C) (component_regions C cs r)
  unfolding component_regions
  component-inhabited r = all-add_all done (gather-all (Inhabited C) (λ i. cond (is_edge C cs r i) (regions_of (C.pairs i)) []) C.count (λ i. pick i (is_edge C cs r i)))
    where
      pick : (i : ℕ) (b : Bool) → All (Inhabited C) (cond b (regions_of (C.pairs i)) [])
      pick i true = regions-inhabited C checked.measured sound i
      pick i false = done

  ports-below : (r : ℕ) → All (λ i. i < C.count) (component_ports C cs r)
  unfolding component_ports numbers_below
  ports-below r = below_all (is_port C cs r) C.count

  -- of the sets that a search leaves
  module _ (r : ℕ) (named : 1 ≤ r) (own : component C r ≡ r) (found : Search) (ordered : Ordered found) (regions : (x : ℕ) → member x found.regions ≡ inside C r x) (edges : (i : ℕ) → member i found.edges ≡ meets C r i) where
    edges_same : found.edges ≡ edges_of C cs r
    edges_same = edges_are C within r ordered.edges edges

    from_search_lem : keep_if (is_retained C) (from_search C found) ≡ option_map (rendered C) (interior_proposal C cs r)
    unfolding from_search interior_proposal
    from_search_lem =
        (λ i. keep_if (is_retained C) (cond (is_passed_over C found.regions (edges_same i)) None (cond (leaves_component C found.regions (edges_same i)) None (from_ports C found.regions (edges_same i) (ports_from C (edges_same i) [] found.regions)))))
        ∙ go (is_passed_over C found.regions (edges_of C cs r)) refl (leaves_component C found.regions (edges_of C cs r)) refl
      where
        candidate : (p l : Bool) → is_passed_over C found.regions (edges_of C cs r) ≡ p → leaves_component C found.regions (edges_of C cs r) ≡ l → is_candidate C cs r ≡ (not p && not l)
        candidate p l hp hl = candidate_is C r within named found.regions ordered.regions regions ∙ (λ i. eq-eqb (component C r) r own i && (not (hp i) && not (hl i)))

        refused : (p l : Bool) → is_passed_over C found.regions (edges_of C cs r) ≡ p → leaves_component C found.regions (edges_of C cs r) ≡ l → (not p && not l) ≡ false → None ≡ option_map (rendered C) (cond (is_candidate C cs r) (interior_from C (component_regions C cs r) (edges_of C cs r) (component_ports C cs r)) None)
        refused p l hp hl e = λ i. option_map (rendered C) (cond (sym (candidate p l hp hl ∙ e) i) (interior_from C (component_regions C cs r) (edges_of C cs r) (component_ports C cs r)) None)

        go : (p : Bool) → is_passed_over C found.regions (edges_of C cs r) ≡ p → (l : Bool) → leaves_component C found.regions (edges_of C cs r) ≡ l → keep_if (is_retained C) (cond p None (cond l None (from_ports C found.regions (edges_of C cs r) (ports_from C (edges_of C cs r) [] found.regions)))) ≡ option_map (rendered C) (cond (is_candidate C cs r) (interior_from C (component_regions C cs r) (edges_of C cs r) (component_ports C cs r)) None)
        go true hp l hl = refused true l hp hl refl
        go false hp true hl = refused false true hp hl refl
        go false hp false hl =
            (λ i. keep_if (is_retained C) (from_ports C (regions_are_lem C r within named found.regions ordered.regions regions (candidate false false hp hl) i) (edges_of C cs r) (ports-are C r within named found.regions ordered.regions regions i)))
            ∙ interior_is C sound checked (component_regions C cs r) (edges_of C cs r) (component_ports C cs r) (component-inhabited r) (ports-below r)
            ∙ (λ i. option_map (rendered C) (cond (sym (candidate false false hp hl) i) (interior_from C (component_regions C cs r) (edges_of C cs r) (component_ports C cs r)) None))

  -- ---- where no search starts

  first_two : (r : ℕ) → is_candidate C cs r ≡ true → (eqb (component C r) r ≡ true) × (not (is_empty (edges_of C cs r)) ≡ true)
  unfolding is_candidate
  first_two r h =
      let e = eqb (component C r) r in
      let n = leb 1 (length (edges_of C cs r)) in
      let m = leb (length (edges_of C cs r)) 8 in
      let t3 = both (e && n && m && all_inside C r) (not (any C.anchored (component_regions C cs r))) h in
      let t2 = both (e && n && m) (all_inside C r) t3.0 in
      let t1 = both (e && n) m t2.0 in
      let t0 = both e n t1.0 in
      (t0.0, sym (at_least_one (edges_of C cs r)) ∙ t0.1)

  no_proposal : (r : ℕ) → is_candidate C cs r ≡ false → interior_proposal C cs r ≡ None
  unfolding interior_proposal
  no_proposal r h = λ i. cond (h i) (interior_from C (component_regions C cs r) (edges_of C cs r) (component_ports C cs r)) None

  -- a label that no ordinary full cut names is no candidate, nor one that is not the least of its component
  key_only : (r : ℕ) → 1 ≤ r → is_key C r ≡ false → interior_proposal C cs r ≡ None
  key_only r h k = no_proposal r (go (is_candidate C cs r) refl)
    where
      go : (b : Bool) → is_candidate C cs r ≡ b → b ≡ false
      go true e =
          let t = first_two r e in
          sym (inside-key C sound within r r h (sym (edge-found C r) ∙ t.1) t.0) ∙ k
      go false e = refl

  least_only : (r : ℕ) → (component C r ≡ r → ⊥) → interior_proposal C cs r ≡ None
  least_only r d = no_proposal r (go (is_candidate C cs r) refl)
    where
      go : (b : Bool) → is_candidate C cs r ≡ b → b ≡ false
      go true e = absurd (d (eqb-true (component C r) r (first_two r e).0))
      go false e = refl

  -- ---- the loop

  abbrev start_proposal : ℕ → Option InteriorProposal
  start_proposal zero = None
  start_proposal (suc k) = interior_proposal C cs (suc k)

  start_is : (n : ℕ) → 1 ≤ n → start_proposal n ≡ interior_proposal C cs n
  start_is zero h = absurd (omega arith)
  start_is (suc k) h = refl

  start_none : (n : ℕ) → is_key C n ≡ false → start_proposal n ≡ None
  start_none zero h = refl
  start_none (suc k) h = key_only (suc k) (omega arith) h

  one_start : (n : ℕ) (visited : List ℕ) → Visited C sound within n visited → filter (is_retained C) (over_starts C visited (to_list (only_if (is_key C n) n))) ≡ map (rendered C) (to_list (start_proposal n))
  unfolding over_starts filter
  one_start n visited w = go (at_start C sound within n visited w)
    where
      go : AtStart C sound within n visited → filter (is_retained C) (over_starts C visited (to_list (only_if (is_key C n) n))) ≡ map (rendered C) (to_list (start_proposal n))
      go (no_key k) = rw k (ap (λ o. map (rendered C) (to_list o)) (sym (start_none n k)))
      go (seen_before k m c) = rw (k, m) (ap (λ o. map (rendered C) (to_list o)) (sym (start_is n (key-range C sound within n k).0 ∙ least_only n (λ e. omega arith))))
      go (searched k m c) =
          ap (λ o. filter (is_retained C) (over_starts C visited (to_list (only_if o n)))) k ∙ ap (λ b. filter (is_retained C) (cond b [] (to_list (from_search C found) ++ []))) m ∙ ap (filter (is_retained C)) (append-nil (to_list (from_search C found)))
          ∙ filter-kept (is_retained C) (rendered C) (from_search C found) (interior_proposal C cs n) kept ∙ ap (λ o. map (rendered C) (to_list o)) (sym (start_is n range.0))
        where
          range : (1 ≤ n) × (n ≤ C.regions)
          range = key-range C sound within n k

          found : Search
          found = search_from C visited n

          named : 1 ≤ component C n
          named = component-named C sound within n range.0 range.1

          kept : keep_if (is_retained C) (from_search C found) ≡ option_map (rendered C) (interior_proposal C cs n)
          kept =
              from_search_lem n range.0 c found (search_ordered C sound within visited n (visited-closed C sound within n visited w) range.1 m w.sorted named)
              (λ x. search_regions C sound within visited n (visited-closed C sound within n visited w) range.1 m w.sorted named x ∙ ap (λ r. inside C r x) c)
              (λ i. search_edges C sound within visited n (visited-closed C sound within n visited w) range.1 m w.sorted named i ∙ ap (λ r. meets C r i) c)

  visited-below : (n : ℕ) → Visited C sound within n (visited_after C [] (numbers_below n (is_key C)))
  unfolding numbers_below collect visited_after member any
  visited-below zero = record { has = λ x. sym (ap (λ b. is_key C x && b) (le-ltb (component C x) 0 (omega arith)) ∙ and-false (is_key C x)); sorted = Sets.none }
  visited-below (suc n) = rw (visited-append C [] (numbers_below n (is_key C)) (to_list (only_if (is_key C n) n))) (next_visited C sound within n (visited_after C [] (numbers_below n (is_key C))) (visited-below n))

  loop_is : (n : ℕ) → filter (is_retained C) (over_starts C [] (numbers_below n (is_key C))) ≡ map (rendered C) (collect n start_proposal)
  unfolding numbers_below collect over_starts filter
  loop_is zero = refl
  loop_is (suc n) =
      ap (filter (is_retained C)) (starts-append C [] (numbers_below n (is_key C)) (to_list (only_if (is_key C n) n)))
      ∙ filter-joined (is_retained C) (rendered C) (over_starts C [] (numbers_below n (is_key C))) (over_starts C (visited_after C [] (numbers_below n (is_key C))) (to_list (only_if (is_key C n) n))) (collect n start_proposal) (to_list (start_proposal n))
      (loop_is n) (one_start n (visited_after C [] (numbers_below n (is_key C))) (visited-below n))

  -- the proposals that the Rust sorts
  pub proposals-are : proposals_rust C ≡ map (rendered C) (proposals C)
  unfolding proposals_rust proposals
  proposals-are = ap (λ l. filter (is_retained C) (over_starts C [] l)) (keys-are C sound within) ∙ loop_is (suc C.regions) ∙ ap (map (rendered C)) (collect-shift C.regions start_proposal)

  -- ---- the whole

  rank_is : (p q : InteriorProposal) → ranks_before C p q ≡ is_less (compare_interiors C (rendered C p) (rendered C q))
  unfolding ranks_before compare_interiors key list_compare
  rank_is p q = sym (ap (λ o. is_less (then_with (compare (C.boundary p.first_port).ramp_id (C.boundary q.first_port).ramp_id) o)) (endpoints_compare (C.boundary p.first_port).endpoints (C.boundary q.first_port).endpoints) ∙ list_compare_lem (key C p) (key C q))

  -- the set that the Rust fills is the set of the boundaries that the definitions remove
  pub removed_set_lem : removed_set C ≡ set_extend [] (removed C)
  unfolding removed_set sort_interiors removed taken
  removed_set_lem =
      ap (λ l. removed_rust (sort (λ left right. is_less (compare_interiors C left right)) l)) proposals-are
      ∙ ap removed_rust (sym (map-sort (rendered C) (λ p. Unit {0}) (ranks_before C) (λ left right. is_less (compare_interiors C left right)) (λ p q g h. rank_is p q) (all_every (λ p. tt) (proposals C))))
      ∙ selection C (sort (ranks_before C) (proposals C))

  -- so it removes what they remove
  pub removed-member : (j : ℕ) → member j (removed_set C) ≡ member j (removed C)
  unfolding member any
  removed-member j = ap (member j) removed_set_lem ∙ member_extend j [] (removed C)
