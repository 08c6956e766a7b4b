-- The tests that the Rust makes of a component that its search has found (ComponentLiteral) are those of `is_candidate`, and the ports that it collects are
-- `component_ports`; its set of regions is ours, if the component is a candidate. Assumes what Components assumes, and that labels count from 1.
use Rattle.std.specs.Prelude.{ℕ, suc, ◌≤◌, ◌≡◌, Bool, ◌&&◌, cond, length, ltb}
use Rattle.std.proofs.Common.{arith, ◌∙◌, eqb-true, lt-ltb, le-ltb, leb-true, leb-false, le-leb}
use Rattle.std.proofs.Math.Path.{refl, sym, ap, ap₂}
use Rattle.std.proofs.Math.Bool.{true, false, not, ◌||◌, or-false, or-true, and-true, and-false, and_comm}
use mathlib.Core.List.{List, [], ◌∷◌}
use Rattle.std.proofs.Math.Dec.{eqb, leb}
use Rattle.definitions.specs.Scan.{any, member, any_below_lem}
use Rattle.definitions.specs.Grid.{contains}
use Rattle.definitions.specs.Context.{Context, is_incident}
use Rattle.definitions.specs.RampInteriors.{components, component_of, is_edge, edges_of, component_regions, is_candidate, is_port, component_ports}
use Rattle.laws.specs.ListLaws.Lists.{All}
use Rattle.laws.specs.ListLaws.ListsAsSets.{any_or}
use Rattle.laws.specs.RustContext.FullCut.{is_empty}
use Rattle.laws.specs.ListLaws.Tests.{both}
use Rattle.laws.specs.RegionLaws.Merging.{Within}
use Rattle.laws.specs.SetLaws.Sets.{set_insert, set_extend, Ascending, none, numbers_below, member-insert, member_below, member_extend, insert_ascending, extend_ascending, any_below, set_below, same_members}
use Rattle.laws.specs.SetLaws.SetTests.{any_extend}
use Rattle.laws.specs.RustContext.Incidents.{or_nothing, incidents_rust, nothing-present, incidents-are}
use Rattle.laws.specs.RustInteriors.ComponentLiteral.{is_passed_over, leaves_component, insert_ports, ports_from}
use Rattle.laws.specs.RustInteriors.ComponentRegions.{any_swap, inside, all_inside, leaves_is, region_members}

any_true : {A : Type 0} (l : List A) → any (λ x. true) l ≡ not (is_empty l)
unfolding any
any_true [] = refl
any_true (x ∷ l) = refl

some_edge : (n : ℕ) (f : ℕ → Bool) → not (is_empty (numbers_below n f)) ≡ any_below_lem n f
some_edge n f = sym (any_true (numbers_below n f)) ∙ any_below f (λ j. true) n ∙ (λ i. any_below_lem n (λ j. and-true (f j) i))

-- `edges.len()` below 1 is `edges.is_empty()`
pub at_least_one : (l : List ℕ) → leb 1 (length l) ≡ not (is_empty l)
at_least_one [] = refl
at_least_one (x ∷ l) = le-leb 1 (length (x ∷ l)) (omega arith)

at_most : (n m : ℕ) → ltb m n ≡ not (leb n m)
at_most n m = go (leb n m) refl
  where
    go : (b : Bool) → leb n m ≡ b → ltb m n ≡ not b
    go true e = le-ltb m n (leb-true n m e)
    go false e = lt-ltb m n (leb-false n m e)

module _ (C : Context) (r : ℕ) where
  abbrev pub edges : List ℕ
  edges = edges_of C (components C) r

  abbrev ours : List ℕ
  ours = component_regions C (components C) r

  pub edge-found : not (is_empty edges) ≡ any_below_lem C.count (is_edge C (components C) r)
  unfolding edges_of numbers_below
  edge-found = some_edge C.count (is_edge C (components C) r)

  edge-member : (i : ℕ) → member i edges ≡ (ltb i C.count && is_edge C (components C) r i)
  unfolding edges_of numbers_below
  edge-member i = member_below (is_edge C (components C) r) i C.count

  -- ---- ports

  incident_in : (i x : ℕ) → member i (or_nothing (incidents_rust C x)) ≡ (ltb i C.count && is_incident C i x)
  incident_in i x = ap (member i) (ap or_nothing (incidents-are C x) ∙ nothing-present (numbers_below C.count (λ j. is_incident C j x))) ∙ member_below (λ j. is_incident C j x) i C.count

  port-put : (i : ℕ) (ports indexes : List ℕ) → member i (insert_ports C edges ports indexes) ≡ (member i ports || member i indexes && not (member i edges))
  unfolding insert_ports member any
  port-put i ports [] = sym (or-false (member i ports))
  port-put i ports (j ∷ l) = port-put i (cond (not (member j edges)) (set_insert ports j) ports) l ∙ ap (λ b. b || member i l && not (member i edges)) (first (member j edges) refl) ∙ order (member i ports) (eqb i j) (member i l) (not (member i edges))
    where
      order : (p e m n : Bool) → (p || e && n || m && n) ≡ (p || (e || m) && n)
      order true e m n = refl
      order false true m true = refl
      order false true m false = and-false m
      order false false m n = refl

      same : (e : Bool) → eqb i j ≡ e → member j edges ≡ true → member i ports ≡ (member i ports || e && not (member i edges))
      same true e h = sym (ap (λ b. member i ports || not b) (ap (λ x. member x edges) (eqb-true i j e) ∙ h) ∙ or-false (member i ports))
      same false e h = sym (or-false (member i ports))

      new : (e : Bool) → eqb i j ≡ e → member j edges ≡ false → (e || member i ports) ≡ (member i ports || e && not (member i edges))
      new true e h = sym (ap (λ b. member i ports || not b) (ap (λ x. member x edges) (eqb-true i j e) ∙ h) ∙ or-true (member i ports))
      new false e h = sym (or-false (member i ports))

      first : (b : Bool) → member j edges ≡ b → member i (cond (not b) (set_insert ports j) ports) ≡ (member i ports || eqb i j && not (member i edges))
      first true h = same (eqb i j) refl h
      first false h = member-insert i ports j ∙ new (eqb i j) refl h

  port_ascending : {ports : List ℕ} (indexes : List ℕ) → Ascending ports → Ascending (insert_ports C edges ports indexes)
  unfolding insert_ports
  port_ascending [] s = s
  port_ascending {ports} (j ∷ l) s = port_ascending {ports = cond (not (member j edges)) (set_insert ports j) ports} l (go (not (member j edges)))
    where
      go : (b : Bool) → Ascending (cond b (set_insert ports j) ports)
      go true = insert_ascending j s
      go false = s

  ports-put : (i : ℕ) (ports rs : List ℕ) → member i (ports_from C edges ports rs) ≡ (member i ports || (ltb i C.count && any (is_incident C i) rs) && not (member i edges))
  unfolding ports_from any
  ports-put i ports [] = sym (ap (λ b. member i ports || b && not (member i edges)) (and-false (ltb i C.count)) ∙ or-false (member i ports))
  ports-put i ports (x ∷ rs) =
      ports-put i (insert_ports C edges ports (or_nothing (incidents_rust C x))) rs
      ∙ ap (λ b. b || (ltb i C.count && any (is_incident C i) rs) && not (member i edges)) (port-put i ports (or_nothing (incidents_rust C x)) ∙ ap (λ b. member i ports || b && not (member i edges)) (incident_in i x))
      ∙ order (member i ports) (ltb i C.count) (is_incident C i x) (any (is_incident C i) rs) (not (member i edges))
    where
      order : (p l c q n : Bool) → (p || (l && c) && n || (l && q) && n) ≡ (p || (l && (c || q)) && n)
      order true l c q n = refl
      order false false c q n = refl
      order false true true q true = refl
      order false true true q false = and-false q
      order false true false q n = refl

  ports_ascending : {ports : List ℕ} (rs : List ℕ) → Ascending ports → Ascending (ports_from C edges ports rs)
  unfolding ports_from
  ports_ascending [] s = s
  ports_ascending {ports} (x ∷ rs) s = ports_ascending {ports = insert_ports C edges ports (or_nothing (incidents_rust C x))} rs (port_ascending (or_nothing (incidents_rust C x)) s)

  module _ (within : (i : ℕ) → All (Within (suc C.regions)) (C.pairs i)) (named : 1 ≤ r) (regions : List ℕ) (ascending : Ascending regions) (found : (x : ℕ) → member x regions ≡ inside C r x) where
    -- ---- regions

    set_is : not (is_empty edges) ≡ true → all_inside C r ≡ true → regions ≡ set_extend [] ours
    unfolding member any
    set_is e a = same_members ascending (extend_ascending ours none) (λ x. found x ∙ sym (region_members C within r named (sym edge-found ∙ e) a x) ∙ sym (member_extend x [] ours))

    anchored_is : not (is_empty edges) ≡ true → all_inside C r ≡ true → any C.anchored regions ≡ any C.anchored ours
    unfolding any
    anchored_is e a = ap (any C.anchored) (set_is e a) ∙ any_extend C.anchored [] ours

    -- ---- the two tests together

    pub candidate_is : is_candidate C (components C) r ≡ (eqb (component_of C (components C) r) r && (not (is_passed_over C regions edges) && not (leaves_component C regions edges)))
    unfolding is_candidate is_passed_over
    candidate_is =
        (λ i. eqb (component_of C (components C) r) r && at_least_one edges i && leb (length edges) 8 && all_inside C r && not (any C.anchored ours))
        ∙ order (eqb (component_of C (components C) r) r) (is_empty edges) (leb (length edges) 8) (all_inside C r) (any C.anchored regions) (any C.anchored ours) anchored_is
        ∙ (λ i. eqb (component_of C (components C) r) r && (not (is_empty edges || sym (at_most (length edges) 8) i || any C.anchored regions) && not (sym (leaves_is C within r regions found) i)))
      where
        order : (e m b a x y : Bool) → (not m ≡ true → a ≡ true → x ≡ y) → (e && not m && b && a && not y) ≡ (e && (not (m || not b || x) && not (not a)))
        order false m b a x y h = refl
        order true true b a x y h = refl
        order true false false a x y h = refl
        order true false true false x y h = sym (and-false (not x))
        order true false true true x y h = sym (and-true (not x) ∙ ap not (h refl refl))

    -- the set of the regions of a candidate is ours
    pub regions_are_lem : is_candidate C (components C) r ≡ true → regions ≡ set_extend [] ours
    unfolding is_candidate
    regions_are_lem h = set_is (sym (at_least_one edges) ∙ first) inner
      where
        t0 : ((eqb (component_of C (components C) r) r && leb 1 (length edges) && leb (length edges) 8 && all_inside C r) ≡ true) × (not (any C.anchored ours) ≡ true)
        t0 = both (eqb (component_of C (components C) r) r && leb 1 (length edges) && leb (length edges) 8 && all_inside C r) (not (any C.anchored ours)) h

        t1 : ((eqb (component_of C (components C) r) r && leb 1 (length edges) && leb (length edges) 8) ≡ true) × (all_inside C r ≡ true)
        t1 = both (eqb (component_of C (components C) r) r && leb 1 (length edges) && leb (length edges) 8) (all_inside C r) t0.0

        t2 : ((eqb (component_of C (components C) r) r && leb 1 (length edges)) ≡ true) × (leb (length edges) 8 ≡ true)
        t2 = both (eqb (component_of C (components C) r) r && leb 1 (length edges)) (leb (length edges) 8) t1.0

        inner : all_inside C r ≡ true
        inner = t1.1

        first : leb 1 (length edges) ≡ true
        first = (both (eqb (component_of C (components C) r) r) (leb 1 (length edges)) t2.0).1

    -- ---- ports

    about_is : (i : ℕ) → any (is_incident C i) regions ≡ any (λ p. inside C r p.lo || inside C r p.hi) (C.pairs i)
    unfolding is_incident member
    about_is i =
        any_swap (λ x p. contains x p) regions (C.pairs i)
        ∙ (λ j. any (λ p. (any_or (eqb p.lo) (eqb p.hi) regions ∙ ap₂ ◌||◌ (found p.lo) (found p.hi)) j) (C.pairs i))

    pub ports-are : ports_from C edges [] regions ≡ component_ports C (components C) r
    unfolding component_ports is_port numbers_below member any
    ports-are = set_below (is_port C (components C) r) C.count (ports_ascending regions none) (λ i. ports-put i [] regions ∙ ap₂ (λ a b. (ltb i C.count && a) && not b) (about_is i) (edge-member i) ∙ order (ltb i C.count) (any (λ p. inside C r p.lo || inside C r p.hi) (C.pairs i)) (is_edge C (components C) r i))
      where
        order : (l q e : Bool) → ((l && q) && not (l && e)) ≡ (l && (not e && q))
        order true q e = and_comm q (not e)
        order false q e = refl
