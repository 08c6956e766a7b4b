-- Every proposal of the definitions reserves, as its ports, full pairs that name its regions: the walk of a union went through, and the ports of a pocket are full pairs.
-- Assumes that the lists show a context of a map.
use Prim.Native.Nat.{ℕ, suc, ◌≤◌, ◌<◌}
use mathlib.Core.Path.{◌≡◌, refl, sym, ap, ap₂, ◌∙◌}
use mathlib.Core.Bool.{Bool, true, false, not, ◌&&◌, ◌||◌, cond}
use Rattle.std.specs.Prelude.{Option, None, Some}
use mathlib.Core.List.{List}
use lib.Dec.{eqb, ltb, leb}
use Rattle.definitions.specs.Scan.{all, all_below, count_below, only_if}
use Rattle.definitions.specs.Grid.{Pair}
use Rattle.definitions.specs.Context.{Context, full_pair, is_incident, no_ramp}
use Rattle.definitions.specs.Junctions.{Proposal, is_some, is_union_port, is_new_exterior, anchored_regions, is_near_port, is_widest, ports_fit, union_shape, union_regions, union_from, union_proposal, ports_of, port_exterior, bridge_fits, bridge_at, is_twice_as_wide, is_shared, pick_bridge, bridge_of_ports, bridge_proposal, is_reserved_port, proposals}
use Rattle.laws.specs.ListLaws.Lists.{All, done, more, all_append}
use Rattle.laws.specs.ListLaws.Tests.{both, same_test}
use Rattle.laws.specs.ListLaws.Below.{all_below_at}
use Rattle.laws.specs.ListLaws.ScansOfAll.{collect-below}
use Rattle.laws.specs.ListLaws.Options.{OnO, absent, present, on_only, on_cond, on_list}
use Rattle.laws.specs.SetLaws.Sets.{numbers_below, below_all, all_below_lem}
use Rattle.laws.specs.RustJunctions.FormedProposals.{full-all}
use Rattle.junction_proposals.specs.Lent.{Shows}
use Rattle.junction_proposals.specs.Ports.{names}
use Rattle.junction_selection.specs.Ranks.{reserves_at}
use Rattle.junction_proposals.proofs.PortLaws.{full_incident, named_incident, names_is, walk_is, region-ports}
use Rattle.junction_proposals.proofs.UnionRows.{of_some}
use Rattle.junction_selection.proofs.Removing.{Reserving}
use Rattle.region_pairs.specs.declared.Pair as declared

third_of : (a b c x n y w : Bool) → (a && b && c && x && n && y && w) ≡ true → c ≡ true
third_of a b true x n y w h = refl
third_of true true false x n y w h = h
third_of true false false x n y w h = h
third_of false b false x n y w h = h

module _ (boundaries : List ℕ) (full : List (Option declared.Pair)) (counts marks : List ℕ) (C : Context) (S : Shows boundaries full counts marks C.count C.regions C) where
  abbrev Fits : Proposal → Type 0
  Fits = Reserving boundaries full counts marks C S

  -- ---- unions

  shape-ports : (i : ℕ) (p : Pair) → union_shape C i p ≡ true → ports_fit C i p ≡ true
  unfolding union_shape
  shape-ports i p h =
      third_of (no_ramp C i) (ltb (anchored_regions C p) 2) (ports_fit C i p) (leb 3 (count_below C.count (is_union_port C i p))) (all_below C.count (λ j. not (is_union_port C i p j) || is_near_port C i j)) (leb 3 (count_below C.count (is_new_exterior C i p)))
      (not (eqb (anchored_regions C p) 1) || is_widest C i p) h

  union_reserves : (i : ℕ) (p : Pair) → i < C.count → full_pair C i ≡ Some p → union_shape C i p ≡ true → Fits (record { index = i; kind = 0; first = p.lo; second = p.hi })
  unfolding is_reserved_port reserves_at
  union_reserves i p l own h = record { index_in = l; same = λ j k. ap₂ (λ a b. (a || eqb 0 0 && b) && not (eqb 0 0 && eqb j i)) (ports j k).0 (ports j k).1 }
    where
      ports : (j : ℕ) → j < C.count → (is_incident C j p.lo ≡ names full p.lo j) × (is_incident C j p.hi ≡ names full p.hi j)
      ports =
          let ordered = of_some (full-all C (λ q. q.lo < q.hi) i (S.sound.ordered i)) own in
          let named = of_some (full-all C (λ q. (1 ≤ q.lo) × (q.hi ≤ C.regions)) i (S.sound.labelled i)) own in
          region-ports C full counts S.pairs S.incidents i p named.0 named.1 ordered
          (walk_is C full counts S.pairs S.incidents i p named.0 named.1 ordered own ∙ shape-ports i p h)

  union-fits : (i : ℕ) → i < C.count → (o : Option Pair) → full_pair C i ≡ o → OnO Fits (union_from C i o)
  unfolding union_from
  union-fits i l None e = absent
  union-fits i l (Some p) e = go (union_shape C i p && union_regions C i p) refl
    where
      go : (b : Bool) → (union_shape C i p && union_regions C i p) ≡ b → OnO Fits (only_if b (record { index = i; kind = 0; first = p.lo; second = p.hi }))
      go true h = present (union_reserves i p l e (both (union_shape C i p) (union_regions C i p) h).0)
      go false h = absent

  -- ---- bridges

  module _ (r : ℕ) (tested : all (λ j. no_ramp C j && is_some (full_pair C j)) (ports_of C r) ≡ true) where
    incident_full : (j : ℕ) → j < C.count → is_incident C j r ≡ true → is_some (full_pair C j) ≡ true
    unfolding ports_of numbers_below
    incident_full j l h =
        (both (no_ramp C j) (is_some (full_pair C j))
        (ap (λ b. not b || no_ramp C j && is_some (full_pair C j)) (sym h) ∙ all_below_at C.count (λ k. not (is_incident C k r) || no_ramp C k && is_some (full_pair C k)) (sym (all_below_lem (λ k. is_incident C k r) (λ k. no_ramp C k && is_some (full_pair C k)) C.count) ∙ tested) j l)).1

    port-names : (j : ℕ) → j < C.count → is_incident C j r ≡ names full r j
    port-names j l =
        same_test (λ h. names_is C full counts S.pairs S.incidents r j l ∙ sym (full_incident C j r (incident_full j l h)) ∙ h)
        (λ h. named_incident C j r (sym (names_is C full counts S.pairs S.incidents r j l) ∙ h))

    bridge_reserves : (i e : ℕ) → i < C.count → Fits (record { index = i; kind = 1; first = r; second = e })
    unfolding is_reserved_port reserves_at
    bridge_reserves i e l = record { index_in = l; same = λ j k. ap (λ a. (a || false) && true) (port-names j k) }

    at_fits : (i k t : ℕ) → i < C.count → OnO Fits (bridge_at C r i k t)
    unfolding bridge_at
    at_fits i k t h = on_only (bridge_fits C r i k t) (record { index = i; kind = 1; first = r; second = port_exterior C r i }) (bridge_reserves i (port_exterior C r i) h)

    pick-fits : (i k t : ℕ) → i < C.count → k < C.count → OnO Fits (pick_bridge C r i k t)
    unfolding pick_bridge
    pick-fits i k t h l = on_cond (is_twice_as_wide C i k) (at_fits i k t h) (on_cond (is_twice_as_wide C k i) (at_fits k i t l) absent)

    list-fits : {l : List ℕ} → All (λ j. j < C.count) l → OnO Fits (bridge_of_ports C r l)
    unfolding bridge_of_ports
    list-fits done = absent
    list-fits (more a done) = absent
    list-fits (more a (more b done)) = absent
    list-fits (more {x = i} a (more {x = j} b (more {x = k} c done))) =
        on_cond (is_shared C r i j k) (pick-fits i j k a b) (on_cond (is_shared C r i k j) (pick-fits i k j a c) (on_cond (is_shared C r j k i) (pick-fits j k i b c) absent))
    list-fits (more a (more b (more c (more d s)))) = absent

  ports-below : (r : ℕ) → All (λ j. j < C.count) (ports_of C r)
  unfolding ports_of numbers_below
  ports-below r = below_all (λ j. is_incident C j r) C.count

  bridge_fits_lem : (r : ℕ) → OnO Fits (bridge_proposal C r)
  unfolding bridge_proposal
  bridge_fits_lem r = go (not (C.anchored r) && all (λ j. no_ramp C j && is_some (full_pair C j)) (ports_of C r)) refl
    where
      go : (b : Bool) → (not (C.anchored r) && all (λ j. no_ramp C j && is_some (full_pair C j)) (ports_of C r)) ≡ b → OnO Fits (cond b (bridge_of_ports C r (ports_of C r)) None)
      go true h = list-fits r (both (not (C.anchored r)) (all (λ j. no_ramp C j && is_some (full_pair C j)) (ports_of C r)) h).1 (ports-below r)
      go false h = absent

  pub proposals_reserve : All Fits (proposals C)
  unfolding proposals union_proposal
  proposals_reserve =
      all_append (collect-below Fits (union_proposal C) C.count (λ i l. on_list (union-fits i l (full_pair C i) refl)))
      (collect-below Fits (λ k. bridge_proposal C (suc k)) C.regions (λ k l. on_list (bridge_fits_lem (suc k))))
