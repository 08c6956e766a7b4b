-- The bridges that the code finds, of which the records allow some, are the definition's. The argument: as many full pairs without ramp name the pocket as it has
-- incidents, three, exactly where all its three ports are such; then the ports, the regions beyond them and the tests are the same. Assumes that the lists show a context of a map.
use Prim.Native.Nat.{ℕ, ◌-◌, ◌≤◌, ◌<◌}
use mathlib.Core.Path.{◌≡◌, refl, sym, ap, ap₂, ◌∙◌}
use mathlib.Core.Bool.{Bool, true, false, not, ◌&&◌, ◌||◌, cond, true≢false}
use Rattle.std.specs.Prelude.{Option, None, Some}
use mathlib.Core.List.{List, [], ◌∷◌}
use lib.ListN.{length, get_or}
use lib.Dec.{eqb}
use lib.Ieee.{binary64, le, mul, of_bits}
use borrow.Author.Tests.{eqb-true, eqb-false}
use Rattle.definitions.specs.Scan.{all, all_below, filter, to_list, only_if}
use Rattle.definitions.specs.Grid.{Pair, contains}
use Rattle.definitions.specs.Geometry.{float, center}
use Rattle.definitions.specs.RegionRecord.{has_ramp, strictly_flat}
use Rattle.definitions.specs.Context.{Context, full_pair, holds, is_incident, incident_count, no_ramp, width}
use Rattle.definitions.specs.Junctions.{Proposal, is_some, beyond, is_near_port, within_radius, ports_of, port_exterior, is_shared, is_twice_as_wide, bridge_fits, bridge_at, pick_bridge, bridge_of_ports, bridge_proposal}
use Rattle.laws.specs.ListLaws.Lists.{All, done, more}
use Rattle.laws.specs.ListLaws.Tests.{both, same_test}
use Rattle.laws.specs.ListLaws.Below.{all_below_at}
use Rattle.laws.specs.ListLaws.Scans.{collect_ext, picked-length}
use Rattle.laws.specs.ListLaws.ScansOfAll.{collect-below}
use Rattle.laws.specs.ListLaws.ScanSteps.{count_same, all_intro}
use Rattle.laws.specs.SetLaws.Sets.{numbers_below, all_below_lem}
use Rattle.laws.specs.RustJunctions.FormedProposals.{full-all}
use Rattle.geometry.specs.Widths as widths
use Rattle.junction_proposals.specs.Lent.{Shows}
use Rattle.junction_proposals.specs.Ports.{pair_of, names}
use Rattle.junction_proposals.specs.Unions.{no_ramp_at, is_near, mark_at}
use Rattle.junction_proposals.specs.Bridges.{beyond_at, is_shared_at, near_at, pick_at, is_pocket_port, bridge_of_three, bridge_of_list, is_bridge_at}
use Rattle.junction_proposals.specs.Rows.{bridge_region, is_allowed}
use Rattle.junction_proposals.proofs.PortLaws.{full_incident, named_incident, names_is}
use Rattle.junction_proposals.proofs.ShapeLaws.{no_ramp_is, near_is, anchored_is}
use Rattle.junction_proposals.proofs.BridgeTests.{beyond-within}
use Rattle.junction_proposals.proofs.BridgeWalk.{some_pair, other-count, is_anchored, by_list, other_length}
use Rattle.junction_proposals.proofs.FirstFound.{found}
use Rattle.junction_proposals.proofs.UnionRows.{filter_only, of_some}
use Rattle.region_pairs.specs.declared.Pair as declared

module _ (boundaries : List ℕ) (full : List (Option declared.Pair)) (counts marks : List ℕ) (C : Context) (S : Shows boundaries full counts marks C.count C.regions C) (r : ℕ) (low : 1 ≤ r) (high : r ≤ C.regions) where
  abbrev allowed : Proposal → Bool
  allowed = is_allowed C

  -- a port that is a full pair
  pub record Port (j : ℕ) : Type 0 where
    pub below : j < C.count
    pub pair : Pair
    pub is : full_pair C j ≡ Some pair

  -- ---- the tests of ports

  exterior_is : {j : ℕ} → Port j → port_exterior C r j ≡ beyond_at full r j
  unfolding port_exterior
  exterior_is {j} h = ap (beyond r) (sym (S.pairs.at j h.below))

  exterior_in : {j : ℕ} → Port j → (1 ≤ beyond_at full r j) × (beyond_at full r j ≤ C.regions)
  exterior_in {j} h =
      let ordered = of_some (full-all C (λ q. q.lo < q.hi) j (S.sound.ordered j)) h.is in
      let named = of_some (full-all C (λ q. (1 ≤ q.lo) × (q.hi ≤ C.regions)) j (S.sound.labelled j)) h.is in
      beyond-within r C.regions h.pair (ap (beyond r) (S.pairs.at j h.below ∙ h.is)) named.0 ordered named.1

  shared_is : {i k t : ℕ} → Port i → Port k → Port t → is_shared_at full r marks i k t ≡ is_shared C r i k t
  unfolding is_shared_at is_shared
  shared_is {t} a b c =
      let in_range_lem = exterior_in c in
      λ x. eqb (sym (exterior_is a) x) (sym (exterior_is b) x) && not (eqb (sym (exterior_is c) x) (sym (exterior_is a) x))
      && (sym (anchored_is boundaries full counts marks C S (beyond_at full r t) in_range_lem.0 in_range_lem.1) ∙ ap C.anchored (sym (exterior_is c))) x

  twice_is : {i k : ℕ} → Port i → Port k → widths.is_twice_as_wide boundaries i k ≡ is_twice_as_wide C i k
  unfolding widths.is_twice_as_wide is_twice_as_wide width
  twice_is {i} {k} a b = ap₂ (λ x y. le (mul binary64 (float 2) (of_bits binary64 x.width_bits)) (of_bits binary64 y.width_bits)) (sym (S.bounds.at k b.below)) (sym (S.bounds.at i a.below))

  -- ---- the proposals of three ports

  near-row : {i k t : ℕ} → Port i → Port k → Port t → filter allowed (to_list (near_at full r boundaries i k t)) ≡ to_list (bridge_at C r i k t)
  unfolding near_at bridge_at bridge_fits is_allowed bridge_region
  near-row {i} {k} {t} a b c =
      filter_only allowed (is_near boundaries i i && is_near boundaries i k && is_near boundaries i t) (record { index = i; kind = 1; first = r; second = beyond_at full r i })
      ∙ (λ x. to_list (only_if ((sym (near_is boundaries full counts marks C S i i a.below a.below) x && sym (near_is boundaries full counts marks C S i k a.below b.below) x && sym (near_is boundaries full counts marks C S i t a.below c.below) x)
      && (not (has_ramp (C.region r)) && (within_radius (C.region r) (center (C.boundary i).endpoints) && strictly_flat (C.region r) (C.region r)))) (record { index = i; kind = 1; first = r; second = sym (exterior_is a) x })))
      ∙ ap (λ b. to_list (only_if b (record { index = i; kind = 1; first = r; second = port_exterior C r i }))) (regroup (is_near_port C i i && is_near_port C i k && is_near_port C i t) (not (has_ramp (C.region r))) (within_radius (C.region r) (center (C.boundary i).endpoints)) (strictly_flat (C.region r) (C.region r)))
    where
      regroup : (n h w f : Bool) → (n && (h && (w && f))) ≡ (n && h && w && f)
      regroup true true w f = refl
      regroup true false w f = refl
      regroup false h w f = refl

  -- a choice between two, filtered
  chosen : {t u : Bool} (a b c d : Option Proposal) → t ≡ u → filter allowed (to_list a) ≡ to_list c → filter allowed (to_list b) ≡ to_list d → filter allowed (to_list (cond t a b)) ≡ to_list (cond u c d)
  chosen {t} {u} a b c d e f g = ap (λ x. filter allowed (to_list (cond x a b))) e ∙ go u
    where
      go : (x : Bool) → filter allowed (to_list (cond x a b)) ≡ to_list (cond x c d)
      go true = f
      go false = g

  nothing : filter allowed (to_list None) ≡ to_list None
  unfolding filter
  nothing = refl

  pick-row : {i k t : ℕ} → Port i → Port k → Port t → filter allowed (to_list (pick_at full r boundaries i k t)) ≡ to_list (pick_bridge C r i k t)
  unfolding pick_at pick_bridge
  pick-row a b c = chosen _ _ _ _ (twice_is a b) (near-row a b c) (chosen _ _ _ _ (twice_is b a) (near-row b a c) nothing)

  three-row : {i j k : ℕ} → Port i → Port j → Port k → filter allowed (to_list (bridge_of_three boundaries full marks r i j k)) ≡ to_list (bridge_of_ports C r (i ∷ j ∷ k ∷ []))
  unfolding bridge_of_three bridge_of_ports
  three-row a b c = chosen _ _ _ _ (shared_is a b c) (pick-row a b c) (chosen _ _ _ _ (shared_is a c b) (pick-row a c b) (chosen _ _ _ _ (shared_is b c a) (pick-row b c a) nothing))

  list-row : {l : List ℕ} → All Port l → filter allowed (to_list (bridge_of_list boundaries full marks r l)) ≡ to_list (bridge_of_ports C r l)
  unfolding bridge_of_list bridge_of_ports filter
  list-row done = refl
  list-row (more a done) = refl
  list-row (more a (more b done)) = refl
  list-row (more a (more b (more c done))) = three-row a b c
  list-row (more a (more b (more c (more d s)))) = refl

  -- ---- the ports of the pocket

  abbrev pocket : ℕ → Bool
  pocket = is_pocket_port full r boundaries

  -- what the definition asks of a port
  abbrev test : ℕ → Bool
  test j = no_ramp C j && is_some (full_pair C j)

  pocket-names : (j : ℕ) → j < C.count → pocket j ≡ true → holds (full_pair C j) (contains r) ≡ true
  unfolding is_pocket_port
  pocket-names j l h = sym (names_is C full counts S.pairs S.incidents r j l) ∙ (both (names full r j) (no_ramp_at boundaries j) h).0

  pocket-port : (j : ℕ) → j < C.count → pocket j ≡ true → Port j
  unfolding is_pocket_port names
  pocket-port j l h =
      let q = some_pair (pair_of full j) (contains r) (both (names full r j) (no_ramp_at boundaries j) h).0 in
      record { below = l; pair = q.0; is = sym (S.pairs.at j l) ∙ q.1 }

  pocket_incident : (j : ℕ) → j < C.count → pocket j ≡ true → is_incident C j r ≡ true
  pocket_incident j l h = named_incident C j r (pocket-names j l h)

  pocket-test : (j : ℕ) → j < C.count → pocket j ≡ true → test j ≡ true
  unfolding is_pocket_port
  pocket-test j l h = ap₂ ◌&&◌ (no_ramp_is boundaries full counts marks C S j l ∙ (both (names full r j) (no_ramp_at boundaries j) h).1) (ap is_some (pocket-port j l h).is)

  incident_pocket : (j : ℕ) → j < C.count → is_incident C j r ≡ true → test j ≡ true → pocket j ≡ true
  unfolding is_pocket_port
  incident_pocket j l h t =
      let tests = both (no_ramp C j) (is_some (full_pair C j)) t in
      ap₂ ◌&&◌ (names_is C full counts S.pairs S.incidents r j l ∙ sym (full_incident C j r tests.1) ∙ h) (sym (no_ramp_is boundaries full counts marks C S j l) ∙ tests.0)

  all_tested : all test (ports_of C r) ≡ all_below C.count (λ j. not (is_incident C j r) || test j)
  unfolding ports_of numbers_below
  all_tested = all_below_lem (λ j. is_incident C j r) test C.count

  same_ports : all test (ports_of C r) ≡ true → found pocket C.count ≡ ports_of C r
  unfolding ports_of
  same_ports h = collect_ext C.count (λ j. only_if (pocket j) j) (λ j. only_if (is_incident C j r) j) (λ j l. ap (λ b. only_if b j) (same_test (pocket_incident j l) (λ e. incident_pocket j l e (asked j l e))))
    where
      asked : (j : ℕ) → j < C.count → is_incident C j r ≡ true → test j ≡ true
      asked j l e = ap (λ b. not b || test j) (sym e) ∙ all_below_at C.count (λ j. not (is_incident C j r) || test j) (sym all_tested ∙ h) j l

  counted : length (ports_of C r) ≡ get_or counts (r - 1) 0
  unfolding ports_of incident_count
  counted = picked-length (λ j. is_incident C j r) (λ j. j) C.count ∙ S.incidents.at r low high

  ports-all : All Port (found pocket C.count)
  ports-all = collect-below Port (λ j. only_if (pocket j) j) C.count (λ j l. go j l (pocket j) refl)
    where
      go : (j : ℕ) → j < C.count → (b : Bool) → pocket j ≡ b → All Port (to_list (only_if b j))
      go j l true e = more (pocket-port j l e) done
      go j l false e = done

  -- three ports of the pocket are all that it has
  three-tested : get_or counts (r - 1) 0 ≡ 3 → length (found pocket C.count) ≡ 3 → all test (ports_of C r) ≡ true
  unfolding incident_count
  three-tested e h = all_tested ∙ all_intro (λ j. not (is_incident C j r) || test j) C.count (λ j l. go j l (pocket j) refl)
    where
      same : (j : ℕ) → j < C.count → is_incident C j r ≡ pocket j
      same = count_same pocket (λ j. is_incident C j r) C.count pocket_incident (sym (picked-length pocket (λ j. j) C.count) ∙ h ∙ sym (S.incidents.at r low high ∙ e))

      go : (j : ℕ) → j < C.count → (b : Bool) → pocket j ≡ b → (not (is_incident C j r) || test j) ≡ true
      go j l true d = ap₂ (λ x y. not x || y) (same j l ∙ d) (pocket-test j l d)
      go j l false d = ap (λ x. not x || test j) (same j l ∙ d)

  other-ports : (l : List ℕ) → (length l ≡ 3 → ⊥) → bridge_of_ports C r l ≡ None
  unfolding bridge_of_ports
  other-ports [] h = refl
  other-ports (i ∷ []) h = refl
  other-ports (i ∷ j ∷ []) h = refl
  other-ports (i ∷ j ∷ k ∷ []) h = absurd (h refl)
  other-ports (i ∷ j ∷ k ∷ x ∷ l) h = refl

  -- ---- the bridge

  abbrev whole : Option Proposal
  whole = is_bridge_at boundaries full marks r counts C.count

  none_row : None ≡ whole → bridge_proposal C r ≡ None → filter allowed (to_list whole) ≡ to_list (bridge_proposal C r)
  none_row e f = ap (λ o. filter allowed (to_list o)) (sym e) ∙ nothing ∙ ap to_list (sym f)

  proposal_is : {a b : Bool} → C.anchored r ≡ a → all test (ports_of C r) ≡ b → bridge_proposal C r ≡ cond (not a && b) (bridge_of_ports C r (ports_of C r)) None
  unfolding bridge_proposal
  proposal_is e f = λ x. cond (not (e x) && f x) (bridge_of_ports C r (ports_of C r)) None

  marked : {b : Bool} → C.anchored r ≡ b → mark_at marks r ≡ b
  marked e = sym (anchored_is boundaries full counts marks C S r low high) ∙ e

  pub bridge-row : filter allowed (to_list whole) ≡ to_list (bridge_proposal C r)
  bridge-row = go (C.anchored r) refl (all test (ports_of C r)) refl (eqb (get_or counts (r - 1) 0) 3) refl
    where
      go : (a : Bool) → C.anchored r ≡ a → (b : Bool) → all test (ports_of C r) ≡ b → (c : Bool) → eqb (get_or counts (r - 1) 0) 3 ≡ c → filter allowed (to_list whole) ≡ to_list (bridge_proposal C r)
      go true d b e c f = none_row (is_anchored boundaries full marks counts r C.count (marked d)) (proposal_is d e)
      go false d true e true f =
          ap (λ o. filter allowed (to_list o)) (sym (by_list boundaries full marks counts r C.count (eqb-true (get_or counts (r - 1) 0) 3 f) (marked d)))
          ∙ list-row ports-all ∙ ap (λ l. to_list (bridge_of_ports C r l)) (same_ports e) ∙ ap to_list (sym (proposal_is d e))
      go false d true e false f =
          none_row (other-count boundaries full marks counts r C.count (eqb-false (get_or counts (r - 1) 0) 3 f))
          (proposal_is d e ∙ other-ports (ports_of C r) (λ h. eqb-false (get_or counts (r - 1) 0) 3 f (sym counted ∙ h)))
      go false d false e true f =
          let three = eqb-true (get_or counts (r - 1) 0) 3 f in
          none_row (other_length boundaries full marks counts r C.count three (marked d) (λ h. true≢false (sym (three-tested three h) ∙ e))) (proposal_is d e)
      go false d false e false f = none_row (other-count boundaries full marks counts r C.count (eqb-false (get_or counts (r - 1) 0) 3 f)) (proposal_is d e)
