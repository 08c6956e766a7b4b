-- The bridges of junctions.rs as the Rust makes and ranks them, pocket by pocket, and that they are the definitions'. The argument: a port of a pocket that is a
-- full pair names the pocket, so that the region beyond it is the pair's other one; the groups of three ports are the three arrangements (BridgeGroups); and the tests
-- are the same conjunction in another order. Assumes nothing.
use Rattle.std.specs.Prelude.{ℕ, suc, ◌≡◌, Bool, ◌||◌, length, eqb, ltb, Option, None, Some}
use Rattle.std.proofs.Common.{arith, ◌∙◌, ne_eqb, eqb-true}
use Rattle.std.proofs.Math.Path.{refl, sym, ap, ap₂}
use Rattle.std.proofs.Math.Bool.{true, false, not, ◌&&◌, cond, or-false}
use Rattle.std.proofs.lemmas.Bool.{false≢true}
use mathlib.Core.List.{List, [], ◌∷◌}
use Rattle.definitions.specs.Scan.{any, all, only_if}
use Rattle.definitions.specs.Grid.{Pair, contains}
use Rattle.definitions.specs.Geometry.{center}
use Rattle.definitions.specs.RegionRecord.{has_ramp, strictly_flat}
use Rattle.definitions.specs.Context.{Context, holds, only_pair, full_cut, full_pair, is_incident, no_ramp}
use Rattle.definitions.specs.Junctions.{Proposal, beyond, is_some, within_radius, ports_of, port_exterior, is_shared, is_near_port, is_twice_as_wide, bridge_fits, bridge_at, pick_bridge, bridge_of_ports, bridge_proposal}
use Rattle.laws.specs.ListLaws.Lists.{All, done, more}
use Rattle.laws.specs.ListLaws.Tests.{both, and_fails}
use Rattle.laws.specs.SetLaws.Sets.{below-pass}
use Rattle.laws.specs.RustContext.IncidentMap.{incidents-below}
use Rattle.laws.specs.RustContext.ElevationMasks.{flat_is}
use Rattle.laws.specs.RustJunctions.BridgeGroups.{Group, Bridge, push_group, push_beyond, push_port, groups_from, bridge_if_near, wider_of, bridge_of_groups}
use Rattle.laws.proofs.RustJunctions.BridgeGroups.{arranged, three_groups_lem}
use Rattle.laws.specs.RustJunctions.Bridges.{pocket_bridge, stats_of, bridge_is_local, rank_bridge, radius_empty, never}

module _ (C : Context) (r : ℕ) where
  local_is : (i : ℕ) → bridge_is_local C i (stats_of C r) ≡ (not (has_ramp (C.region r)) && within_radius (C.region r) (center (C.boundary i).endpoints) && strictly_flat (C.region r) (C.region r))
  local_is i = go (ltb 0 (C.region r).cells) refl
    where
      go : (b : Bool) → ltb 0 (C.region r).cells ≡ b → bridge_is_local C i (only_if b (C.region r)) ≡ (not (has_ramp (C.region r)) && within_radius (C.region r) (center (C.boundary i).endpoints) && strictly_flat (C.region r) (C.region r))
      go true e = ap (λ b. not (has_ramp (C.region r)) && within_radius (C.region r) (center (C.boundary i).endpoints) && b) (flat_is (C.region r))
      go false e =
          and_fails (not (has_ramp (C.region r))) (strictly_flat (C.region r) (C.region r))
          ∙ ap (λ b. not (has_ramp (C.region r)) && b && strictly_flat (C.region r) (C.region r)) (sym (radius_empty (C.region r) (center (C.boundary i).endpoints) e))

  -- a port that is a full pair of the pocket
  port_pushed : (groups : List Group) (j : ℕ) (o : Option Pair) → holds o (contains r) ≡ true → push_port r groups j o ≡ push_group groups (beyond r o) j
  port_pushed groups j None h = absurd (false≢true h)
  port_pushed groups j (Some q) h = go (eqb q.lo r) (eqb q.hi r) h
    where
      go : (a b : Bool) → (a || b) ≡ true → push_beyond groups j (cond a (Some q.hi) (cond b (Some q.lo) None)) ≡ push_group groups (cond a q.hi q.lo) j
      go true b h = refl
      go false true h = refl
      go false false h = absurd (false≢true h)

  -- the tests of a bridge i, where the ports are i, k and t in some order
  fits_is : (ports : List ℕ) (i k t : ℕ) → all (is_near_port C i) ports ≡ (is_near_port C i i && is_near_port C i k && is_near_port C i t) → (all (is_near_port C i) ports && bridge_is_local C i (stats_of C r)) ≡ bridge_fits C r i k t
  unfolding bridge_fits
  fits_is ports i k t a =
      ap₂ ◌&&◌ a (local_is i)
      ∙ order (is_near_port C i i && is_near_port C i k && is_near_port C i t) (not (has_ramp (C.region r))) (within_radius (C.region r) (center (C.boundary i).endpoints)) (strictly_flat (C.region r) (C.region r))
    where
      order : (n a b c : Bool) → (n && (a && b && c)) ≡ (n && a && b && c)
      order true a b c = refl
      order false a b c = refl

  rank-near : (ports : List ℕ) (i k t e : ℕ) → all (is_near_port C i) ports ≡ (is_near_port C i i && is_near_port C i k && is_near_port C i t) → port_exterior C r i ≡ e → rank_bridge C r (bridge_if_near C ports e i) ≡ bridge_at C r i k t
  unfolding bridge_if_near bridge_at
  rank-near ports i k t e a f = go (all (is_near_port C i) ports) ∙ (λ x. only_if (fits_is ports i k t a x) (record { index = i; kind = 1; first = r; second = sym f x }))
    where
      go : (b : Bool) → rank_bridge C r (only_if b (record { index = i; exterior = e })) ≡ only_if (b && bridge_is_local C i (stats_of C r)) (record { index = i; kind = 1; first = r; second = e })
      go true = refl
      go false = refl

  -- the ports are i, k and t in some order
  abbrev Near : List ℕ → ℕ → ℕ → ℕ → Type 0
  Near ports i k t = (j : ℕ) → all (is_near_port C j) ports ≡ (is_near_port C j i && is_near_port C j k && is_near_port C j t)

  rank-wider : (ports : List ℕ) (i k t : ℕ) → Near ports i k t → port_exterior C r k ≡ port_exterior C r i → rank_bridge C r (wider_of C ports (port_exterior C r i) i k) ≡ pick_bridge C r i k t
  unfolding wider_of pick_bridge
  rank-wider ports i k t n f = go (is_twice_as_wide C i k) (is_twice_as_wide C k i)
    where
      swap : (a b c : Bool) → (a && b && c) ≡ (b && a && c)
      swap true true c = refl
      swap true false c = refl
      swap false true c = refl
      swap false false c = refl

      go : (a b : Bool) → rank_bridge C r (cond a (bridge_if_near C ports (port_exterior C r i) i) (cond b (bridge_if_near C ports (port_exterior C r i) k) None)) ≡ cond a (bridge_at C r i k t) (cond b (bridge_at C r k i t) None)
      go true b = rank-near ports i k t (port_exterior C r i) (n i) refl
      go false true = rank-near ports k i t (port_exterior C r i) (n k ∙ swap (is_near_port C k i) (is_near_port C k k) (is_near_port C k t)) f
      go false false = refl

  shared_same : (i k t : ℕ) → is_shared C r i k t ≡ true → port_exterior C r k ≡ port_exterior C r i
  unfolding is_shared
  shared_same i k t h =
      let tests = both (eqb (port_exterior C r i) (port_exterior C r k) && not (eqb (port_exterior C r t) (port_exterior C r i))) (C.anchored (port_exterior C r t)) h in
      sym (eqb-true (port_exterior C r i) (port_exterior C r k) (both (eqb (port_exterior C r i) (port_exterior C r k)) (not (eqb (port_exterior C r t) (port_exterior C r i))) tests.0).0)

  rank-shared : (ports : List ℕ) (i k t : ℕ) → Near ports i k t → (o : Option Bridge) (o' : Option Proposal) → rank_bridge C r o ≡ o' → rank_bridge C r (cond (is_shared C r i k t) (wider_of C ports (port_exterior C r i) i k) o) ≡ cond (is_shared C r i k t) (pick_bridge C r i k t) o'
  rank-shared ports i k t n o o' h = go (is_shared C r i k t) refl
    where
      go : (b : Bool) → is_shared C r i k t ≡ b → rank_bridge C r (cond b (wider_of C ports (port_exterior C r i) i k) o) ≡ cond b (pick_bridge C r i k t) o'
      go true e = rank-wider ports i k t n (shared_same i k t e)
      go false e = h

  groups-three : (i j k : ℕ) → All (λ j. holds (full_pair C j) (contains r) ≡ true) (i ∷ j ∷ k ∷ []) → groups_from (full_pair C) r [] (i ∷ j ∷ k ∷ []) ≡ push_group (push_group (push_group [] (port_exterior C r i) i) (port_exterior C r j) j) (port_exterior C r k) k
  unfolding groups_from port_exterior
  groups-three i j k (more a (more b (more c done))) =
      ap (λ l. push_port r (push_port r l j (full_pair C j)) k (full_pair C k)) (port_pushed [] i (full_pair C i) a)
      ∙ ap (λ l. push_port r l k (full_pair C k)) (port_pushed (push_group [] (beyond r (full_pair C i)) i) j (full_pair C j) b)
      ∙ port_pushed (push_group (push_group [] (beyond r (full_pair C i)) i) (beyond r (full_pair C j)) j) k (full_pair C k) c

  -- the three arrangements
  arranged_is : (i j k : ℕ) → rank_bridge C r (arranged C (i ∷ j ∷ k ∷ []) i j k (port_exterior C r i) (port_exterior C r j) (port_exterior C r k)) ≡ cond (is_shared C r i j k) (pick_bridge C r i j k) (cond (is_shared C r i k j) (pick_bridge C r i k j) (cond (is_shared C r j k i) (pick_bridge C r j k i) None))
  unfolding all is_shared
  arranged_is i j k =
      rank-shared (i ∷ j ∷ k ∷ []) i j k (λ m. first (is_near_port C m i) (is_near_port C m j) (is_near_port C m k))
      (cond (is_shared C r i k j) (wider_of C (i ∷ j ∷ k ∷ []) (port_exterior C r i) i k) (cond (is_shared C r j k i) (wider_of C (i ∷ j ∷ k ∷ []) (port_exterior C r j) j k) None))
      (cond (is_shared C r i k j) (pick_bridge C r i k j) (cond (is_shared C r j k i) (pick_bridge C r j k i) None))
      (rank-shared (i ∷ j ∷ k ∷ []) i k j (λ m. second (is_near_port C m i) (is_near_port C m j) (is_near_port C m k))
      (cond (is_shared C r j k i) (wider_of C (i ∷ j ∷ k ∷ []) (port_exterior C r j) j k) None)
      (cond (is_shared C r j k i) (pick_bridge C r j k i) None)
      (rank-shared (i ∷ j ∷ k ∷ []) j k i (λ m. third (is_near_port C m i) (is_near_port C m j) (is_near_port C m k)) None None refl))
    where
      first : (a b c : Bool) → (a && (b && (c && true))) ≡ (a && b && c)
      first true true true = refl
      first true true false = refl
      first true false c = refl
      first false b c = refl

      second : (a b c : Bool) → (a && (b && (c && true))) ≡ (a && c && b)
      second true true true = refl
      second true true false = refl
      second true false true = refl
      second true false false = refl
      second false b c = refl

      third : (a b c : Bool) → (a && (b && (c && true))) ≡ (b && c && a)
      third true true true = refl
      third true true false = refl
      third true false c = refl
      third false true true = refl
      third false true false = refl
      third false false c = refl

  -- of three ports, each a full pair of the pocket
  pub bridge_of_three_lem : (i j k : ℕ) → All (λ j. holds (full_pair C j) (contains r) ≡ true) (i ∷ j ∷ k ∷ []) → rank_bridge C r (bridge_of_groups C (i ∷ j ∷ k ∷ []) (groups_from (full_pair C) r [] (i ∷ j ∷ k ∷ []))) ≡ bridge_of_ports C r (i ∷ j ∷ k ∷ [])
  unfolding bridge_of_ports
  bridge_of_three_lem i j k a =
      ap (λ l. rank_bridge C r (bridge_of_groups C (i ∷ j ∷ k ∷ []) l)) (groups-three i j k a)
      ∙ ap (rank_bridge C r) (three_groups_lem C (i ∷ j ∷ k ∷ []) i j k (port_exterior C r i) (port_exterior C r j) (port_exterior C r k))
      ∙ arranged_is i j k

  -- an incident of the pocket that is a full pair names the pocket
  incident_full : (j : ℕ) → is_incident C j r ≡ true → is_some (full_pair C j) ≡ true → holds (full_pair C j) (contains r) ≡ true
  unfolding is_incident full_pair
  incident_full j h k = go (full_cut C j) (C.pairs j) h k
    where
      go : (b : Bool) (l : List Pair) → any (contains r) l ≡ true → is_some (only_pair b l) ≡ true → holds (only_pair b l) (contains r) ≡ true
      go true [] h k = absurd (false≢true h)
      go true (p ∷ []) h k = sym (or-false (contains r p)) ∙ h
      go true (p ∷ q ∷ l) h k = absurd (false≢true k)
      go false l h k = absurd (false≢true k)

  -- `ramp.is_some() || full_pair(..).is_none()`, of no port
  abbrev usable : ℕ → Bool
  usable j = no_ramp C j && is_some (full_pair C j)

  ports-full : {l : List ℕ} → All (λ j. is_incident C j r ≡ true) l → all usable l ≡ true → All (λ j. holds (full_pair C j) (contains r) ≡ true) l
  unfolding all
  ports-full done h = done
  ports-full (more {x = j} {l = l} a b) h =
      let tests = both (usable j) (all usable l) h in
      more (incident_full j a (both (no_ramp C j) (is_some (full_pair C j)) tests.0).1) (ports-full b tests.1)

  none_unusable : (l : List ℕ) → any (λ j. not (no_ramp C j) || not (is_some (full_pair C j))) l ≡ not (all usable l)
  unfolding any all
  none_unusable [] = refl
  none_unusable (j ∷ l) = ap (λ b. not (no_ramp C j) || not (is_some (full_pair C j)) || b) (none_unusable l) ∙ order (no_ramp C j) (is_some (full_pair C j)) (all usable l)
    where
      order : (a b c : Bool) → (not a || not b || not c) ≡ not (a && b && c)
      order true true c = refl
      order true false c = refl
      order false b c = refl

  -- the ports, if they are usable
  abbrev validated : List ℕ → Option Bridge
  validated l = cond (any (λ j. not (no_ramp C j) || not (is_some (full_pair C j))) l) None (bridge_of_groups C l (groups_from (full_pair C) r [] l))

  three-validated : (i j k : ℕ) → All (λ j. is_incident C j r ≡ true) (i ∷ j ∷ k ∷ []) → rank_bridge C r (validated (i ∷ j ∷ k ∷ [])) ≡ cond (all usable (i ∷ j ∷ k ∷ [])) (bridge_of_ports C r (i ∷ j ∷ k ∷ [])) None
  three-validated i j k a = ap (λ b. rank_bridge C r (cond b None (bridge_of_groups C (i ∷ j ∷ k ∷ []) (groups_from (full_pair C) r [] (i ∷ j ∷ k ∷ []))))) (none_unusable (i ∷ j ∷ k ∷ [])) ∙ go (all usable (i ∷ j ∷ k ∷ [])) refl
    where
      go : (b : Bool) → all usable (i ∷ j ∷ k ∷ []) ≡ b → rank_bridge C r (cond (not b) None (bridge_of_groups C (i ∷ j ∷ k ∷ []) (groups_from (full_pair C) r [] (i ∷ j ∷ k ∷ [])))) ≡ cond b (bridge_of_ports C r (i ∷ j ∷ k ∷ [])) None
      go true e = bridge_of_three_lem i j k (ports-full a e)
      go false e = refl

  -- by the number of ports
  counted : (l : List ℕ) → All (λ j. is_incident C j r ≡ true) l → rank_bridge C r (cond (not (eqb (length l) 3)) None (validated l)) ≡ cond (all usable l) (bridge_of_ports C r l) None
  unfolding bridge_of_ports
  counted [] a = never (all usable [])
  counted (i ∷ []) a = never (all usable (i ∷ []))
  counted (i ∷ j ∷ []) a = never (all usable (i ∷ j ∷ []))
  counted (i ∷ j ∷ k ∷ []) a = three-validated i j k a
  counted (i ∷ j ∷ k ∷ x ∷ l) a =
      ap (λ b. rank_bridge C r (cond (not b) None (validated (i ∷ j ∷ k ∷ x ∷ l)))) (ne_eqb (suc (suc (suc (suc (length l))))) 3 (λ e. omega arith)) ∙ never (all usable (i ∷ j ∷ k ∷ x ∷ l))

  incidents-pass : All (λ j. is_incident C j r ≡ true) (ports_of C r)
  incidents-pass = rw (incidents-below C r) (below-pass (λ j. is_incident C j r) C.count)

  -- a pocket
  pub pocket_is : rank_bridge C r (pocket_bridge C (full_pair C) r (ports_of C r)) ≡ bridge_proposal C r
  unfolding pocket_bridge bridge_proposal
  pocket_is = go (C.anchored r) (counted (ports_of C r) incidents-pass)
    where
      go : (b : Bool) → rank_bridge C r (cond (not (eqb (length (ports_of C r)) 3)) None (validated (ports_of C r))) ≡ cond (all usable (ports_of C r)) (bridge_of_ports C r (ports_of C r)) None → rank_bridge C r (cond (b || not (eqb (length (ports_of C r)) 3)) None (validated (ports_of C r))) ≡ cond (not b && all usable (ports_of C r)) (bridge_of_ports C r (ports_of C r)) None
      go true h = refl
      go false h = h
